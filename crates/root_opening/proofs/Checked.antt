-- What is told of a name's folder that was opened and checked.
use Rattle.std.proofs.Common.{◌≡◌, ℕ, List, refl, sym, ap, ◌∙◌, subst, Option, Some, None}
use Rattle.std.specs.Option.{ForSome, IsSome, option_and_then}
use Rattle.mt_base.specs.declared.name.FileId.{FileId}
use Rattle.mt_outside.specs.Disk.{Names, Told, files_at, names_of}
use Rattle.mt_outside.specs.Files.{Files}
use Rattle.root_opening.specs.declared.opening.Damage.{Damage}
use Rattle.root_opening.specs.declared.opening.Damage.TheVariants as damage
use Rattle.root_opening.specs.declared.opening.OpenFault.{OpenFault}
use Rattle.root_opening.specs.declared.opening.OpenFault.TheVariants as fault
use Rattle.root_opening.specs.Keeping.{IsDamageOf, TellsFile}

-- the folder of a name that is there
pub record IsFolder (names : Names) (text : List ℕ) (got : Option Files) : Type 0 where
  pub files : Files
  pub there : files_at text names ≡ Some files
  pub is : got ≡ Some files

some_files : (o : Option Files) → IsSome o → (files : Files) × (o ≡ Some files)
some_files None some = absurd cc
some_files (Some files) some = (files, refl)

-- the folder that a disk opens is that of the name, where it tells
pub folder_of : (told : Option Told) (text : List ℕ) (t : Told) → told ≡ Some t → ForSome told (λ u. IsSome (files_at text (names_of u))) → IsFolder (names_of t) text (option_and_then (λ u. files_at text (names_of u)) told)
folder_of None text t is there = absurd cc
folder_of (Some u) text t is there =
    let found = some_files (files_at text (names_of u)) (there u refl) in
    let same : u ≡ t = cc in
    record { files = found.0; there = ap (λ (x : Told). files_at text (names_of x)) (sym same) ∙ found.1; is = found.1 }

module _ (names : Names) (text : List ℕ) where
  -- the damage of a file of this name's folder is told so
  pub damage_told : (Is : Files → FileId → Type 0) (files : Files) (f : FileId) (e : OpenFault) → files_at text names ≡ Some files → Is files f → IsDamageOf text f e → TellsFile names text Is e
  damage_told Is files f fault.NoMemory there is told = tt
  damage_told Is files f fault.Disk there is told = tt
  damage_told Is files f (fault.Damaged d) there is told =
      subst (λ (x : Damage). TellsFile names text Is (fault.Damaged x)) (sym told) (record { spelled = refl; files = files; there = there; is = is })

  -- what is told of a damaged file follows from what holds of it
  pub told_weaker : (P Q : Files → FileId → Type 0) → ((files : Files) (f : FileId) → files_at text names ≡ Some files → P files f → Q files f) → (e : OpenFault) → TellsFile names text P e → TellsFile names text Q e
  told_weaker P Q then fault.NoMemory told = tt
  told_weaker P Q then fault.Disk told = tt
  told_weaker P Q then (fault.Damaged (damage.Name n)) told = told
  told_weaker P Q then (fault.Damaged (damage.Orphan n)) told = told
  told_weaker P Q then (fault.Damaged (damage.Overlap m n)) told = told
  told_weaker P Q then (fault.Damaged (damage.File n f)) told = record { spelled = told.spelled; files = told.files; there = told.there; is = then told.files f told.there told.is }
