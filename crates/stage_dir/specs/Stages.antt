-- A stage whose files grow, and are each synced once (docs/architecture.md, "Stages").
use Rattle.std.specs.Prelude.{◌≡◌, ℕ, ◌≤◌, Bool, true, false, List, [], ◌∷◌, ◌++◌, map, All, AllPairs, Option, if◌then◌else◌}
use Rattle.std.specs.List.{list_any}
use Rattle.std.specs.Option.{ForSome}
use Rattle.mt_base.specs.declared.name.FileId.{FileId}
use Rattle.mt_base.specs.Files.{same_file}
use Rattle.mt_outside.specs.declared.disk.Written.{Written}
use Rattle.mt_outside.specs.declared.disk.DiskError.{DiskError}
use Rattle.mt_outside.specs.declared.disk.DiskError.TheVariants.{Fault, NoMemory}
use Rattle.mt_outside.specs.Causes.{Rose}
use Rattle.mt_outside.specs.Files.{Files}

-- a stage that is being filled: the files that it has so far, in the order in which they were made, what the stage tells, and its failed calls
pub record Filling : Type 0 where
  pub names : List FileId
  pub files : Option Files
  pub failed : ℕ

-- a stage whose files are all written: what it tells, and its failed calls
pub record Filled : Type 0 where
  pub files : Option Files
  pub failed : ℕ

-- the file is one of these
abbrev pub has_file : FileId → List FileId → Bool
has_file file names = list_any (λ name. same_file name file) names

-- which files a folder has
abbrev pub names_in : Files → List FileId
names_in files = map (λ (w : Written). w.file) files

-- the files with this one among them: where it is none of them it comes last
abbrev pub with_file : FileId → List FileId → List FileId
with_file file names = if has_file file names then names else names ++ file ∷ []

-- no file stands in the list twice
abbrev pub EachOnce : List FileId → Type 0
EachOnce names = AllPairs (λ f g. same_file f g ≡ false) names

-- no write has failed: what the stage tells of are its files
abbrev pub IsIntact : Filling → Type 0
IsIntact filling = ForSome filling.files (λ files. names_in files ≡ filling.names)

-- a file that was written and is not yet synced
abbrev pub written : FileId → List ℕ → Written
written file bytes = record { file = file; bytes = bytes; synced = false }

-- the same files with the same bytes, each synced
abbrev pub settled : Files → Files
settled files = map (λ (w : Written). record { file = w.file; bytes = w.bytes; synced = true }) files

-- the files with their bytes, synced or not
abbrev pub contents : Files → List (FileId × List ℕ)
contents files = map (λ (w : Written). (w.file, w.bytes)) files

-- each file stands in the folder once, and was synced
pub record AreSealed (files : Files) : Type 0 where
  pub once : EachOnce (names_in files)
  pub synced : All (λ (w : Written). w.synced ≡ true) files

-- a count never falls; it rises where a fault is the cause, and there alone
pub record IsCauseOf (before now : ℕ) (cause : DiskError) : Type 0 where
  pub later : before ≤ now
  pub failed : cause ≡ Fault → Rose before now
  pub memory : cause ≡ NoMemory → now ≡ before
