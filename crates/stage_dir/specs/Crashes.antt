-- What a crash leaves under the name of a sealed stage (docs/architecture.md, "Stages").
use Rattle.std.specs.Prelude.{◌≡◌, ◌≢◌, ℕ, ◌≤◌, List, [], ◌∷◌, ◌++◌, IsSomeAnd}
use Rattle.mt_base.specs.declared.name.FileId.{FileId}
use Rattle.mt_outside.specs.declared.disk.Change.{Change}
use Rattle.mt_outside.specs.declared.disk.Change.TheVariants.{Publish, Remove}
use Rattle.mt_outside.specs.Files.{Files, bytes_of}
use Rattle.mt_outside.specs.Disk.{Told, Names, AllBy, files_at, with_change}
use Rattle.stage_dir.specs.Stages.{AreSealed}

-- the change is of another name
abbrev pub IsOfOther : List ℕ → Change Files → Type 0
IsOfOther name (Publish other files) = other ≢ name
IsOfOther name (Remove other) = other ≢ name

-- the changes were made from a mark on, and each is of another name
abbrev pub AreOfOthers : ℕ → List ℕ → Told → Type 0
AreOfOthers clock name [] = Unit {0}
AreOfOthers clock name (s ∷ ss) = (clock ≤ s.clock) × IsOfOther name s.change × AreOfOthers clock name ss

-- sealed files were published under a name at a mark, after what was told before; since then other names alone have changed
pub record WasPublished (before : Told) (clock : ℕ) (name : List ℕ) (files : Files) (now : Told) : Type 0 where
  pub marks : AllBy clock before
  pub sealed : AreSealed files
  pub since : Told
  pub others : AreOfOthers clock name since
  pub told : now ≡ with_change clock (Publish name files) before ++ since

-- the name is there, and each file of it has the same bytes as here, or none where there is none here
abbrev pub HoldsExactly : List ℕ → Files → Names → Type 0
HoldsExactly name files names = IsSomeAnd (files_at name names) (λ found. (file : FileId) → bytes_of file found ≡ bytes_of file files)
