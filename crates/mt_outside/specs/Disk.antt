-- What a disk tells, and what a crash may leave of it (docs/architecture.md, "Crashes").
use Rattle.std.specs.Prelude.{◌≡◌, ◌⊎◌, ℕ, ◌≤◌, true, List, [], ◌∷◌, ◌++◌, take, Option, Some, None, filter, nat_lt, ◌==◌}
use Rattle.std.specs.Option.{option_map}
use Rattle.std.specs.Map.{lookup, remove_entry}
use Rattle.std.specs.BTreeMap.{insert_entry, is_at}
use Rattle.std.specs.Ordering.{nat_cmp}
use Rattle.std.specs.Cmp.Lexicographic.{slice_cmp}
use Rattle.mt_base.specs.declared.name.FileId.{FileId}
use Rattle.mt_outside.specs.declared.disk.Stamped.{Stamped}
use Rattle.mt_outside.specs.declared.disk.Change.{Change}
use Rattle.mt_outside.specs.declared.disk.Change.TheVariants.{Publish, Remove}
use Rattle.mt_outside.specs.Files.{Files, bytes_of, is_synced}

-- names with their folders, in the byte order of the names
abbrev pub Names : Type 0
Names = List (List ℕ × Files)

-- what changed the names of a disk that began empty, in order, each change with the mark at which it was made
abbrev pub Told : Type 0
Told = List (Stamped Files)

-- the folder of a name
abbrev pub files_at : List ℕ → Names → Option Files
files_at name names = lookup (is_at (slice_cmp nat_cmp name)) names

-- the names after one change
abbrev pub changed : Names → Change Files → Names
changed names (Publish name files) = insert_entry (slice_cmp nat_cmp) names name files
changed names (Remove name) = remove_entry (is_at (slice_cmp nat_cmp name)) names

-- the names after these changes, the first of them first
abbrev pub names_after : Names → List (Stamped Files) → Names
names_after names [] = names
names_after names (s ∷ ss) = names_after (changed names s.change) ss

-- the names as they read
abbrev pub names_of : Told → Names
names_of told = names_after [] told

-- one more change
abbrev pub with_change : ℕ → Change Files → Told → Told
with_change clock change told = told ++ record { clock = clock; change = change } ∷ []

-- told after a publish, where both disk and stage tell
abbrev pub put : ℕ → List ℕ → Option Files → Option Told → Option Told
put clock name None told = None
put clock name (Some files) told = option_map (with_change clock (Publish name files)) told

-- told after a remove
abbrev pub cut : ℕ → List ℕ → Option Told → Option Told
cut clock name told = option_map (with_change clock (Remove name)) told

-- after a fault of publish the name is there or not
abbrev pub MayPut : ℕ → List ℕ → Option Files → Option Told → Option Told → Type 0
MayPut clock name files old new = (new ≡ old) ⊎ (new ≡ put clock name files old)

-- after a fault of remove the name is there or not
abbrev pub MayCut : ℕ → List ℕ → Option Told → Option Told → Type 0
MayCut clock name old new = (new ≡ old) ⊎ (new ≡ cut clock name old)

-- a file whose last append was synced keeps its bytes, another has any
pub record MayBecome (old new : Files) : Type 0 where
  pub kept : (file : FileId) → is_synced file old ≡ true → bytes_of file new ≡ bytes_of file old

-- the same names, each with its files as a crash may leave them
abbrev pub Survive : Names → Names → Type 0
Survive [] [] = Unit {0}
Survive [] (n ∷ new) = ⊥
Survive (o ∷ old) [] = ⊥
Survive (o ∷ old) (n ∷ new) = (o.0 ≡ n.0) × MayBecome o.1 n.1 × Survive old new

-- each of the changes has happened or not, by itself
abbrev pub MayLead : Names → List (Stamped Files) → Names → Type 0
MayLead from [] to = Survive from to
MayLead from (s ∷ ss) to = MayLead from ss to ⊎ MayLead (changed from s.change) ss to

-- the changes that were settled when the mark rose to this
abbrev pub before_clock : ℕ → Told → Told
before_clock clock told = filter (λ s. nat_lt s.clock clock) told

-- the changes that were made while the mark stood at this
abbrev pub at_clock : ℕ → Told → Told
at_clock clock told = filter (λ s. s.clock == clock) told

-- what a crash might have left after the first n of the changes that were made at a mark
abbrev pub LeftAt : Told → ℕ → ℕ → Names → Type 0
LeftAt told clock n names = MayLead (names_after [] (before_clock clock told)) (take n (at_clock clock told)) names

-- what a crash now may leave: of what isn't settled, each by itself has happened or not
abbrev pub Image : Told → ℕ → Names → Type 0
Image told clock names = MayLead (names_after [] (before_clock clock told)) (at_clock clock told) names

-- what a crash at some moment since the mark stood at since might have left
abbrev pub Since : Told → ℕ → ℕ → Names → Type 0
Since told clock since names = (c n : ℕ) × (since ≤ c) × (c ≤ clock) × LeftAt told c n names

-- no change is stamped with a mark that is still to come
abbrev pub AllBy : ℕ → Told → Type 0
AllBy clock [] = Unit {0}
AllBy clock (s ∷ ss) = (s.clock ≤ clock) × AllBy clock ss

-- what is settled stands before what isn't, and no change is stamped with a mark that is still to come
abbrev pub IsStamped : ℕ → Told → Type 0
IsStamped clock told = told ≡ before_clock clock told ++ at_clock clock told

-- one of these names more, where it was not there yet: a crash may leave its files as they may become
pub record WithPublished (Before : Names → Type 0) (name : List ℕ) (files : Files) (names : Names) : Type 0 where
  pub old : Names
  pub left : Files
  pub before : Before old
  pub become : MayBecome files left
  pub is : names ≡ insert_entry (slice_cmp nat_cmp) old name left

-- A disk that was started again after a crash at some moment since a mark: all that it tells is settled, and what a crash may leave of it,
-- that crash might have left.
pub record IsStartedAgain (told : Told) (clock since : ℕ) (now : Told) (mark : ℕ) : Type 0 where
  pub stamped : IsStamped mark now
  pub settled : at_clock mark now ≡ []
  pub images : (names : Names) → Image now mark names → Since told clock since names
