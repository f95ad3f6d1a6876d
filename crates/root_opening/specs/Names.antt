-- The names of a root, as they are read one after the other.
use Rattle.std.specs.Prelude.{◌≡◌, ◌⊎◌, ⊤, ℕ, ◌≤◌, List, map, length, filter, take, slice_get, All, Some, true}
use Rattle.root_store.specs.part_set.declared.root_name.RootName.{RootName}
use Rattle.root_store.specs.part_set.RootNames.{IsRootName, root_text}
use Rattle.root_opening.specs.declared.names.NameFault.{NameFault}
use Rattle.root_opening.specs.declared.names.NameFault.TheVariants as fault
use Rattle.root_store.specs.Damage.{IsBadName, is_entry_name, most_tables}

-- how many of the names are of tables
abbrev pub creates_in : List RootName → ℕ
creates_in names = length (filter is_entry_name names)

-- the texts are those of these names, each of the grammar
pub record AreNamesOf (texts : List (List ℕ)) (read : List RootName) : Type 0 where
  pub sound : All IsRootName read
  pub spelled : map root_text read ≡ texts

-- a text is a bad name after so many tables
abbrev pub IsBadBehind : ℕ → List ℕ → Type 0
IsBadBehind tables text =
    ((n : RootName) → IsRootName n → root_text n ≡ text → ⊥)
    ⊎ ((n : RootName) × IsRootName n × (root_text n ≡ text) × (is_entry_name n ≡ true) × (tables ≡ most_tables))

-- the first of the texts that is a bad name is at the place
pub record IsFirstBadText (texts : List (List ℕ)) (place : ℕ) : Type 0 where
  pub text : List ℕ
  pub here : slice_get texts place ≡ Some text
  pub before : List RootName
  pub read : AreNamesOf (take place texts) before
  pub few : creates_in before ≤ most_tables
  pub bad : IsBadName before text

-- the fault is out of memory, or is of the first bad name
abbrev pub TellsBad : List (List ℕ) → NameFault → Type 0
TellsBad texts fault.NoMemory = ⊤
TellsBad texts (fault.Bad place) = IsFirstBadText texts place

-- the fault is out of memory, or is told of this place
abbrev pub IsOfPlace : ℕ → NameFault → Type 0
IsOfPlace place fault.NoMemory = ⊤
IsOfPlace place (fault.Bad at) = at ≡ place
