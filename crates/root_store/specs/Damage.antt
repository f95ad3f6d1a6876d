-- What keeps a root from being opened, in the order of checking (docs/replies.md, "Damage").
use Rattle.std.specs.Prelude.{◌≡◌, ◌⊎◌, ℕ, ◌<◌, ◌≤◌, Bool, true, false, List, length, filter, take, slice_get, Some}
use Rattle.mt_base.specs.declared.name.FileId.{FileId}
use Rattle.mt_base.specs.declared.name.FileId.TheVariants as file
use Rattle.mt_values.specs.declared.schema.Schema.{Schema}
use Rattle.mt_values.specs.Tables.{MayHavePartition}
use Rattle.mt_outside.specs.Disk.{Names, files_at}
use Rattle.mt_outside.specs.Files.{Files}
use Rattle.part_reader.specs.DamagedFile.{damaged_file}
pub use Rattle.mt_base.specs.Limits.{root_table_limit as most_tables}
use Rattle.table_core.specs.part_set.declared.root_name.RootName.{RootName}
use Rattle.table_core.specs.part_set.declared.root_name.RootName.TheVariants as root
use Rattle.table_core.specs.part_set.declared.root_name.TablePart.{TablePart}
use Rattle.table_core.specs.part_set.RootNames.{IsRootName, root_text}
use Rattle.table_core.specs.part_set.Visible.{IsVisible}
use Rattle.root_store.specs.Entries.{EntryHolds}
use Rattle.root_store.specs.Roots.{AreNamesRead, HasFolder}

abbrev pub is_entry_name : RootName → Bool
is_entry_name (root.Create table) = true
is_entry_name (root.Part part) = false

-- Names before a place are of the grammar, and there are not too many of tables among them.
pub record AreReadUpTo (names : Names) (place : ℕ) (read : List RootName) : Type 0 where
  pub are : AreNamesRead (take place names) read
  pub few : length (filter is_entry_name read) ≤ most_tables

-- a name that is none of the grammar, or a table's after too many
abbrev pub IsBadName : List RootName → List ℕ → Type 0
IsBadName before name =
    ((n : RootName) → IsRootName n → root_text n ≡ name → ⊥)
    ⊎ ((n : RootName) × IsRootName n × (root_text n ≡ name) × (is_entry_name n ≡ true) × (length (filter is_entry_name before) ≡ most_tables))

-- the first bad name is at the place
pub record IsFirstBadName (names : Names) (place : ℕ) (name : List ℕ) : Type 0 where
  pub files : Files
  pub here : slice_get names place ≡ Some (name, files)
  pub before : List RootName
  pub read : AreReadUpTo names place before
  pub bad : IsBadName before name

-- of the entry of a table: `entry.bin` is none that gives the table a schema
abbrev pub EntryDamaged : Names → List ℕ → Files → Type 0
EntryDamaged names table files = (schema : Schema) → EntryHolds table schema files → ⊥

-- of a part of a table whose entry holds this schema: the first damaged file, or the manifest where the table can't have the part's partition
abbrev pub PartDamaged : Schema → TablePart → Files → FileId → Type 0
PartDamaged schema part files f =
    ((MayHavePartition schema part.name.partition → ⊥) × (f ≡ file.Manifest))
    ⊎ (MayHavePartition schema part.name.partition × (damaged_file schema files ≡ Some f))

-- a file of the entry or of the visible part that a name is
abbrev pub IsDamaged : Names → List RootName → RootName → Files → FileId → Type 0
IsDamaged names read (root.Create table) files f = EntryDamaged names table files × (f ≡ file.Entry)
IsDamaged names read (root.Part part) files f =
    IsVisible read part × ((schema : Schema) × HasFolder names (root_text (root.Create part.table)) (EntryHolds part.table schema) × PartDamaged schema part files f)

-- the name at a place has this damaged file
abbrev pub DamagedAt : Names → List RootName → ℕ → FileId → Type 0
DamagedAt names read place f = (n : RootName) × (files : Files) × (slice_get read place ≡ Some n) × (files_at (root_text n) names ≡ Some files) × IsDamaged names read n files f

-- and none before it has any
pub record IsFirstDamaged (names : Names) (read : List RootName) (place : ℕ) (f : FileId) : Type 0 where
  pub here : DamagedAt names read place f
  pub first : (k : ℕ) (g : FileId) → k < place → DamagedAt names read k g → ⊥
