-- What the names of a root that were gone over left in the store, and what is told of one of them that is damaged.
use Rattle.std.specs.Prelude.{◌≡◌, ◌⊎◌, ⊤, ℕ, ◌<◌, ◌≤◌, List, [], All, map, slice_get, Option, Some, None, IsSome}
use Rattle.mt_base.specs.declared.name.FileId.{FileId}
use Rattle.mt_values.specs.declared.schema.Schema.{Schema}
use Rattle.mt_values.specs.RootNames.{create_name}
use Rattle.mt_values.specs.Tables.{MayHavePartition}
use Rattle.mt_outside.specs.declared.disk.DiskError.{DiskError}
use Rattle.mt_outside.specs.declared.disk.DiskError.TheVariants as failure
use Rattle.mt_outside.specs.Disk.{Names, Told, files_at, names_of}
use Rattle.mt_outside.specs.Files.{Files}
use Rattle.root_store.specs.mt_model.History.{IsTableSchema}
use Rattle.root_store.specs.part_name.declared.part.PartName.{PartName}
use Rattle.root_store.specs.part_reader.declared.reading.Part.{Part}
use Rattle.root_store.specs.part_reader.DamagedFile.{damaged_file}
use Rattle.root_store.specs.part_reader.Sound.{IsLoadedOf}
use Rattle.root_store.specs.part_set.declared.kept.Kept.{Kept}
use Rattle.root_store.specs.part_set.declared.root_name.RootName.{RootName}
use Rattle.root_store.specs.part_set.declared.root_name.TablePart.{TablePart}
use Rattle.root_store.specs.part_set.declared.roots.SetFault.{SetFault}
use Rattle.root_store.specs.part_set.declared.roots.SetFault.TheVariants as set
use Rattle.root_store.specs.part_set.NameOrder.{Rise}
use Rattle.root_store.specs.part_set.Parts.{HasName, IsInBlockOrder}
use Rattle.root_store.specs.part_set.RootNames.{root_text}
use Rattle.root_store.specs.part_set.Sets.{parts_of}
use Rattle.root_store.specs.part_set.Shows.{Shows}
use Rattle.root_store.specs.part_set.Visible.{HasPart, HasTable, IsVisible}
use Rattle.root_opening.specs.declared.opening.Damage.{Damage}
use Rattle.root_opening.specs.declared.opening.Damage.TheVariants as damage
use Rattle.root_opening.specs.declared.opening.OpenFault.{OpenFault}
use Rattle.root_opening.specs.declared.opening.OpenFault.TheVariants as fault
use Rattle.root_store.specs.declared.store.CoreStore.{CoreStore}
use Rattle.root_store.specs.declared.store.Table.{Table}
use Rattle.root_opening.specs.declared.steps.Root.{Root}
use Rattle.root_store.specs.Damage.{IsDamaged, most_tables}
use Rattle.root_store.specs.Entries.{EntryHolds}
use Rattle.root_opening.specs.Names.{AreNamesOf, creates_in}
use Rattle.root_store.specs.Roots.{HasFolder}
use Rattle.root_store.specs.Shown.{HasNoMark}
use Rattle.root_store.specs.Stores.{HasNoMutation, IsKeptOf, table_at}

-- ---- faults

-- a fault of the disk stays one, and out of memory stays that
abbrev pub OpenFaultOf : DiskError → OpenFault → Type 0
OpenFaultOf failure.Fault e = e ≡ fault.Disk
OpenFaultOf failure.NoMemory e = e ≡ fault.NoMemory

-- of the folder of a name, this file is damaged
pub record FileTold (names : Names) (text : List ℕ) (Is : Files → FileId → Type 0) (name : List ℕ) (f : FileId) : Type 0 where
  pub spelled : name ≡ text
  pub files : Files
  pub there : files_at text names ≡ Some files
  pub is : Is files f

-- a fault that tells damage tells a damaged file of this name's folder
abbrev pub TellsFile : Names → List ℕ → (Files → FileId → Type 0) → OpenFault → Type 0
TellsFile names text Is fault.NoMemory = ⊤
TellsFile names text Is fault.Disk = ⊤
TellsFile names text Is (fault.Damaged (damage.Name n)) = ⊥
TellsFile names text Is (fault.Damaged (damage.Orphan n)) = ⊥
TellsFile names text Is (fault.Damaged (damage.Overlap m n)) = ⊥
TellsFile names text Is (fault.Damaged (damage.File n f)) = FileTold names text Is n f

-- out of memory, or the damage of this file of the name's folder
abbrev pub IsDamageOf : List ℕ → FileId → OpenFault → Type 0
IsDamageOf text file fault.NoMemory = ⊤
IsDamageOf text file fault.Disk = ⊥
IsDamageOf text file (fault.Damaged d) = d ≡ damage.File text file

-- a part has the folder of this name, as it is told, what is kept of it is what the files there say, and none of them is damaged
pub record IsPartRead {F : Type 0} (files_of : F → Option Files) (names : Names) (text : List ℕ) (schema : Schema) (part : Part F) : Type 0 where
  pub files : Files
  pub there : files_at text names ≡ Some files
  pub told : files_of part.dir ≡ Some files
  pub loaded : IsLoadedOf schema files part.loaded
  pub sound : damaged_file schema files ≡ None

-- ---- names gone over

-- the greatest block of the visible parts of a table among the names gone over, 0 where there is none
pub record IsGreatestSeen (read seen : List RootName) (table : List ℕ) (n : ℕ) : Type 0 where
  pub most : (part : TablePart) → IsVisible read part → HasPart seen part → part.table ≡ table → part.name.max_block ≤ n
  pub drawn : (n ≡ 0) ⊎ ((part : TablePart) × IsVisible read part × (part.table ≡ table) × (part.name.max_block ≡ n))

-- a kept part is a visible part, and its name was gone over
pub record IsSeen (read seen : List RootName) (table : List ℕ) (name : PartName) : Type 0 where
  pub visible : IsVisible read (record { table = table; name = name })
  pub here : HasPart seen (record { table = table; name = name })

-- what is kept of a table: its name was gone over, its schema is one that a table may have, and its number is that of its parts
pub record IsSeenTable (read seen : List RootName) (table : List ℕ) (t : Table) : Type 0 where
  pub here : HasTable seen table
  pub schema : IsTableSchema t.schema
  pub drawn : IsGreatestSeen read seen table t.drawn

-- Of the names gone over the store has the tables and the visible parts, each of a partition that its table may have and without a mark, and
-- nothing else, no mutation either, whatever the disk tells.
pub record Keeps {F : Type 0} (read seen : List RootName) (store : CoreStore F) : Type 0 where
  pub known : (table : List ℕ) (t : Table) → table_at store table ≡ Some t → IsSeenTable read seen table t
  pub all : (table : List ℕ) → HasTable seen table → IsSome (table_at store table)
  pub seen_parts : (table : List ℕ) → All (λ (k : Kept (Part F)). IsSeen read seen table k.name) (parts_of store.set table)
  pub may : (table : List ℕ) (t : Table) → table_at store table ≡ Some t
      → All (λ (k : Kept (Part F)). MayHavePartition t.schema k.name.partition) (parts_of store.set table)
  pub all_parts : (part : TablePart) → IsVisible read part → HasPart seen part → HasName (parts_of store.set part.table) part.name
  pub order : (table : List ℕ) → IsInBlockOrder (parts_of store.set table)
  pub no_other : (table : List ℕ) → table_at store table ≡ None → parts_of store.set table ≡ []
  pub idle : HasNoMark store
  pub mutations : HasNoMutation store

-- Where the disk tells, each has what its folder holds, and no file of them is damaged.
pub record KeepsTold {F : Type 0} (files_of : F → Option Files) (names : Names) (read seen : List RootName) (store : CoreStore F) : Type 0 where
  pub entries : (table : List ℕ) (t : Table) → table_at store table ≡ Some t → HasFolder names (create_name table) (EntryHolds table t.schema)
  pub kept : (table : List ℕ) (t : Table) → table_at store table ≡ Some t → All (IsKeptOf files_of names table t.schema) (parts_of store.set table)
  pub sound : All (λ (n : RootName). (files : Files) (f : FileId) → files_at (root_text n) names ≡ Some files → IsDamaged names read n files f → ⊥) seen

-- ---- the names of a root

-- the texts are those of the names, which rise and of which not too many are tables, and the set shows their visible parts
pub record IsNamedRoot (root : Root) : Type 0 where
  pub are : AreNamesOf root.texts.items root.names.items
  pub few : creates_in root.names.items ≤ most_tables
  pub rise : Rise root.names.items
  pub shows : Shows root.names.items root.shown

-- the texts are those of the names that the disk tells
abbrev pub IsTextsOf : Root → Told → Type 0
IsTextsOf root told = root.texts.items ≡ map (λ (e : List ℕ × Files). e.0) (names_of told)

-- ---- faults of names

-- out of memory, or the damage of the name at a place
abbrev pub IsBadNameAt : List (List ℕ) → ℕ → OpenFault → Type 0
IsBadNameAt texts place fault.NoMemory = ⊤
IsBadNameAt texts place fault.Disk = ⊥
IsBadNameAt texts place (fault.Damaged d) = (text : List ℕ) × (slice_get texts place ≡ Some text) × (d ≡ damage.Name text)

-- the places that a fault of parts tells are below this number
abbrev pub PlacesWithin : ℕ → SetFault → Type 0
PlacesWithin n set.NoMemory = ⊤
PlacesWithin n (set.Orphan place) = place < n
PlacesWithin n (set.Overlap first second) = (first < n) × (second < n)

-- the damage tells the names at the places that the fault tells
abbrev pub IsDamageOfSet : List (List ℕ) → SetFault → Damage → Type 0
IsDamageOfSet texts set.NoMemory d = ⊥
IsDamageOfSet texts (set.Orphan place) d = (text : List ℕ) × (slice_get texts place ≡ Some text) × (d ≡ damage.Orphan text)
IsDamageOfSet texts (set.Overlap i j) d = (a : List ℕ) × (b : List ℕ) × (slice_get texts i ≡ Some a) × (slice_get texts j ≡ Some b) × (d ≡ damage.Overlap a b)
