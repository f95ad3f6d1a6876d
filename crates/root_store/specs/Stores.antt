-- What the store keeps of a root, and when it stands for a history (docs/architecture.md, "The store").
use Rattle.std.specs.Prelude.{◌≡◌, ◌⊎◌, ◌↔◌, ℕ, ◌+◌, ◌≤◌, List, [], ◌∷◌, length, map, All, Option, Some, None, IsSome}
use Rattle.std.specs.BTreeMap.{IsOrdered, get}
use Rattle.std.specs.Cmp.Lexicographic.{slice_cmp}
use Rattle.std.specs.List.{AllZip, Contains as HasItem, sum_by}
use Rattle.std.specs.Option.{option_map}
use Rattle.std.specs.Ordering.{nat_cmp}
use Rattle.mt_values.specs.declared.schema.Schema.{Schema}
use Rattle.mt_values.specs.RootNames.{create_name}
use Rattle.mt_values.specs.Values.{Row}
use Rattle.mt_outside.specs.Disk.{Names, files_at}
use Rattle.mt_outside.specs.Files.{Files}
use Rattle.table_core.specs.mutation_queue.Queue.{mutations_of}
use Rattle.table_core.specs.mt_model.History.{History, IsLegal, creates, schema_of}
use Rattle.table_core.specs.mt_model.Numbers.{last_number, mutations_in}
use Rattle.part_reader.specs.declared.reading.Part.{Part}
use Rattle.table_core.specs.part_set.part_name.declared.part.PartName.{PartName}
use Rattle.part_reader.specs.Parts.{PartHolds}
use Rattle.part_reader.specs.Sound.{IsLoadedOf}
use Rattle.table_core.specs.part_set.declared.kept.Kept.{Kept}
use Rattle.table_core.specs.part_set.declared.root_name.RootName.{RootName}
use Rattle.table_core.specs.part_set.declared.root_name.RootName.TheVariants as root
use Rattle.table_core.specs.part_set.declared.root_name.TablePart.{TablePart}
use Rattle.table_core.specs.part_set.Parts.{IsInBlockOrder}
use Rattle.table_core.specs.part_set.RootNames.{root_text}
use Rattle.table_core.specs.part_set.Sets.{parts_of}
use Rattle.table_core.specs.part_set.Visible.{HasTable, IsVisible}
use Rattle.table_core.specs.part_history.declared.part.CorePart.{CorePart}
use Rattle.table_core.specs.part_history.Parts.{AreInBlockOrder, TableStands}
use Rattle.root_store.specs.declared.store.CoreStore.{CoreStore}
use Rattle.root_store.specs.declared.store.Table.{Table}
use Rattle.root_store.specs.Entries.{EntryHolds}
use Rattle.root_store.specs.Roots.{AreNamesRead, HasFolder}

-- the table of a name
abbrev pub table_at : {F : Type 0} → CoreStore F → List ℕ → Option Table
table_at store table = get (slice_cmp nat_cmp) store.tables table

-- a table of which no command drew a number
abbrev pub fresh_table : Schema → Table
fresh_table schema = record { schema = schema; drawn = 0 }

-- a kept part of a table, with its rows
abbrev pub core_part : {F : Type 0} → List ℕ → Kept (Part F) → List Row → CorePart
core_part table kept rows = record { table = table; name = kept.name; rows = rows }

-- kept parts of a table, each with the rows at its place
abbrev pub core_parts : {F : Type 0} → List ℕ → List (Kept (Part F)) → List (List Row) → List CorePart
core_parts table [] rows = []
core_parts table (k ∷ kept) [] = []
core_parts table (k ∷ kept) (r ∷ rows) = core_part table k r ∷ core_parts table kept rows

-- a table's parts hold rows with which they stand for its commands
pub record PartsAreThere {F : Type 0} (files_of : F → Option Files) (h : History) (store : CoreStore F) (table : List ℕ) (schema : Schema) : Type 0 where
  pub rows : List (List Row)
  pub hold : AllZip (λ (k : Kept (Part F)) (r : List Row). PartHolds files_of schema k.part r) (parts_of store.set table) rows
  pub stand : TableStands table (core_parts table (parts_of store.set table) rows) h
  pub order : AreInBlockOrder (core_parts table (parts_of store.set table) rows)

-- no table's queue has a mutation
abbrev pub HasNoMutation : {F : Type 0} → CoreStore F → Type 0
HasNoMutation store = (table : List ℕ) → mutations_of store.mutations table ≡ []

-- The store stands for a history: its tables are those of the history, each with the number that was drawn last, and their parts hold the
-- rows of the history. It keeps no parts of any other table. The mutations of each table's queue are those of the history: none, since no root
-- has one yet.
pub record CoreStands {F : Type 0} (files_of : F → Option Files) (h : History) (store : CoreStore F) : Type 0 where
  pub legal : IsLegal h
  pub length_is : store.length ≡ length h
  pub tables : (table : List ℕ) → option_map (λ (t : Table). t.schema) (table_at store table) ≡ schema_of table h
  pub count : length store.tables.entries ≡ creates h
  pub drawn : (table : List ℕ) (t : Table) → table_at store table ≡ Some t → t.drawn ≡ last_number table h
  pub parts : (table : List ℕ) (t : Table) → table_at store table ≡ Some t → PartsAreThere files_of h store table t.schema
  pub no_other : (table : List ℕ) → table_at store table ≡ None → parts_of store.set table ≡ []
  pub mutations : (table : List ℕ) → mutations_of store.mutations table ≡ mutations_in table h
  pub unaltered : (table : List ℕ) → mutations_in table h ≡ []

-- ---- what a root is opened as

-- the part of a table that a kept part is named as
abbrev pub part_of : {F : Type 0} → List ℕ → Kept (Part F) → TablePart
part_of table kept = record { table = table; name = kept.name }

-- the greatest block of the visible parts of a table, 0 where it has none
pub record IsGreatestBlock (read : List RootName) (table : List ℕ) (n : ℕ) : Type 0 where
  pub most : (part : TablePart) → IsVisible read part → part.table ≡ table → part.name.max_block ≤ n
  pub drawn : (n ≡ 0) ⊎ ((part : TablePart) × IsVisible read part × (part.table ≡ table) × (part.name.max_block ≡ n))

-- what is kept of a table that is among the names: the schema that its entry holds, and the number that was drawn last
pub record IsTableOf (names : Names) (read : List RootName) (table : List ℕ) (t : Table) : Type 0 where
  pub here : HasTable read table
  pub entry : HasFolder names (create_name table) (EntryHolds table t.schema)
  pub drawn : IsGreatestBlock read table t.drawn

-- a kept part has the folder of its name, as it is told, and what is kept of it is what the files there say
pub record IsKeptOf {F : Type 0} (files_of : F → Option Files) (names : Names) (table : List ℕ) (schema : Schema) (kept : Kept (Part F)) : Type 0 where
  pub files : Files
  pub there : files_at (root_text (root.Part (part_of table kept))) names ≡ Some files
  pub told : files_of kept.part.dir ≡ Some files
  pub loaded : IsLoadedOf schema files kept.part.loaded

-- The store is what opening makes of a root: its tables are those among the names, and of each table it has exactly the visible parts, in
-- block order, of which no two meet. No name tells a mutation, so no table's queue has one.
pub record StoreOf {F : Type 0} (files_of : F → Option Files) (names : Names) (store : CoreStore F) : Type 0 where
  pub read : List RootName
  pub are : AreNamesRead names read
  pub ordered : IsOrdered (slice_cmp nat_cmp) store.tables
  pub tables : (table : List ℕ) (t : Table) → table_at store table ≡ Some t → IsTableOf names read table t
  pub all : (table : List ℕ) → HasTable read table → IsSome (table_at store table)
  pub parts : (table : List ℕ) (name : PartName) → IsVisible read (record { table = table; name = name }) ↔ HasItem (map (λ (k : Kept (Part F)). k.name) (parts_of store.set table)) name
  pub kept : (table : List ℕ) (t : Table) → table_at store table ≡ Some t → All (IsKeptOf files_of names table t.schema) (parts_of store.set table)
  pub order : (table : List ℕ) → IsInBlockOrder (parts_of store.set table)
  pub mutations : HasNoMutation store
  pub length_is : store.length ≡ sum_by (λ (e : List ℕ × Table). 1 + e.1.drawn) store.tables.entries
