-- What refuses a commit, and what it leaves (docs/architecture.md, "Commits").
use Rattle.std.specs.Prelude.{◌≡◌, ◌≢◌, ℕ, ◌+◌, List, [], get_or, Option, Some, None, Result, Ok, Err, if◌then◌else◌, is_some, length, nat_le, false}
use Rattle.std.specs.BTreeMap.{Updates}
use Rattle.std.specs.Cmp.Lexicographic.{slice_cmp}
use Rattle.std.specs.Ordering.{nat_cmp}
use Rattle.mt_base.specs.declared.partition.Partition.{Partition}
use Rattle.mt_base.specs.Limits.{number_limit, part_limit, table_limit}
use Rattle.mt_values.specs.declared.command.Command.{Command}
use Rattle.mt_values.specs.declared.command.Create.{Create}
use Rattle.mt_values.specs.declared.command.Insert.{Insert}
use Rattle.mt_values.specs.declared.schema.Schema.{Schema}
use Rattle.mt_values.specs.declared.command.Command.TheVariants as command
use Rattle.mt_values.specs.Grid.{Grid}
use Rattle.mt_values.specs.Tables.{partition_of, sorting_cmp}
use Rattle.mt_values.specs.Values.{Row}
use Rattle.root_store.specs.mt_model.Live.{sorted}
use Rattle.mt_outside.specs.Disk.{Told}
use Rattle.mt_outside.specs.Files.{Files}
use Rattle.root_store.specs.mt_model.History.{History}
use Rattle.root_store.specs.part_name.declared.part.PartName.{PartName}
use Rattle.root_store.specs.part_reader.declared.reading.Part.{Part}
use Rattle.root_store.specs.part_writer.declared.loaded.Loaded.{Loaded}
use Rattle.root_store.specs.part_writer.PartFiles.{loaded_of}
use Rattle.root_store.specs.part_set.Parts.{IsAdded, IsInBlockOrder, kept_in}
use Rattle.root_store.specs.part_set.Sets.{parts_of}
use Rattle.root_store.specs.durable_commit.declared.causes.Limit.TheVariants as limit
use Rattle.root_store.specs.durable_commit.declared.causes.Refused.{Refused}
use Rattle.root_store.specs.durable_commit.declared.causes.Refused.TheVariants as refused
use Rattle.root_store.specs.durable_commit.Commits.{IsOutside, stopped_by}
use Rattle.root_commits.specs.declared.commits.Returned.{Returned}
use Rattle.root_store.specs.declared.store.CoreStore.{CoreStore}
use Rattle.root_store.specs.declared.store.Table.{Table}
use Rattle.root_store.specs.Entries.{EntryHolds}
use Rattle.root_store.specs.Roots.{FolderHolds}
use Rattle.root_store.specs.Soundness.{RootStands}
use Rattle.root_store.specs.Stores.{CoreStands, fresh_table, table_at}

-- why a command was not committed; none where it was
abbrev pub cause_of : {T S : Type 0} → Result T (Returned S) → Option Refused
cause_of (Ok x) = None
cause_of (Err r) = Some r.cause

-- the cause is the one that the store and the disk's count show; where they show none it is none, or one of the outside
abbrev pub IsCause : Option Refused → Option Refused → Type 0
IsCause (Some shown) cause = cause ≡ Some shown
IsCause None cause = IsOutside cause

-- what the store and the disk's count show against a CREATE: there is the table, or as many as may be, or the store was stopped
abbrev pub refuses_create : {F : Type 0} → CoreStore F → List ℕ → ℕ → Option Refused
refuses_create store table now =
    if is_some (table_at store table) then Some refused.Exists
    else if nat_le table_limit (length store.tables.entries) then Some (refused.Limit limit.Tables)
    else stopped_by store.opened now

-- what was sealed is the entry of a CREATE, where the stage told it
pub record IsSealedEntry (create : Create) (sealed : Option Files) : Type 0 where
  pub files : Files
  pub sealed_are : sealed ≡ Some files
  pub holds : EntryHolds create.table create.schema files

-- a store stands for a history, and so does the root where this holds
pub record StandsWhere {F : Type 0} (files_of : F → Option Files) (h : History) (store : CoreStore F) (root : Option Told) (holds : Type 0) : Type 0 where
  pub store_stands : CoreStands files_of h store
  pub root_stands : holds → RootStands root h

-- the same tables, parts and mutations, whatever room there is for more
pub record SameStore {F : Type 0} (old new : CoreStore F) : Type 0 where
  pub tables : new.tables.entries ≡ old.tables.entries
  pub parts : (table : List ℕ) → parts_of new.set table ≡ parts_of old.set table
  pub mutations_are : new.mutations ≡ old.mutations
  pub length_is : new.length ≡ old.length
  pub opened_is : new.opened ≡ old.opened

-- there is one more table, and one more command
pub record EntersTable {F : Type 0} (table : List ℕ) (schema : Schema) (old new : CoreStore F) : Type 0 where
  pub absent : table_at old table ≡ None
  pub updates : Updates (slice_cmp nat_cmp) old.tables new.tables table (Some (fresh_table schema))
  pub count : length new.tables.entries ≡ length old.tables.entries + 1
  pub set_is : new.set ≡ old.set
  pub mutations_are : new.mutations ≡ old.mutations
  pub length_is : new.length ≡ old.length + 1
  pub opened_is : new.opened ≡ old.opened

-- the partition of a block's rows, all of which are of one: that of its first row
abbrev pub partition_of_block : Schema → Grid → Partition
partition_of_block schema block = partition_of schema (get_or block.rows 0 [])

-- the block, as it is added to a partition of a table
abbrev pub insert_into : List ℕ → Partition → Grid → Insert
insert_into table partition block = record { table = table; partition = partition; block = block }

-- the command that adds a block to a partition of a table
abbrev pub insert_of_block : List ℕ → Partition → Grid → Command
insert_of_block table partition block = command.Insert (insert_into table partition block)

-- the rows of a block as its part has them: in the order of the table's rows, those that are alike in it as they came
abbrev pub part_rows : Schema → Grid → List Row
part_rows schema block = sorted (sorting_cmp schema) block.rows

-- what was sealed of a block for a table with this schema, where the stage told it: the files of the block's rows, and what is kept of them
pub record IsSealedOf (schema : Schema) (block : Grid) (sealed : Option Files) (loaded : Loaded) : Type 0 where
  pub files : Files
  pub sealed_are : sealed ≡ Some files
  pub holds : FolderHolds schema (part_rows schema block) files
  pub loaded_is : loaded ≡ loaded_of schema (part_rows schema block)

-- the part that an INSERT of this number into a partition makes
abbrev pub fresh_part : Partition → ℕ → PartName
fresh_part partition n = record { partition = partition; min_block = n; max_block = n; level = 0; mutation = None }

-- what the store and the disk's count show against a part in a partition of a table of which so many numbers were drawn: the partition
-- has as many parts as may be, or the table has no number left, or the store was stopped
abbrev pub refuses_part : {F : Type 0} → CoreStore F → List ℕ → Partition → ℕ → ℕ → Option Refused
refuses_part store table partition drawn now =
    if nat_le part_limit (length (kept_in partition (parts_of store.set table))) then Some (refused.Limit limit.Parts)
    else if nat_le number_limit drawn then Some (refused.Limit limit.Numbers)
    else stopped_by store.opened now

-- there is one more part in a partition of a table, in its place in block order, its number drawn, and one more command
pub record EntersPart {F : Type 0} (table : List ℕ) (partition : Partition) (part : Part F) (t : Table) (old new : CoreStore F) : Type 0 where
  pub there : table_at old table ≡ Some t
  pub updates : Updates (slice_cmp nat_cmp) old.tables new.tables table (Some (record { schema = t.schema; drawn = t.drawn + 1 }))
  pub count : length new.tables.entries ≡ length old.tables.entries
  pub added : IsAdded (parts_of old.set table) (record { name = fresh_part partition (t.drawn + 1); part = part; busy = false }) (parts_of new.set table)
  pub ordered : IsInBlockOrder (parts_of new.set table)
  pub others : (u : List ℕ) → u ≢ table → parts_of new.set u ≡ parts_of old.set u
  pub mutations_are : new.mutations ≡ old.mutations
  pub length_is : new.length ≡ old.length + 1
  pub opened_is : new.opened ≡ old.opened

-- the same, where the new part has what was sealed: its files, as its folder tells them, and what is kept of it
pub record EntersSealed {F : Type 0} (files_of : F → Option Files) (files : Option Files) (loaded : Loaded) (table : List ℕ) (partition : Partition) (t : Table) (old new : CoreStore F) : Type 0 where
  pub part : Part F
  pub files_are : files_of part.dir ≡ files
  pub loaded_is : part.loaded ≡ loaded
  pub enters : EntersPart table partition part t old new
