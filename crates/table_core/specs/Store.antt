-- What the state keeps, and what always holds of it.
use Rattle.std.specs.Prelude.{◌≡◌, ℕ, ◌+◌, ◌<◌, ◌≤◌, List, [], ◌∷◌, ◌++◌, All, Some, Vec, drop, false, filter, length, map, take}
use Rattle.std.specs.declared.alloc.Global.{Global}
use Rattle.std.specs.List.{AllByRecursion, flat_map}
use Rattle.std.specs.Ordering.{is_gt}
use Rattle.mt_base.specs.declared.partition.Partition.{Partition}
use Rattle.mt_values.specs.declared.command.Command.{Command}
use Rattle.mt_values.specs.declared.command.Command.TheVariants as command
use Rattle.mt_values.specs.declared.command.Create.{Create}
use Rattle.mt_values.specs.declared.schema.Schema.{Schema}
use Rattle.mt_values.specs.Grammar.{same_bytes}
use Rattle.part_history.specs.mt_model.History.{History, schema_of}
use Rattle.part_history.specs.declared.part.CorePart.{CorePart}
use Rattle.part_history.specs.Entered.{with_part}
use Rattle.part_history.specs.Parts.{partition_cmp}
use Rattle.table_core.specs.declared.event.Sources.{Sources}
use Rattle.table_core.specs.declared.store.Run.{Run}
use Rattle.table_core.specs.declared.store.Store.{Store}
use Rattle.table_core.specs.declared.store.Table.{Table}
use Rattle.table_core.specs.Core.{Core, IsCore}
use Rattle.table_core.specs.Steps.{HasNeighbours, sources_among}
use Rattle.part_history.specs.mt_model.Numbers.{last_number, mutations_in}
use Rattle.mt_values.specs.declared.mutation.Mutation.{Mutation}
use Rattle.mutation_queue.specs.declared.mutations.Mutations.{Mutations}
use Rattle.mutation_queue.specs.Queue.{mutations_of}

-- a table with its name
abbrev pub Named : Type 0
Named = Vec ℕ Global × Table

-- the parts of all tables, one table after another
abbrev pub parts_of_tables : List Named → List CorePart
parts_of_tables tables = flat_map (λ (t : Named). t.1.parts) tables

-- what contracts see of the store
abbrev pub core_of : Store → Core
core_of store = record { parts = parts_of_tables store.tables.entries; history = store.entries.items; snapshots = store.snapshots.items }

abbrev pub name_by : Command → List (List ℕ)
name_by (command.Create c) = c.table ∷ []
name_by (command.Insert i) = []
name_by (command.Alter a) = []

-- the names of the tables, in the order in which they were made
abbrev pub table_names : History → List (List ℕ)
table_names [] = []
table_names (e ∷ h) = name_by e.command ++ table_names h

-- a table has its schema, the last number that was drawn, and its own parts
pub record TableKept (h : History) (t : Named) : Type 0 where
  pub schema_is : schema_of t.0.items h ≡ Some t.1.schema
  pub last_is : t.1.last ≡ last_number t.0.items h
  pub own : All (λ (p : CorePart). p.table ≡ t.0.items) t.1.parts

-- what always holds of the store
pub record IsStore (store : Store) : Type 0 where
  pub core : IsCore (core_of store)
  pub names : map (λ (t : Named). t.0.items) store.tables.entries ≡ table_names store.entries.items
  pub each : All (TableKept store.entries.items) store.tables.entries
  pub queue : (table : List ℕ) → mutations_of store.mutations table ≡ mutations_in table store.entries.items

-- a table has another name
abbrev pub IsNotNamed : List ℕ → Named → Type 0
IsNotNamed table t = same_bytes t.0.items table ≡ false

-- where the one table of this name stands among the tables
pub record StandsAt (tables : List Named) (table : List ℕ) (place : ℕ) : Type 0 where
  pub front : List Named
  pub here : Named
  pub back : List Named
  pub tables_are : tables ≡ front ++ here ∷ back
  pub place_is : place ≡ length front
  pub name_is : here.0.items ≡ table
  pub before : AllByRecursion (IsNotNamed table) front
  pub behind : AllByRecursion (IsNotNamed table) back

-- a table without parts
abbrev pub empty_table : Schema → Table
empty_table schema = record { schema = schema; parts = []; last = 0 }

-- a table with one part more, the last of its partition, whose number is the last that was drawn
abbrev pub grown_table : Table → CorePart → ℕ → Table
grown_table table part number = record { schema = table.schema; parts = with_part part table.parts; last = number }

-- the parts of the partitions before one in block order, as listed
abbrev pub parts_below : Partition → List CorePart → List CorePart
parts_below partition parts = filter (λ (p : CorePart). is_gt (partition_cmp partition p.name.partition)) parts

-- where sources stand among the parts of their table
pub record RunStands (parts : List CorePart) (s : Sources) (run : Run) : Type 0 where
  pub there : HasNeighbours parts s
  pub front : List CorePart
  pub back : List CorePart
  pub parts_are : parts ≡ front ++ (sources_among parts s ++ back)
  pub from_is : run.from ≡ length front
  pub count_is : run.count ≡ s.count

-- a run is of parts of the list, at least one
pub record LiesIn (run : Run) (parts : List CorePart) : Type 0 where
  pub some : 0 < run.count
  pub within : run.from + run.count ≤ length parts

-- a table whose last number that was drawn is this
abbrev pub drawn_table : Table → ℕ → Table
drawn_table table number = record { schema = table.schema; parts = table.parts; last = number }

-- a table with one part in place of a run of its parts
abbrev pub swapped_table : Table → Run → CorePart → Table
swapped_table table run part = record {
  schema = table.schema;
  parts = take run.from table.parts ++ part ∷ drop (run.from + run.count) table.parts;
  last = table.last;
}

-- one table more, after the others
pub record AddsTable (c : Create) (old new : List Named) : Type 0 where
  pub key : Vec ℕ Global
  pub key_is : key.items ≡ c.table
  pub tables_are : new ≡ old ++ (key, empty_table c.schema) ∷ []

-- one mutation of a table more, after its others
pub record AddsMutation (table : List ℕ) (m : Mutation) (old new : Mutations) : Type 0 where
  pub mine : mutations_of new table ≡ mutations_of old table ++ m ∷ []
  pub others : (t : List ℕ) → (t ≡ table → ⊥) → mutations_of new t ≡ mutations_of old t

-- the same tables, mutations, commands and snapshots
pub record SameTables (old new : Store) : Type 0 where
  pub tables : new.tables.entries ≡ old.tables.entries
  pub mutations : (table : List ℕ) → mutations_of new.mutations table ≡ mutations_of old.mutations table
  pub entries : new.entries.items ≡ old.entries.items
  pub snapshots : new.snapshots.items ≡ old.snapshots.items
