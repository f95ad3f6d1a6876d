-- Which states of the core a store shows (docs/definitions.md, "The core").
use Rattle.std.specs.Prelude.{◌≡◌, ℕ, List, [], Option, Some, None}
use Rattle.std.specs.List.{AllZip}
use Rattle.mt_values.specs.declared.schema.Schema.{Schema}
use Rattle.mt_values.specs.Values.{Row}
use Rattle.mt_outside.specs.Files.{Files}
use Rattle.table_core.specs.mt_model.History.{History}
use Rattle.part_reader.specs.declared.reading.Part.{Part}
use Rattle.part_reader.specs.Parts.{PartHolds}
use Rattle.table_core.specs.part_set.declared.kept.Kept.{Kept}
use Rattle.table_core.specs.part_set.Sets as sets
use Rattle.table_core.specs.part_history.Parts.{core_parts_of}
use Rattle.table_core.specs.Core.{Core, IsCore}
use Rattle.root_store.specs.declared.store.CoreStore.{CoreStore}
use Rattle.root_store.specs.declared.store.Table.{Table}
use Rattle.root_store.specs.Stores.{CoreStands, core_parts, table_at}

-- the parts that a store keeps of a table hold the rows that the state has of them, and the state has no others of the table
pub record ShowsParts {F : Type 0} (files_of : F → Option Files) (store : CoreStore F) (core : Core)
    (table : List ℕ) (schema : Schema) : Type 0 where
  pub rows : List (List Row)
  pub hold : AllZip (λ (k : Kept (Part F)) (r : List Row). PartHolds files_of schema k.part r) (sets.parts_of store.set table) rows
  pub same : core_parts_of table core.parts ≡ core_parts table (sets.parts_of store.set table) rows

-- a store shows a state of the core: it stands for the state's history, and its parts hold the rows that the state has of them
pub record ShowsCore {F : Type 0} (files_of : F → Option Files) (store : CoreStore F) (core : Core) : Type 0 where
  pub stands : CoreStands files_of core.history store
  pub parts : (table : List ℕ) (t : Table) → table_at store table ≡ Some t → ShowsParts files_of store core table t.schema
  pub no_other : (table : List ℕ) → table_at store table ≡ None → core_parts_of table core.parts ≡ []

-- a store shows a state of the core with this history and no snapshots, of which holds what always holds
pub record ShowsCoreOf {F : Type 0} (files_of : F → Option Files) (h : History) (store : CoreStore F) : Type 0 where
  pub core : Core
  pub history_is : core.history ≡ h
  pub snapshots_are : core.snapshots ≡ []
  pub holds : IsCore core
  pub shows : ShowsCore files_of store core
