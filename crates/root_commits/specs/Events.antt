-- Which events of the core commits are (docs/definitions.md, "The core").
use Rattle.std.specs.Prelude.{◌+◌, List, Option, length}
use Rattle.mt_values.specs.declared.command.Entry.{Entry}
use Rattle.mt_values.specs.Values.{Row}
use Rattle.mt_outside.specs.Files.{Files}
use Rattle.root_store.specs.part_name.declared.part.PartName.{PartName}
use Rattle.root_store.specs.table_core.declared.event.Event.TheVariants as event
use Rattle.root_store.specs.table_core.declared.event.Outcome.TheVariants as outcome
use Rattle.root_store.specs.table_core.declared.event.Put.{Put}
use Rattle.root_store.specs.table_core.declared.event.Sources.{Sources}
use Rattle.root_store.specs.table_core.declared.event.Task.TheVariants as task
use Rattle.root_store.specs.table_core.Core.{Core}
use Rattle.root_store.specs.table_core.Steps.{GivesOutcome, MayAccept, MayCome}
use Rattle.root_store.specs.declared.store.CoreStore.{CoreStore}
use Rattle.root_store.specs.Cores.{ShowsCore}
use Rattle.root_commits.specs.Merges.{Merging}

-- the accept of an entry may come, the core accepts it at the end of its history, and the store shows the state that it gives
pub record IsAccepted {F : Type 0} (files_of : F → Option Files) (core : Core) (e : Entry) (store : CoreStore F) : Type 0 where
  pub next : Core
  pub may : MayAccept core.history e.command
  pub gives : GivesOutcome core (event.Accept e) (outcome.Accepted (length core.history + 1)) next
  pub shows : ShowsCore files_of store next

-- the sources of a merge
abbrev pub merged_sources : Merging → Sources
merged_sources m = record { table = m.table; partition = m.partition; first = m.run.first; count = m.run.count }

-- what a merge of them left, to be put in their place
abbrev pub put_of : Merging → List Row → Put
put_of m rows = record { sources = merged_sources m; task = task.Merge; rows = rows }

-- a put of a merge may come, the core gives the part under its name, and the store shows the state that it gives
pub record IsPut {F : Type 0} (files_of : F → Option Files) (core : Core) (m : Merging) (store : CoreStore F) : Type 0 where
  pub rows : List Row
  pub name : PartName
  pub next : Core
  pub may : MayCome core (event.Put (put_of m rows))
  pub gives : GivesOutcome core (event.Put (put_of m rows)) (outcome.Put name) next
  pub shows : ShowsCore files_of store next
