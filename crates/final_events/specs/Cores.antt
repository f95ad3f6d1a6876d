-- What is left of a table by events of the core, and by one merge after them (docs/engines.md, "FINAL"; docs/definitions.md, "The core").
use Rattle.std.specs.Prelude.{ℕ, List}
use Rattle.mt_values.specs.declared.schema.Schema.{Schema}
use Rattle.mt_values.specs.Values.{Row}
use Rattle.table_core.specs.mt_model.Numbers.{mutations_in}
use Rattle.table_core.specs.mt_model.Partial.{MergesAll}
use Rattle.table_core.specs.part_history.Parts.{core_parts_of, rows_seen_of}
use Rattle.table_core.specs.declared.event.Event.{Event}
use Rattle.table_core.specs.declared.event.Outcome.{Outcome}
use Rattle.table_core.specs.Core.{Core, empty_core}
use Rattle.table_core.specs.Runs.{MayRun, Runs}

-- events that may come, from the empty state on, end in a state (docs/definitions.md, "The core")
abbrev pub LeadTo : List Event → Core → Type 0
LeadTo events core = MayRun empty_core events × ((outcomes : List Outcome) × Runs empty_core events outcomes core)

-- one merge of all rows of a table's visible parts, each part's after the mutations for which it waits (docs/engines.md, "FINAL")
abbrev pub MergesVisible : Schema → List ℕ → Core → List Row → Type 0
MergesVisible schema table core out = MergesAll schema (rows_seen_of (mutations_in table core.history) (core_parts_of table core.parts)) out
