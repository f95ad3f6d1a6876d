-- Merges of runs of inputs.
use Rattle.std.specs.Prelude.{ℕ, ◌+◌, ◌≤◌, List, All, drop, length, map, take}
use Rattle.mt_base.specs.declared.partition.Partition.{Partition}
use Rattle.mt_values.specs.declared.schema.Schema.{Schema}
use Rattle.mt_values.specs.Values.{Row}
use Rattle.table_core.specs.mt_model.History.{IsTableSchema}
use Rattle.table_core.specs.part_history.declared.part.CorePart.{CorePart}
use Rattle.row_merge.specs.Merged.{ArePartRows, IsMergedOf}
use Rattle.table_core.specs.Core.{Core, IsCore}
use Rattle.run_memory.specs.Events.{AreOfEvents}

-- the rows of each part
abbrev pub rows_of_each : List CorePart → List (List Row)
rows_of_each parts = map (λ (p : CorePart). p.rows) parts

-- as many inputs as are asked for, from a first one on
abbrev pub run_of : ℕ → ℕ → List (List Row) → List (List Row)
run_of first count inputs = take count (drop first inputs)

-- rows are what a merge leaves of a run of inputs that are rows of parts of a partition, where there are so many inputs (docs/engines.md, "Merges")
abbrev pub LeftOfRun : Schema → ℕ → ℕ → List (List Row) → List Row → Type 0
LeftOfRun schema first count inputs rows =
    first + count ≤ length inputs → (partition : Partition) → IsTableSchema schema → All (ArePartRows schema partition) (run_of first count inputs)
    → IsMergedOf schema partition (run_of first count inputs) rows

-- the state while events over tables of the events come: what always holds of it, and each table of the history is one of the events
pub record IsCourse (core : Core) : Type 0 where
  pub holds : IsCore core
  pub tables : AreOfEvents core.history
