-- Rows that stand for what a part's name reaches (docs/definitions.md, "The core").
use Rattle.std.specs.Prelude.{◌≤◌, List}
use Rattle.std.specs.List.Sorted.{IsSorted}
use Rattle.mt_values.specs.declared.schema.Schema.{Schema}
use Rattle.mt_values.specs.Tables.{sorting_cmp}
use Rattle.mt_values.specs.Values.{Row}
use Rattle.mt_model.specs.History.{History}
use Rattle.mt_model.specs.Live.{live}
use Rattle.mt_model.specs.Numbers.{IsNumberOfInsert, NoMutationBetween, Reach, last_number, reached}
use Rattle.mt_model.specs.Partial.{Partly}

-- Rows stand for the commands of the history that are reached: both ends are numbers of INSERTs into the partition, the version is none that is still to be drawn, and the rows are in
-- the table's order and what merges may have left of the live rows; each mutation that is not reached is later than all of the INSERTs (docs/definitions.md, "The core").
pub record ReachStands (h : History) (schema : Schema) (r : Reach) (rows : List Row) : Type 0 where
  pub order : r.least ≤ r.greatest
  pub least : IsNumberOfInsert r.table r.partition r.least h
  pub greatest : IsNumberOfInsert r.table r.partition r.greatest h
  pub drawn : r.version ≤ last_number r.table h
  pub whole : NoMutationBetween r.table r.version r.greatest h
  pub rising : IsSorted (sorting_cmp schema) rows
  pub partly : Partly schema (live r.table schema (reached r h)) rows
