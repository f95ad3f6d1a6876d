-- What gets the rows that a merge leaves (docs/engines.md, "Merges").
use Rattle.std.specs.Prelude.{ℕ, List}
use Rattle.mt_base.specs.declared.partition.Partition.{Partition}
use Rattle.mt_values.specs.declared.schema.Schema.{Schema}
use Rattle.mt_values.specs.Values.{Row}
use Rattle.part_history.specs.mt_model.Folding.{Leaves}
use Rattle.row_merge.specs.Merged.{IsFoldOf, IsMergedOf, rows_of_all}

-- a sink got some rows
pub record GetsSome {T : Type 0} (gets : T → List Row → T → Type 0) (old new : T) : Type 0 where
  pub rows : List Row
  pub got : gets old rows new

-- it got what the rule leaves of the last key
pub record GetsLast {T : Type 0} (gets : T → List Row → T → Type 0) (run : List Row → List Row → Type 0) (pending : List Row) (old new : T) : Type 0 where
  pub rows : List Row
  pub got : gets old rows new
  pub leaves : Leaves run pending rows

-- it got what folds leave of the rows of inputs
pub record GetsFold {T : Type 0} (gets : T → List Row → T → Type 0) (places : List ℕ) (run : List Row → List Row → Type 0) (inputs : List (List Row)) (old new : T) : Type 0 where
  pub rows : List Row
  pub got : gets old rows new
  pub folds : IsFoldOf places run (rows_of_all inputs) rows

-- it got what a merge by the rule of the table's engine leaves of them
pub record GetsMerged {T : Type 0} (gets : T → List Row → T → Type 0) (schema : Schema) (partition : Partition) (inputs : List (List Row)) (old new : T) : Type 0 where
  pub rows : List Row
  pub got : gets old rows new
  pub merged : IsMergedOf schema partition inputs rows
