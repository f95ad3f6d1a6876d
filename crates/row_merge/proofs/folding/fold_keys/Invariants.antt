-- whatever folds leave of the rest, after what is left so far, is what they leave of all rows, and it has their types
use Rattle.std.proofs.Common.{◌≤◌, ◌-◌, ◌++◌, All, List, drop, length}
use Rattle.mt_values.specs.declared.value.ColType.{ColType}
use Rattle.mt_values.specs.Grid.{AreRowsOf}
use Rattle.mt_values.specs.Values.{Row}
use Rattle.row_merge.specs.Merged.{AreOrdered, IsFoldOf, rows_of}
use Rattle.row_merge.proofs.folding.fold_keys.Given as goal

abbrev pub invariant-loop-at : goal.invariant-loop-at
invariant-loop-at g l = record {
  within : l.at ≤ length l.rows;
  folds : g.Q.RowRule.apart l.rule l.places → AreOrdered l.places (rows_of l.rows) → All (g.Q.RowRule.takes l.rule) (rows_of l.rows) → (rest : List Row)
      → IsFoldOf l.places (g.Q.RowRule.run l.rule) (rows_of (drop l.at l.rows)) rest → IsFoldOf l.places (g.Q.RowRule.run l.rule) (rows_of l.rows) (l.out.items ++ rest);
  typed : (types : List ColType) → All (g.Q.RowRule.takes l.rule) (rows_of l.rows) → AreRowsOf types (rows_of l.rows) → AreRowsOf types l.out.items;
}

abbrev pub decreases-loop-at : goal.decreases-loop-at
decreases-loop-at g l = length l.rows - l.at
