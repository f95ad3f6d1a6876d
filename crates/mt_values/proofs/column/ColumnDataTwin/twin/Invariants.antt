-- the values gone over are copied
use Rattle.std.proofs.Common.{◌≡◌, take}
use Rattle.mt_values.proofs.column.ColumnDataTwin.twin.Given as goal

abbrev pub invariant-loop-place : goal.invariant-loop-place
invariant-loop-place l = record {
  col_type : l.copy.col_type ≡ l.self.col_type;
  values : l.copy.values ≡ take l.place l.self.values;
}
