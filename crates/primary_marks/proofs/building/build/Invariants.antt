-- the columns gone over have the values of the rows at the marked places, and there is room for the others
use Rattle.std.proofs.Common.{◌≡◌, length, map, take, vec_capacity, vec_len}
use Rattle.mt_values.specs.Grid.{column_of, picked}
use Rattle.column_file.specs.Marks.{with_final}
use Rattle.primary_marks.proofs.MarkedRows.{values_of}
use Rattle.primary_marks.proofs.building.build.Given as goal

abbrev pub invariant-loop-place : goal.invariant-loop-place
invariant-loop-place l = record {
  values : values_of l.columns.items ≡ map (λ p. column_of p (picked l.block.rows (with_final l.schema.granularity l.order))) (take l.place-index l.schema.primary);
  count : vec_len l.columns ≡ l.place-index;
  room : vec_capacity l.columns ≡ length l.schema.primary;
}
