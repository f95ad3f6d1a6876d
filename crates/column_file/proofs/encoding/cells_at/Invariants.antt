-- the values at the places gone over, and room for the others
use Rattle.std.proofs.Common.{◌≡◌, length, map, take, vec_len, vec_capacity}
use Rattle.mt_values.specs.Cells.{value_of}
use Rattle.column_file.proofs.Writing.{values_at}
use Rattle.column_file.proofs.encoding.cells_at.Given as goal

abbrev pub invariant-loop-place : goal.invariant-loop-place
invariant-loop-place l = record {
  values : map value_of l.ahead.items ≡ values_at l.cells.values (take l.place-index l.places);
  count : vec_len l.ahead ≡ l.place-index;
  room : vec_capacity l.ahead ≡ length l.places;
}
