-- the values so far, and room for the others
use Rattle.std.proofs.Common.{◌≡◌, take, vec_len, vec_capacity}
use Rattle.column_file.proofs.decoding.values_of.Given as goal

abbrev pub invariant-loop-place : goal.invariant-loop-place
invariant-loop-place l = record {
  values : l.values.items ≡ take l.place l.column.values;
  count : vec_len l.values ≡ l.place;
  room : vec_capacity l.values ≡ l.count;
}
