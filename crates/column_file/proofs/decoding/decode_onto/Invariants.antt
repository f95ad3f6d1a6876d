-- the bytes up to the place are those of the values that the column got
use Rattle.std.proofs.Common.{◌≡◌, ◌≤◌, length}
use Rattle.column_file.proofs.Reading.{AreGained}
use Rattle.column_file.proofs.decoding.decode_onto.Given as goal

abbrev pub invariant-loop-value : goal.invariant-loop-value
invariant-loop-value l = record {
  within : l.at ≤ length l.bytes;
  col_type : l.column.col_type ≡ l.initial.column.col_type;
  gained : AreGained l.bytes l.at l._value l.initial.column l.column;
}
