-- the values gone over are those that the bytes up to the place spell, and their granules are found
use Rattle.std.proofs.Common.{◌≡◌, ◌≤◌, length}
use Rattle.part_reader.proofs.MarkedValues.{AreGone, walk}
use Rattle.part_reader.proofs.comparing.marks_in.Given as goal

abbrev pub invariant-loop-value : goal.invariant-loop-value
invariant-loop-value l = record {
  within : l.at ≤ length l.bytes;
  col_type : l.found.firsts.col_type ≡ l.col_type;
  gone : AreGone l.col_type l.granularity l.bytes l._value (walk l.at l.left l.found l.last);
}
