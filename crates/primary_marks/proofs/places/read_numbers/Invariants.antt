-- the bytes from the place on begin with the numbers, one more than the granules gone over
use Rattle.std.proofs.Common.{◌≡◌, ◌+◌, drop, length}
use Rattle.primary_marks.proofs.Starts.{AreBegun}
use Rattle.primary_marks.proofs.places.read_numbers.Given as goal

abbrev pub invariant-loop-granule : goal.invariant-loop-granule
invariant-loop-granule l = record {
  begun : AreBegun (drop l.at l.bytes) l.numbers;
  count : length l.numbers ≡ l._granule + 1;
}
