-- the bytes up to the place are those of the columns gone over
use Rattle.std.proofs.Common.{◌≡◌, ◌≤◌, length}
use Rattle.primary_marks.proofs.Starts.{ArePlaced}
use Rattle.primary_marks.proofs.places.read_places.Given as goal

abbrev pub invariant-loop-column : goal.invariant-loop-column
invariant-loop-column l = record {
  within : l.at ≤ length l.bytes;
  placed : ArePlaced l.granules l.bytes l.at l.places;
  count : length l.places ≡ l._column;
}
