-- each of the values gone over is seen once, and they are not too many
use Rattle.std.proofs.Common.{◌≡◌, ◌≤◌, ◌++◌, length, map, take}
use Rattle.mt_values.specs.Cells.{value_of}
use Rattle.column_file.proofs.Writing.{values_at}
use Rattle.skip_index.specs.Blocks.{distinct_of, most_kept}
use Rattle.skip_index.proofs.building.set_from.Given as goal

abbrev pub invariant-loop-place : goal.invariant-loop-place
invariant-loop-place l = record {
  seen : map value_of l.distinct.keys ≡ distinct_of (l.first ++ values_at l.cells.values (take l.place-index l.places));
  few : length (distinct_of l.first) ≤ most_kept l.limit → length l.distinct.keys ≤ most_kept l.limit;
}
