-- the values at the places gone over
use Rattle.std.proofs.Common.{◌≡◌, filter_map, slice_get, take}
use Rattle.primary_marks.proofs.building.picked_cells.Given as goal

abbrev pub invariant-loop-place : goal.invariant-loop-place
invariant-loop-place l = record {
  col_type : l.picked.col_type ≡ l.cells.col_type;
  values : l.picked.values ≡ filter_map (slice_get l.cells.values) (take l.place-index l.places);
}
