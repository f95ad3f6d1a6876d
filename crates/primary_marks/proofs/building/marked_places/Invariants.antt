-- the first places of the granules gone over
use Rattle.std.proofs.Common.{◌≡◌, ◌*◌, filter_map, slice_get}
use Rattle.std.specs.List.{range_with_len}
use Rattle.primary_marks.proofs.building.marked_places.Given as goal

abbrev pub invariant-loop-granule : goal.invariant-loop-granule
invariant-loop-granule l = l.places ≡ filter_map (λ k. slice_get l.order (l.size * k)) (range_with_len 0 l.granule)
