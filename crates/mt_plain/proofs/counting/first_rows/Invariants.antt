-- the first rows of the granules gone over
use Rattle.std.proofs.Common.{◌≡◌, ◌*◌, filter_map, slice_get}
use Rattle.std.specs.List.{range_with_len}
use Rattle.mt_plain.proofs.counting.first_rows.Given as goal

abbrev pub invariant-loop-granule : goal.invariant-loop-granule
invariant-loop-granule l = l.firsts.items ≡ filter_map (λ k. slice_get l.rows (l.size * k)) (range_with_len 0 l.granule)
