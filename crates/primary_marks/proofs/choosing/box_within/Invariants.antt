-- the columns gone over have what is known of them
use Rattle.std.proofs.Common.{◌≡◌, map}
use Rattle.std.specs.List.{range_with_len}
use Rattle.predicate.specs.Granules.{known_at}
use Rattle.primary_marks.proofs.choosing.box_within.Given as goal

abbrev pub invariant-loop-place : goal.invariant-loop-place
invariant-loop-place l = l.columns ≡ map (known_at l.schema l.partition l.ranges) (range_with_len 0 l.place)
