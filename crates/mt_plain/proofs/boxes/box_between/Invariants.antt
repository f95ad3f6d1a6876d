-- what is known of the columns so far
use Rattle.std.proofs.Common.{◌≡◌, map}
use Rattle.std.specs.List.{range_with_len}
use Rattle.part_history.specs.predicate.Granules.{known_at}
use Rattle.mt_plain.proofs.boxes.box_between.Given as goal

abbrev pub invariant-loop-place : goal.invariant-loop-place
invariant-loop-place l = l.columns ≡ map (known_at l.schema l.partition l.keys.items) (range_with_len 0 l.place)
