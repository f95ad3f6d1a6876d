-- what is known so far, and what the rest of both keys adds
use Rattle.std.proofs.Common.{◌≡◌, ◌++◌, drop}
use Rattle.part_history.specs.predicate.Granules.{key_ranges}
use Rattle.mt_plain.proofs.boxes.key_ranges.Given as goal

abbrev pub invariant-loop-place : goal.invariant-loop-place
invariant-loop-place l = l.keys.items ++ key_ranges (drop l.place l.first) (drop l.place l.last) ≡ key_ranges l.first l.last
