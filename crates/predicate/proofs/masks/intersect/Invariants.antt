-- the answers gone over are joined
use Rattle.std.proofs.Common.{◌≡◌, ◌&&◌}
use Rattle.predicate.proofs.Truths.{half_joined}
use Rattle.predicate.proofs.masks.intersect.Given as goal

abbrev pub invariant-loop-place : goal.invariant-loop-place
invariant-loop-place l = l.mask ≡ half_joined (λ x y. x && y) l.initial.mask l.other l.place
