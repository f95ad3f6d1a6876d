-- the answers gone over are turned round
use Rattle.std.proofs.Common.{◌≡◌, not}
use Rattle.mt_values.proofs.Masks.{over}
use Rattle.predicate.proofs.masks.negate.Given as goal

abbrev pub invariant-loop-truth : goal.invariant-loop-truth
invariant-loop-truth l = l.mask ≡ over (λ b. b) not l.initial.mask l.truth-index
