-- what is left of the places decides
use Rattle.std.proofs.Common.{◌≡◌, drop}
use Rattle.mt_values.specs.Order.{key_cmp}
use Rattle.mt_values.proofs.order.cmp_by.Given as goal

abbrev pub invariant-loop-place : goal.invariant-loop-place
invariant-loop-place l = key_cmp (drop l.place-index l.places) l.a l.b ≡ key_cmp l.places l.a l.b
