-- what is left of the places decides
use Rattle.std.proofs.Common.{◌≡◌, drop}
use Rattle.mt_values.specs.Order.{HasPlaces, key_cmp}
use Rattle.row_merge.proofs.order.cmp_rows.Given as goal

abbrev pub invariant-loop-place : goal.invariant-loop-place
invariant-loop-place l = HasPlaces l.places l.a → HasPlaces l.places l.b → key_cmp (drop l.place-index l.places) l.a l.b ≡ key_cmp l.places l.a l.b
