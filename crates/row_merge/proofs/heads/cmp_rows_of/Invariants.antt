-- what is left of the columns decides
use Rattle.std.proofs.Common.{◌≡◌, [], drop, get_or}
use Rattle.mt_values.specs.Order.{key_cmp}
use Rattle.row_merge.proofs.heads.cmp_rows_of.Given as goal

abbrev pub invariant-loop-place : goal.invariant-loop-place
invariant-loop-place l = key_cmp (drop l.place-index l.places) (get_or l.left.rows l.a []) (get_or l.right.rows l.b []) ≡ key_cmp l.places (get_or l.left.rows l.a []) (get_or l.right.rows l.b [])
