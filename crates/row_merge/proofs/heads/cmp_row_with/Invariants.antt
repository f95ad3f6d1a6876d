-- what is left of the columns decides
use Rattle.std.proofs.Common.{◌≡◌, [], drop, get_or}
use Rattle.mt_values.specs.Order.{key_cmp}
use Rattle.row_merge.proofs.heads.cmp_row_with.Given as goal

abbrev pub invariant-loop-place : goal.invariant-loop-place
invariant-loop-place l = key_cmp (drop l.place-index l.places) l.row (get_or l.block.rows l.at []) ≡ key_cmp l.places l.row (get_or l.block.rows l.at [])
