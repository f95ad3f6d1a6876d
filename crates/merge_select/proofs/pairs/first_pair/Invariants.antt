-- no pair before the present one may be taken
use Rattle.std.proofs.Common.{ℕ, ◌+◌, ◌<◌}
use Rattle.merge_select.specs.Wishes.{TakesAt}
use Rattle.merge_select.proofs.pairs.first_pair.Given as goal

abbrev pub invariant-loop-next : goal.invariant-loop-next
invariant-loop-next g l = (k : ℕ) → k + 1 < l.next → TakesAt g.P.Rows.row_count l.wish l.parts k → ⊥
