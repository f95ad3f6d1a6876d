-- no pair after the present one may be taken
use Rattle.std.proofs.Common.{ℕ, ◌+◌, ◌≤◌, length}
use Rattle.merge_select.specs.Wishes.{TakesAt}
use Rattle.merge_select.proofs.pairs.last_pair.Given as goal

abbrev pub invariant-loop-next : goal.invariant-loop-next
invariant-loop-next g l = record {
  within : l.next ≤ length l.parts;
  none : (k : ℕ) → l.next ≤ k + 1 → TakesAt g.P.Rows.row_count l.wish l.parts k → ⊥;
}

abbrev pub decreases-loop-next : goal.decreases-loop-next
decreases-loop-next g l = l.next
