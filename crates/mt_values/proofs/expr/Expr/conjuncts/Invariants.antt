-- the expressions that are left before a place, and the conjuncts that were found after it
use Rattle.mt_values.proofs.Parting.{Parted}
use Rattle.mt_values.proofs.expr.Expr.conjuncts.Given as goal

abbrev pub invariant-tops : goal.invariant-tops
invariant-tops g l = Parted l.self l.joints l.end l.tests l.found.items

abbrev pub decreases-tops : goal.decreases-tops
decreases-tops g l = l.end
