use Rattle.std.proofs.Common.{arith}
use Rattle.rule_aggregating.proofs.Rows.{more_folded, none_folded}
use Rattle.rule_aggregating.proofs.folding.fold_row.Goals as goal

pub loop-place-init : goal.loop-place-init
loop-place-init c = none_folded c.args.functions.now c.args.kept.now c.args.row.now

pub loop-place-preserved : goal.loop-place-preserved
loop-place-preserved c =
    more_folded c.args.functions.now c.args.kept.now c.args.row.now c.loop-place.kept c.fold_at.new.kept c.loop-place.place c.loop-place.invariant c.in_ok-fold_at.ensures.value c.in_ok-fold_at.ensures.others

pub returns-clause-values : goal.returns-clause-values
returns-clause-values c = λ place below. c.loop-place.invariant.done place (omega (arith, below, c.loop-place-test.false))
