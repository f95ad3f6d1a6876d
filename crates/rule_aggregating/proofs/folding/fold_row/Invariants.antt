use Rattle.rule_aggregating.proofs.Rows.{IsFoldedBefore}
use Rattle.rule_aggregating.proofs.folding.fold_row.Given as goal

abbrev pub invariant-loop-place : goal.invariant-loop-place
invariant-loop-place l = IsFoldedBefore l.functions l.initial.kept l.row l.kept l.place
