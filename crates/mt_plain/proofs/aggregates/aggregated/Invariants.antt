-- what the rest of the functions make comes after the values so far
use Rattle.mt_plain.proofs.Aggregating.{Goes}
use Rattle.mt_plain.proofs.aggregates.aggregated.Given as goal

abbrev pub invariant-loop-place : goal.invariant-loop-place
invariant-loop-place l = Goes l.functions l.rows l.place l.row
