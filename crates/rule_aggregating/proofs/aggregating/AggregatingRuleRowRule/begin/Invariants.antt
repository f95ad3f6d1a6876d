use Rattle.std.proofs.Common.{All, take}
use Rattle.mt_values.specs.Values.{FitsType}
use Rattle.rule_aggregating.proofs.aggregating.AggregatingRuleRowRule.begin.Given as goal

abbrev pub invariant-loop-value : goal.invariant-loop-value
invariant-loop-value l = All FitsType (take l.value-index l.row)
