use Rattle.rule_aggregating.proofs.Rows.{row_written}
use Rattle.rule_aggregating.proofs.aggregating.AggregatingRuleRowRule.add.Goals as goal

pub returns : goal.returns
returns c =
    row_written c.fold_row.result c.args.self.now.types c.args.self.now.functions c.as_slice.result.now c.args.kept.now.len c.args.kept.now.items c.as_mut_slice.result.now c.args.row.now c.fold_row.new.kept
    c.args.kept.now.ok.0 c.as_slice.ensures c.as_mut_slice.ensures.value c.fold_row.ensures.count c.fold_row.ensures.values
