use Rattle.std.proofs.Common.{[], get_or, refl}
use Rattle.rule_aggregating.proofs.Rows.{first_row}
use Rattle.rule_aggregating.proofs.aggregating.AggregatingRuleRowRule.stays_alone.Goals as goal

pub returns : goal.returns
returns c = λ told fits own.
    let row = get_or c.args._block.now.rows c.args._at [] in
    record { row = row; aggregates = first_row c.args.self.now.types c.args.self.now.functions row row refl fits own; out_is = refl }
