use Rattle.std.proofs.Common.{[], get_or}
use Rattle.collapse_rules.proofs.Counting.{alone_left}
use Rattle.collapse_rules.proofs.collapsing.CollapsingRuleRowRule.stays_alone.Goals as goal

pub returns : goal.returns
returns c = λ told fits signed. alone_left c.args.self.now.sign (get_or c.args._block.now.rows c.args._at []) signed
