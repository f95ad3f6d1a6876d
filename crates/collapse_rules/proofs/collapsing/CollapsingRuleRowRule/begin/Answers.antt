use Rattle.std.proofs.Common.{[]}
use Rattle.collapse_rules.proofs.Counting.{none_counted}
use Rattle.collapse_rules.proofs.collapsing.CollapsingRuleRowRule.begin.Goals as goal

pub returns : goal.returns
returns c = λ own. c.in_ok-count.ensures [] (none_counted c.args.self.now.sign) own
