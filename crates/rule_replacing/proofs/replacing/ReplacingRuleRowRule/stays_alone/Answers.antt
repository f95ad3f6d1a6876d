use Rattle.std.proofs.Common.{[], get_or, refl}
use Rattle.rule_replacing.proofs.KeptRow.{kept_first}
use Rattle.rule_replacing.proofs.replacing.ReplacingRuleRowRule.stays_alone.Goals as goal

pub returns : goal.returns
returns c = λ told fits taken. let row = get_or c.args._block.now.rows c.args._at [] in kept_first c.args.self.now.version row row refl
