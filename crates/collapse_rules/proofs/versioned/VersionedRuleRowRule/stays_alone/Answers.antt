use Rattle.std.proofs.Common.{[], get_or, refl}
use Rattle.collapse_rules.proofs.Pairs.{one_left}
use Rattle.collapse_rules.proofs.versioned.VersionedRuleRowRule.stays_alone.Goals as goal

pub returns : goal.returns
returns c = λ told fits signed. let row = get_or c.args._block.now.rows c.args._at [] in one_left c.args.self.now.sign row row signed refl
