use Rattle.std.proofs.Common.{refl}
use Rattle.rule_replacing.proofs.plain.PlainRuleRowRule.stays_alone.Goals as goal

pub returns : goal.returns
returns c = λ told fits taken. refl
