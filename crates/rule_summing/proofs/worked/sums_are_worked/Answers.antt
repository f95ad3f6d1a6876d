use Rattle.std.proofs.Common.{refl}
use Rattle.std.specs.Int.{int_wrap}
use Rattle.rule_summing.proofs.worked.sums_are_worked.Goals as goal

pub returns-clause-signed : goal.returns-clause-signed
unfolding int_wrap
returns-clause-signed c = refl
