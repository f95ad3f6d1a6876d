use Rattle.std.proofs.Common.{sym, ap}
use Rattle.mt_model.specs.Refusals.{refusal_of_cause}
use Rattle.mt_model.proofs.refusal.Refusal.of_cause.Goals as goal

pub returns-in-LongName : goal.returns-in-LongName
returns-in-LongName c = sym (ap refusal_of_cause c.in-LongName.is)
