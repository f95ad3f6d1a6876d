use Rattle.std.proofs.Common.{◌∙◌}
use Rattle.mt_plain.proofs.Changing.{same_is}
use Rattle.mt_plain.proofs.changes.same_type.Goals as goal

pub returns : goal.returns
returns c = c.eq.ensures ∙ same_is c.args.a c.args.b
