use Rattle.std.proofs.Common.{◌∙◌, nat_lt}
use Rattle.durable_commit.proofs.WhyRefused.{shown_then}
use Rattle.durable_commit.proofs.causes.refuse_stopped.Goals as goal

pub returns : goal.returns
returns c = c.then_some.ensures ∙ shown_then (nat_lt c.args.opened c.args.now) _
