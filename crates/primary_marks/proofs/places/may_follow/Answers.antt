use Rattle.std.proofs.Common.{sym}
use Rattle.primary_marks.proofs.Starts.{start_follows}
use Rattle.primary_marks.proofs.places.may_follow.Goals as goal

pub returns-in-Some : goal.returns-in-Some
returns-in-Some c = start_follows c.args.before.now c.in-Some.last.now c.args.number (sym c.in-Some.ensures.value) c.requires
