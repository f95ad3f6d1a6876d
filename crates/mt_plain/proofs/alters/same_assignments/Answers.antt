use Rattle.std.proofs.lemmas.Bool.Decides.{Decides-at}
use Rattle.mt_plain.proofs.Alike.{assignments_same}
use Rattle.mt_plain.proofs.alters.same_assignments.Goals as goal

pub returns : goal.returns
returns c = Decides-at _ _ c.eq.ensures (assignments_same c.args.a.now c.args.b.now)
