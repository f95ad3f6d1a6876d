use Rattle.std.proofs.lemmas.Bool.Decides.{Decides-at}
use Rattle.mt_plain.proofs.Changing.{change_decides}
use Rattle.mt_plain.proofs.changes.is_change_of.Goals as goal

pub returns : goal.returns
returns c = Decides-at _ _ c.is_change.ensures (change_decides c.args.schema.now c.args.change.now)
