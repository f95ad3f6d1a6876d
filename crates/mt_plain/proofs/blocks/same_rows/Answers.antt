use Rattle.std.proofs.lemmas.Bool.Decides.{Decides-at}
use Rattle.mt_plain.proofs.Equal.{rows_same}
use Rattle.mt_plain.proofs.blocks.same_rows.Goals as goal

pub returns : goal.returns
returns c = Decides-at _ _ c.eq.ensures (rows_same c.args.a.now c.args.b.now)
