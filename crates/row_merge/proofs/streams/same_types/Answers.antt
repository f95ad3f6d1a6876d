use Rattle.std.proofs.lemmas.Bool.Decides.{Decides-at}
use Rattle.mt_values.proofs.SameTypes.{types_same}
use Rattle.row_merge.proofs.streams.same_types.Goals as goal

pub returns : goal.returns
returns c = Decides-at _ _ c.eq.ensures (types_same c.args.a.now c.args.b.now)
