use Rattle.std.proofs.Common.{length, refl}
use Rattle.std.proofs.lemmas.Option.{slice_get_read}
use Rattle.merge_select.proofs.Wholes.{busy_here}
use Rattle.merge_select.proofs.whole.first_busy.Goals as goal

pub returns-then-kept-clause-some : goal.returns-then-kept-clause-some
returns-then-kept-clause-some g c =
    busy_here c.args.parts.now c.loop-kept.kept-index c.kept-item.result
    (slice_get_read c.args.parts.now (length c.args.parts.now) c.loop-kept.kept-index c.kept-item.result refl c.loop-kept-test.true c.kept-item.is)
    c.if-kept.true c.loop-kept.invariant
