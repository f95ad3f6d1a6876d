use Rattle.std.proofs.Common.{◌<◌, All, arith, length, subst, ◌∙◌}
use Rattle.std.proofs.lemmas.List.{take_all}
use Rattle.std.proofs.lemmas.List.Elements.{All-more}
use Rattle.run_memory.proofs.growing.are_columns.Goals as goal

pub loop-place-preserved : goal.loop-place-preserved
loop-place-preserved c =
    All-more (λ place. place < length c.args.schema.now.columns) c.args.places.now c.loop-place.place-index 0 (omega arith) c.loop-place.invariant
    (omega (arith, c.len-width.ensures))

pub returns : goal.returns
returns c = λ told.
    subst (All (λ place. place < length c.args.schema.now.columns))
    (take_all c.loop-place.place-index c.args.places.now (omega arith)) c.loop-place.invariant
