use Rattle.std.proofs.Common.{All, subst, ◌∙◌}
use Rattle.std.proofs.lemmas.List.{take_all}
use Rattle.std.proofs.lemmas.List.Elements.{All-more}
use Rattle.run_memory.specs.Growing.{HasBlocks}
use Rattle.run_memory.proofs.growing.all_have_blocks.Goals as goal

pub loop-index-preserved : goal.loop-index-preserved
loop-index-preserved c =
    let has = HasBlocks c.args.schema.now in
    All-more has c.as_slice-index-items.result.now c.loop-index.index-index c.index-item.result c.loop-index-test.true c.loop-index.invariant
    (subst has c.index-item.is (c.has_blocks.ensures c.if-not-has_blocks.false))

pub returns : goal.returns
returns c = λ told.
    subst (All (HasBlocks c.args.schema.now))
    (take_all c.loop-index.index-index c.as_slice-index-items.result.now c.loop-index-test.false ∙ c.as_slice-index-items.ensures) c.loop-index.invariant
