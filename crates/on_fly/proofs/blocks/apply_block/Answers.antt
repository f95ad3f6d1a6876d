use Rattle.std.proofs.Common.{List, ap, refl, subst₂, sym, ◌∙◌}
use Rattle.std.proofs.lemmas.List.{take_all}
use Rattle.mt_values.specs.declared.mutation.Mutation.{Mutation}
use Rattle.mt_values.specs.declared.value.ColType.{ColType}
use Rattle.mt_values.specs.Changes.{mutated}
use Rattle.mt_values.specs.Grid.{Grid}
use Rattle.on_fly.specs.Updates.{KeepsTypes}
use Rattle.on_fly.proofs.ByColumns.{block_more, with_rows}
use Rattle.on_fly.proofs.blocks.apply_block.Goals as goal

pub loop-mutation-init : goal.loop-mutation-init
loop-mutation-init c = refl

pub change_block-requires : goal.change_block-requires
change_block-requires c =
    let i = c.loop-mutation.mutation-index in
    subst₂ (λ (types : List ColType) (m : Mutation). KeepsTypes types m.change) (sym (ap (λ (g : Grid). g.types) c.loop-mutation.invariant)) (sym c.mutation-item.is)
    (c.requires i c.mutation-item.result c.loop-mutation-test.true)

pub loop-mutation-preserved : goal.loop-mutation-preserved
loop-mutation-preserved c =
    block_more c.args.block.now c.loop-mutation.block _ c.args.mutations.now c.loop-mutation.mutation-index c.mutation-item.result c.loop-mutation-test.true c.mutation-item.is
    c.loop-mutation.invariant c.in_ok-block.ensures

pub returns : goal.returns
returns c =
    let g = c.args.block.now in
    c.loop-mutation.invariant ∙ ap (λ (ms : List Mutation). with_rows g (mutated ms g.rows)) (take_all c.loop-mutation.mutation-index c.args.mutations.now c.loop-mutation-test.false)
