use Rattle.std.proofs.Common.{◌≡◌, take, All, subst, ◌∙◌}
use Rattle.std.proofs.lemmas.List.{take_all}
use Rattle.std.proofs.lemmas.List.Elements.{All-more}
use Rattle.mt_values.specs.Grid.{AreOfType}
use Rattle.mt_values.proofs.block.Block.of_columns.Goals as goal

pub loop-column-preserved : goal.loop-column-preserved
loop-column-preserved c =
    let here : AreOfType c.column-item.result = c.len.ensures.typed in
    All-more AreOfType c.deref-column-items.result.now c.loop-column.column-index c.column-item.result c.loop-column-test.true c.loop-column.invariant
    (subst AreOfType c.column-item.is here)

pub invariant_of-result : goal.invariant_of-result
invariant_of-result c =
    let columns = c.deref-column-items.result.now in
    let whole : take c.loop-column.column-index columns ≡ c.args.columns.items = take_all c.loop-column.column-index columns c.loop-column-test.false ∙ c.deref-column-items.ensures.value in
    record { even = c.requires.even; typed = subst (All AreOfType) whole c.loop-column.invariant; few = c.requires.few }
