use Rattle.std.proofs.Common.{List, subst, sym, ◌∙◌}
use Rattle.std.specs.List.{Contains}
use Rattle.std.proofs.lemmas.List.{take_all}
use Rattle.mt_values.specs.Values.{Row}
use Rattle.part_history.specs.mt_model.Folding.{Leaves}
use Rattle.part_history.specs.mt_model.Rules.{Run}
use Rattle.mt_plain.proofs.Folded.{never_more}
use Rattle.mt_plain.proofs.Merging.{not_both}
use Rattle.mt_plain.proofs.folding.leaves_after.Goals as goal

pub loop-list-preserved : goal.loop-list-preserved
loop-list-preserved c =
    let run = Run c.args.engine.now c.args.functions.now in
    let out = c.args.out.now in
    never_more run c.args.rows.now out c.deref-list-items.result.now c.loop-list.list-index c.list-item.result c.list-item.result c.loop-list-test.true c.list-item.is
    (λ leaves. not_both (c.in_ok-leaves.ensures.1 (subst (λ (rs : List Row). Leaves run rs out) (sym c.as_slice.ensures) leaves)) c.if-branch.false) c.loop-list.invariant

pub returns : goal.returns
returns c =
    let whole = take_all c.loop-list.list-index c.deref-list-items.result.now c.loop-list-test.false ∙ c.deref-list-items.ensures.value in
    (λ e. cc, λ h. absurd (c.loop-list.invariant h.0 (subst (λ (zs : List (List Row)). Contains zs h.0) (sym whole) ((c.in_ok-lists.ensures h.0).1 h.1)) h.2))
