use Rattle.std.proofs.Common.{List, subst, sym, ◌∙◌, take}
use Rattle.std.specs.List.{Contains}
use Rattle.std.proofs.lemmas.List.{take_all}
use Rattle.mt_values.specs.Values.{Row}
use Rattle.part_history.specs.mt_model.Folding.{Leaves}
use Rattle.part_history.specs.mt_model.Rules.{Run}
use Rattle.mt_plain.specs.Outcomes.{AddsExactly, AreExactly}
use Rattle.mt_plain.proofs.Folded.{later_folds, settled_folds}
use Rattle.mt_plain.proofs.Merging.{OneMakes, one_of_more, one_of_none}
use Rattle.mt_plain.proofs.Steps.{when_ok}
use Rattle.mt_plain.proofs.folding.all_folded.Goals as goal

pub returns-then-is_settled : goal.returns-then-is_settled
returns-then-is_settled c =
    when_ok c.runs.result _ _ (λ outs are. settled_folds c.args.engine.now c.args.functions.now c.args.rows.now outs.items (sym c.is_settled.ensures ∙ c.if-is_settled.true) are) c.runs.ensures

pub loop-list-init : goal.loop-list-init
loop-list-init c =
    let left = Leaves (Run c.args.engine.now c.args.functions.now) in
    subst (λ (zs : List (List Row)). AreExactly zs (OneMakes left (take 0 c.deref-list-items.result.now))) (sym c.new-outs.ensures.items) (one_of_none left c.deref-list-items.result.now)

pub loop-list-preserved : goal.loop-list-preserved
loop-list-preserved c =
    let left = Leaves (Run c.args.engine.now c.args.functions.now) in
    let outs = c.in_ok-left.left.items in
    let are = subst (λ (rs : List Row). AreExactly outs (left rs)) c.as_slice.ensures c.in_ok-left.ensures in
    let adds = subst (λ (zs : List (List Row)). AddsExactly c.loop-list.outs.items c.add_each.new.found.items (Contains zs)) c.deref.ensures.value c.in_ok-add_each.ensures in
    one_of_more left c.deref-list-items.result.now c.loop-list.outs.items c.add_each.new.found.items outs c.loop-list.list-index c.list-item.result c.list-item.result c.loop-list-test.true c.list-item.is c.loop-list.invariant are adds

pub returns : goal.returns
returns c =
    let left = Leaves (Run c.args.engine.now c.args.functions.now) in
    let whole = take_all c.loop-list.list-index c.deref-list-items.result.now c.loop-list-test.false ∙ c.deref-list-items.ensures.value in
    later_folds c.args.engine.now c.args.functions.now c.args.rows.now c.in_ok-lists.lists.items c.loop-list.outs.items (sym c.is_settled.ensures ∙ c.if-is_settled.false) c.in_ok-lists.ensures
    (subst (λ (zs : List (List Row)). AreExactly c.loop-list.outs.items (OneMakes left zs)) whole c.loop-list.invariant)
