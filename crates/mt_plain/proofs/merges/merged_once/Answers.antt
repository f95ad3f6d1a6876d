use Rattle.std.proofs.Common.{List, subst, sym, take}
use Rattle.std.proofs.lemmas.List.{take_all}
use Rattle.mt_values.specs.Values.{Row}
use Rattle.part_history.specs.mt_model.Folding.{Merges}
use Rattle.part_history.specs.mt_model.Rules.{Run}
use Rattle.std.specs.List.{Contains}
use Rattle.mt_plain.specs.Outcomes.{AddsExactly, AreExactly, MergesOneOf}
use Rattle.mt_plain.proofs.Merging.{one_of_more, one_of_none}
use Rattle.mt_plain.proofs.merges.merged_once.Goals as goal

pub loop-list-init : goal.loop-list-init
loop-list-init c =
    let run = Run c.args.engine.now c.args.functions.now in
    subst (λ (zs : List (List Row)). AreExactly zs (MergesOneOf run (take 0 c.args.lists.now))) (sym c.new-found.ensures.items) (one_of_none (Merges run) c.args.lists.now)

pub loop-list-preserved : goal.loop-list-preserved
loop-list-preserved c =
    let run = Run c.args.engine.now c.args.functions.now in
    let outs = c.in_ok-outs.outs.items in
    let are = subst (λ (rs : List Row). AreExactly outs (Merges run rs)) c.as_slice.ensures c.in_ok-outs.ensures in
    let adds = subst (λ (zs : List (List Row)). AddsExactly c.loop-list.found.items c.add_each.new.found.items (Contains zs)) c.deref.ensures.value c.in_ok-add_each.ensures in
    one_of_more (Merges run) c.args.lists.now c.loop-list.found.items c.add_each.new.found.items outs c.loop-list.list-index c.list-item.result c.list-item.result c.loop-list-test.true c.list-item.is c.loop-list.invariant are adds

pub returns : goal.returns
returns c =
    subst (λ (zs : List (List Row)). AreExactly c.loop-list.found.items (MergesOneOf (Run c.args.engine.now c.args.functions.now) zs)) (take_all c.loop-list.list-index c.args.lists.now c.loop-list-test.false) c.loop-list.invariant
