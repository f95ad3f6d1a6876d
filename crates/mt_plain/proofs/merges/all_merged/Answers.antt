use Rattle.std.proofs.Common.{List, ap, subst, ◌∷◌, [], ◌∙◌}
use Rattle.std.specs.List.{Contains}
use Rattle.mt_values.specs.Values.{Row}
use Rattle.part_history.specs.mt_model.Rules.{Run}
use Rattle.mt_plain.specs.Outcomes.{AddsExactly, AreExactly, MergesOneOf}
use Rattle.mt_plain.proofs.Merging.{all_found, more_found, none_found}
use Rattle.mt_plain.proofs.merges.all_merged.Goals as goal

pub loop-done-init : goal.loop-done-init
loop-done-init c = none_found (Run c.args.engine.now c.args.functions.now) c.args.rows.now c.in_ok-lists.lists.items (c.in_ok-lists.ensures ∙ ap (λ (r : List Row). r ∷ []) c.in_ok-copied.ensures)

pub returns-then-are_among : goal.returns-then-are_among
returns-then-are_among c =
    let run = Run c.args.engine.now c.args.functions.now in
    let lists = c.loop-done.lists.items in
    let more = c.in_ok-more.more.items in
    let are = subst (λ (zs : List (List Row)). AreExactly more (MergesOneOf run zs)) c.deref.ensures.value c.in_ok-more.ensures in
    let own = c.are_among.ensures.0 c.if-are_among.true in
    let from = subst (λ (zs : List (List Row)). (x : List Row) → Contains zs x → Contains c.deref-in-loop-done.result.now x) c.deref-in-loop-done-2.ensures.value own in
    let closed = subst (λ (zs : List (List Row)). (x : List Row) → Contains more x → Contains zs x) c.deref-in-loop-done.ensures.value from in
    all_found run c.args.rows.now lists c.loop-done.invariant.0 c.loop-done.invariant.1 (λ x m. closed x ((are x).1 m))

pub loop-done-preserved : goal.loop-done-preserved
loop-done-preserved c =
    let run = Run c.args.engine.now c.args.functions.now in
    let lists = c.loop-done.lists.items in
    let more = c.in_ok-more.more.items in
    let are = subst (λ (zs : List (List Row)). AreExactly more (MergesOneOf run zs)) c.deref.ensures.value c.in_ok-more.ensures in
    let adds = subst (λ (zs : List (List Row)). AddsExactly lists c.add_each.new.found.items (Contains zs)) c.deref-in-loop-done-3.ensures.value c.in_ok-add_each.ensures in
    more_found run c.args.rows.now lists more c.add_each.new.found.items c.loop-done.invariant are adds
