use Rattle.std.proofs.Common.{List, ap, subst, ◌∷◌, [], ◌∙◌}
use Rattle.mt_values.specs.Values.{Row}
use Rattle.part_history.specs.mt_model.Rules.{Run}
use Rattle.mt_plain.specs.Outcomes.{AreExactly, MergesOneOf}
use Rattle.mt_plain.proofs.Merging.{merged_more, none_merged}
use Rattle.mt_plain.proofs.merges.merged.Goals as goal

pub loop-done-init : goal.loop-done-init
loop-done-init c = none_merged (Run c.args.engine.now c.args.functions.now) c.args.rows.now c.in_ok-lists.lists.items (c.in_ok-lists.ensures ∙ ap (λ (r : List Row). r ∷ []) c.in_ok-copied.ensures)

pub loop-done-preserved : goal.loop-done-preserved
loop-done-preserved c =
    let run = Run c.args.engine.now c.args.functions.now in
    let outs = c.in_ok-lists-2.lists.items in
    let are = subst (λ (zs : List (List Row)). AreExactly outs (MergesOneOf run zs)) c.deref.ensures.value c.in_ok-lists-2.ensures in
    merged_more run c.args.rows.now c.loop-done._done c.loop-done.lists.items outs c.loop-done.invariant are
