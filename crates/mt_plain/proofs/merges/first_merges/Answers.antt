use Rattle.std.proofs.Common.{◌+◌, ◌++◌, List, ap, map, subst, sym, ◌∙◌, arith}
use Rattle.mt_values.specs.Values.{Row}
use Rattle.part_history.specs.mt_model.Rules.{Run}
use Rattle.mt_plain.specs.Outcomes.{AreExactly}
use Rattle.mt_plain.proofs.Merging.{UpTo, no_run_yet, run_longer, runs_whole}
use Rattle.mt_plain.proofs.merges.first_merges.Goals as goal

pub loop-place-init : goal.loop-place-init
loop-place-init c =
    subst (λ (zs : List (List Row)). AreExactly zs (UpTo (Run c.args.engine.now c.args.functions.now) c.args.rows.now 0)) (sym c.new-found.ensures.items) (no_run_yet (Run c.args.engine.now c.args.functions.now) c.args.rows.now)

pub loop-place-preserved : goal.loop-place-preserved
loop-place-preserved c =
    let run = Run c.args.engine.now c.args.functions.now in
    let rows = c.args.rows.now in
    let place = c.loop-place.place in
    let front = c.split_at.result.0.now in
    let back = c.split_at.result.1.now in
    let found = c.loop-place.found.items in
    let outs = c.in_ok-outs.outs.items in
    let more = c.in_ok-more.more.items in
    let made = c.in_ok-more.ensures ∙ ap (map (λ (out : List Row). out ++ back)) c.deref.ensures.value in
    subst (λ (zs : List (List Row)). AreExactly zs (UpTo run rows (place + 1))) (sym c.in_ok-append.ensures.items)
    (run_longer run rows place front back found outs more (omega arith) c.split_at.ensures.front c.split_at.ensures.back c.loop-place.invariant c.in_ok-outs.ensures made)

pub returns : goal.returns
returns c = runs_whole (Run c.args.engine.now c.args.functions.now) c.args.rows.now c.loop-place.place c.loop-place.found.items (omega arith) c.loop-place.invariant
