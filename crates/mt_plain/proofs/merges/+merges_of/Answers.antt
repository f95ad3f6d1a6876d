use Rattle.std.proofs.Common.{◌≡◌, ◌∷◌, ◌++◌, List, ap, map, subst, sym, ◌∙◌}
use Rattle.mt_values.specs.Values.{Row}
use Rattle.part_history.specs.mt_model.Folding.{Merges}
use Rattle.part_history.specs.mt_model.Rules.{Run}
use Rattle.mt_plain.specs.Outcomes.{AreExactly, MergesFirst}
use Rattle.mt_plain.proofs.Merging.{merges_exactly}
use Rattle.mt_plain.proofs.merges.+merges_of.Goals as goal

pub returns : goal.returns
returns t c =
    let run = Run c.args.engine.now c.args.functions.now in
    let first = c.in-Some.first.now in
    let others = c.in-Some.others.now in
    let outs = c.in_ok-outs.outs.items in
    let later = c.in_ok-later.later.items in
    let more = c.in_ok-more.more.items in
    let is : c.args.rows.now ≡ first ∷ others = c.in-Some.ensures.cases.0 in
    let firsts = subst (λ (rs : List Row). AreExactly outs (MergesFirst run rs)) is c.in_ok-outs.ensures in
    let made = c.in_ok-more.ensures ∙ ap (map (λ (list : List Row). first ∷ list)) c.deref.ensures.value in
    subst (λ (zs : List (List Row)). AreExactly zs (Merges run c.args.rows.now)) (sym c.in_ok-append.ensures.items)
    (subst (λ (rs : List Row). AreExactly (outs ++ more) (Merges run rs)) (sym is) (merges_exactly run first others outs later more firsts c.in_ok-later.ensures made))
