use Rattle.std.proofs.Common.{◌≡◌, ◌∷◌, ◌++◌, List, ap, map, subst, sym, ◌∙◌}
use Rattle.mt_values.specs.Values.{Row}
use Rattle.part_history.specs.mt_model.Rules.{IsSublist}
use Rattle.mt_plain.specs.Outcomes.{AreExactly}
use Rattle.mt_plain.proofs.Signs.{choices_more}
use Rattle.mt_plain.proofs.collapsing.+sublists.Goals as goal

pub returns : goal.returns
returns t c =
    let first = c.in-Some.first.now in
    let others = c.in-Some.others.now in
    let outs = c.in_ok-outs.outs.items in
    let more = c.in_ok-more.more.items in
    let is : c.args.rows.now ≡ first ∷ others = c.in-Some.ensures.cases.0 in
    let made = c.in_ok-more.ensures ∙ ap (map (λ (list : List Row). first ∷ list)) c.deref.ensures.value in
    subst (λ (zs : List (List Row)). AreExactly zs (λ out. IsSublist out c.args.rows.now)) (sym c.in_ok-append.ensures.items)
    (subst (λ (rs : List Row). AreExactly (outs ++ more) (λ out. IsSublist out rs)) (sym is) (choices_more first others outs more c.in_ok-outs.ensures made))
