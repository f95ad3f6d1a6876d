use Rattle.std.proofs.Common.{◌∙◌, ◌∷◌, [], ◌++◌, List, ap, append_assoc, sym, take, take_all}
use Rattle.std.proofs.lemmas.List.{take_more}
use Rattle.part_set.specs.declared.kept.Kept.{Kept}
use Rattle.part_set.proofs.tables.copy_to.Goals as goal

pub returns : goal.returns
returns g c = c.loop-kept.invariant ∙ ap (λ (l : List (Kept g.row.P.Denot)). c.args.copies.now.items ++ l) (take_all c.loop-kept.kept-index c.args.parts.now c.loop-kept-test.false)

pub loop-kept-preserved : goal.loop-kept-preserved
loop-kept-preserved g c =
    let before = c.args.copies.now.items in
    let over = take c.loop-kept.kept-index c.args.parts.now in
    c.in_ok-push.ensures.items
    ∙ (ap (λ (l : List (Kept g.row.P.Denot)). l ++ c.in_ok-twin.field-0 ∷ []) c.loop-kept.invariant
    ∙ (append_assoc before over (c.in_ok-twin.field-0 ∷ [])
    ∙ (ap (λ (k : Kept g.row.P.Denot). before ++ (over ++ k ∷ [])) (c.in_ok-twin.ensures ∙ c.kept-item.is)
    ∙ ap (λ (l : List (Kept g.row.P.Denot)). before ++ l) (sym (take_more c.args.parts.now c.loop-kept.kept-index c.kept-item.result c.loop-kept-test.true)))))
