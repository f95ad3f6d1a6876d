use Rattle.std.proofs.Common.{◌∙◌, ◌++◌, ◌∷◌, [], append_assoc, append-nil, ap, ap₂, arith, sym, take}
use Rattle.std.proofs.lemmas.List.{take_all}
use Rattle.mt_values.specs.Lists.{where_true}
use Rattle.mt_values.proofs.Wheres.{passed_next, taken_next}
use Rattle.mt_values.proofs.filtering.add_numbers_where.Goals as goal

pub loop-place-init : goal.loop-place-init
loop-place-init g c = sym (append-nil c.args.numbers.now.items)

pub loop-place-preserved-then-not-mask-place : goal.loop-place-preserved-then-not-mask-place
loop-place-preserved-then-not-mask-place g c =
    c.loop-place.invariant
    ∙ ap (λ xs. c.args.numbers.now.items ++ xs) (sym (passed_next c.args.mask.now c.args.from.now c.loop-place.place (omega (arith, c.requires, c.loop-place-test.true)) c.requires c.index-from-place.result c.if-not-mask-place.true c.index-from-place.is))

pub loop-place-preserved : goal.loop-place-preserved
loop-place-preserved g c =
    let first = c.args.numbers.now.items in
    let number = c.index-from-place.result in
    let i = c.loop-place.place in
    c.in_ok-push.ensures.items
    ∙ ap (λ xs. xs ++ number ∷ []) c.loop-place.invariant
    ∙ append_assoc first (where_true (take i c.args.mask.now) (take i c.args.from.now)) (number ∷ [])
    ∙ ap (λ xs. first ++ xs) (sym (taken_next c.args.mask.now c.args.from.now i (omega (arith, c.requires, c.loop-place-test.true)) c.requires number c.if-not-mask-place.false c.index-from-place.is))

pub returns : goal.returns
returns g c =
    c.loop-place.invariant
    ∙ ap₂ (λ m xs. c.args.numbers.now.items ++ where_true m xs) (take_all c.loop-place.place c.args.mask.now (omega (arith, c.requires, c.loop-place-test.false))) (take_all c.loop-place.place c.args.from.now c.loop-place-test.false)
