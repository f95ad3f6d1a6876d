use Rattle.std.proofs.Common.{◌∙◌, ◌++◌, ◌∷◌, [], append_assoc, append-nil, ap, ap₂, arith, get_or, sym, take}
use Rattle.std.proofs.lemmas.List.{get_or_default, take_all}
use Rattle.std.proofs.lemmas.Option.{get_or_from_slice_get}
use Rattle.mt_values.specs.Lists.{where_true}
use Rattle.mt_values.proofs.Wheres.{passed_next, taken_next}
use Rattle.mt_values.proofs.filtering.add_texts_where.Goals as goal

pub loop-place-init : goal.loop-place-init
loop-place-init c = sym (append-nil c.args.texts.now)

pub loop-place-preserved-then-not-is_true : goal.loop-place-preserved-then-not-is_true
loop-place-preserved-then-not-is_true c =
    let texts = c.args.from.now in
    let i = c.loop-place.place in
    c.loop-place.invariant
    ∙ ap (λ xs. c.args.texts.now ++ xs)
    (sym (passed_next c.args.mask.now texts i c.loop-place-test.true c.requires (get_or texts i []) c.if-not-is_true.true (get_or_default texts i [] (get_or texts i []) (omega (arith, c.requires, c.loop-place-test.true)))))

pub loop-place-preserved : goal.loop-place-preserved
loop-place-preserved c =
    let first = c.args.texts.now in
    let texts = c.args.from.now in
    let text = c.at.result.now in
    let i = c.loop-place.place in
    c.in_ok-push.ensures.ok
    ∙ ap (λ xs. xs ++ text ∷ []) c.loop-place.invariant
    ∙ append_assoc first (where_true (take i c.args.mask.now) (take i texts)) (text ∷ [])
    ∙ ap (λ xs. first ++ xs)
    (sym (taken_next c.args.mask.now texts i c.loop-place-test.true c.requires text c.if-not-is_true.false (sym (get_or_from_slice_get texts i text text c.at.ensures))))

pub returns : goal.returns
returns c =
    c.loop-place.invariant
    ∙ ap₂ (λ m xs. c.args.texts.now ++ where_true m xs) (take_all c.loop-place.place c.args.mask.now c.loop-place-test.false) (take_all c.loop-place.place c.args.from.now (omega (arith, c.requires, c.loop-place-test.false)))
