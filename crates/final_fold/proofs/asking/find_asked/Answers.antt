use Rattle.std.proofs.Common.{◌∙◌, ◌+◌, ◌++◌, ◌∷◌, ap, append_assoc, drop, length, map, refl, sym}
use Rattle.std.proofs.lemmas.List.{map-append}
use Rattle.std.proofs.lemmas.Option.{slice_get_read}
use Rattle.final_fold.specs.Asked.{asked_somewhere, some_true}
use Rattle.final_fold.proofs.Sure.{find_next, find_past, find_skip, pair_of}
use Rattle.final_fold.proofs.asking.find_asked.Goals as goal

-- its granules are not there
pub loop-number-preserved-in_default : goal.loop-number-preserved-in_default
loop-number-preserved-in_default c =
    ap (λ ps. map pair_of c.loop-number.found.items ++ ps) (sym (find_past c.args.conjuncts.now c.args.asked.now c.loop-number.number c.loop-number-test.true c.in_default.ensures.lookup.3))
    ∙ c.loop-number.invariant

-- it is asked nowhere
pub loop-number-preserved-then-not-some_true : goal.loop-number-preserved-then-not-some_true
loop-number-preserved-then-not-some_true c =
    let granules = c.in-Some.granules.now in
    let there = c.in-Some.ensures.lookup in
    ap (λ ps. map pair_of c.loop-number.found.items ++ ps)
    (sym (find_skip c.args.conjuncts.now c.args.asked.now c.loop-number.number c.loop-number-test.true c.index-conjuncts-number.result granules c.index-conjuncts-number.is
    (slice_get_read c.args.asked.now (length c.args.asked.now) c.loop-number.number granules refl there.3.0 there.1) (ap some_true (sym c.as_slice.ensures) ∙ sym c.some_true.ensures ∙ c.if-not-some_true.true)))
    ∙ c.loop-number.invariant

-- it is asked somewhere
pub loop-number-preserved : goal.loop-number-preserved
loop-number-preserved c =
    let granules = c.in-Some.granules.now in
    let there = c.in-Some.ensures.lookup in
    let d = c.index-conjuncts-number.result in
    let rest = asked_somewhere (drop (c.loop-number.number + 1) c.args.conjuncts.now) (drop (c.loop-number.number + 1) c.args.asked.now) in
    ap (λ xs. map pair_of xs ++ rest) c.in_ok-push.ensures.items
    ∙ ap (λ ps. ps ++ rest) (map-append pair_of c.loop-number.found.items _)
    ∙ append_assoc (map pair_of c.loop-number.found.items) _ rest
    ∙ ap (λ gs. map pair_of c.loop-number.found.items ++ ((d, gs) ∷ rest)) c.as_slice-in-loop-number.ensures
    ∙ ap (λ ps. map pair_of c.loop-number.found.items ++ ps)
    (sym (find_next c.args.conjuncts.now c.args.asked.now c.loop-number.number c.loop-number-test.true d granules c.index-conjuncts-number.is
    (slice_get_read c.args.asked.now (length c.args.asked.now) c.loop-number.number granules refl there.3.0 there.1) (ap some_true (sym c.as_slice.ensures) ∙ sym c.some_true.ensures ∙ c.if-not-some_true.false)))
    ∙ c.loop-number.invariant
