use Rattle.std.proofs.Common.{◌++◌, ◌∷◌, [], Bool, List, ap, false, filter, get_or, length, not, sym, ℕ, ◌∙◌}
use Rattle.std.specs.List.{range_with_len}
use Rattle.std.proofs.lemmas.List.{take_all}
use Rattle.on_fly.proofs.ByColumns.{met_passed, unmet_more}
use Rattle.on_fly.proofs.blocks.places_unmet.Goals as goal

pub loop-place-init : goal.loop-place-init
loop-place-init c = c.new-places.ensures.items

pub loop-place-preserved-then-is_met : goal.loop-place-preserved-then-is_met
loop-place-preserved-then-is_met c =
    c.loop-place.invariant ∙ sym (met_passed c.args.met.now c.loop-place.place c.loop-place-test.true c.if-is_met.true)

pub loop-place-preserved : goal.loop-place-preserved
loop-place-preserved c =
    let i = c.loop-place.place in
    c.in_ok-push.ensures.items
    ∙ (ap (λ (ks : List ℕ). ks ++ i ∷ []) c.loop-place.invariant
    ∙ sym (unmet_more c.args.met.now i c.loop-place-test.true c.if-is_met.false))

pub returns : goal.returns
returns c =
    let met = c.args.met.now in
    c.loop-place.invariant
    ∙ ap (λ (some : List Bool). filter (λ place. not (get_or met place false)) (range_with_len 0 (length some))) (take_all c.loop-place.place met c.loop-place-test.false)
