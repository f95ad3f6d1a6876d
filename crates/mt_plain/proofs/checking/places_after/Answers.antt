use Rattle.std.proofs.Common.{[], ℕ, List, get_or, refl, subst, sym}
use Rattle.std.proofs.lemmas.List.{take_all}
use Rattle.mt_plain.specs.Outcomes.{AddsExactly}
use Rattle.mt_plain.specs.Plain.{OneStandsFrom}
use Rattle.mt_plain.proofs.Allowing.{no_place_yet, place_more, places_whole}
use Rattle.mt_plain.proofs.checking.places_after.Goals as goal

pub loop-at-init : goal.loop-at-init
loop-at-init c = subst (λ (zs : List ℕ). AddsExactly [] zs (OneStandsFrom c.args.text.now [] c.args.replies.now)) (sym c.new-found.ensures.items) (no_place_yet [] c.args.text.now c.args.places.now c.args.replies.now)

pub loop-at-preserved : goal.loop-at-preserved
loop-at-preserved c =
    place_more [] c.loop-at.found.items c.add_places.new.found.items c.args.text.now c.args.places.now c.args.replies.now c.loop-at.at-index 0 (get_or c.args.places.now c.loop-at.at-index 0) c.loop-at-test.true refl c.loop-at.invariant c.in_ok-add_places.ensures

pub returns : goal.returns
returns c =
    places_whole c.loop-at.found.items c.args.text.now c.args.places.now c.args.replies.now
    (subst (λ (zs : List ℕ). AddsExactly [] c.loop-at.found.items (OneStandsFrom c.args.text.now zs c.args.replies.now)) (take_all c.loop-at.at-index c.args.places.now c.loop-at-test.false) c.loop-at.invariant)
