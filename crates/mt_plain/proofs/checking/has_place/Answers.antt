use Rattle.std.proofs.Common.{ℕ, List, get_or, refl, subst}
use Rattle.std.specs.List.{Contains}
use Rattle.std.proofs.lemmas.List.{take_all}
use Rattle.std.proofs.lemmas.List.Elements.{Contains-get_or}
use Rattle.mt_plain.proofs.Exactly.{contains_none}
use Rattle.mt_plain.proofs.Merging.{not_more}
use Rattle.mt_plain.proofs.checking.has_place.Goals as goal

pub loop-other-init : goal.loop-other-init
loop-other-init c = contains_none c.args.place

pub loop-other-preserved : goal.loop-other-preserved
loop-other-preserved c =
    let i = c.loop-other.other-index in
    not_more c.args.places.now i 0 (get_or c.args.places.now i 0) c.args.place c.loop-other-test.true refl c.if-other-place.false c.loop-other.invariant

pub returns-then-other-place : goal.returns-then-other-place
returns-then-other-place c =
    let own = Contains-get_or c.args.places.now c.loop-other.other-index 0 c.loop-other-test.true in
    (λ t. subst (Contains c.args.places.now) c.if-other-place.true own, λ h. refl)

pub returns : goal.returns
returns c =
    let never = subst (λ (zs : List ℕ). Contains zs c.args.place → ⊥) (take_all c.loop-other.other-index c.args.places.now c.loop-other-test.false) c.loop-other.invariant in
    (λ e. cc, λ h. absurd (never h))
