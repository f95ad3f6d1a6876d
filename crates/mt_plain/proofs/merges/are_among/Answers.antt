use Rattle.std.proofs.Common.{List, refl, subst, sym}
use Rattle.std.specs.List.{Contains}
use Rattle.std.proofs.lemmas.List.{take_all}
use Rattle.std.proofs.lemmas.List.Elements.{Contains-get_or}
use Rattle.mt_values.specs.Values.{Row}
use Rattle.mt_plain.proofs.Exactly.{contains_none}
use Rattle.mt_plain.proofs.Merging.{all_so_far, not_both}
use Rattle.mt_plain.proofs.merges.are_among.Goals as goal

pub loop-other-init : goal.loop-other-init
loop-other-init c = λ x h. absurd (contains_none x h)

pub loop-other-preserved : goal.loop-other-preserved
loop-other-preserved c =
    all_so_far c.args.lists.now c.args.others.now c.loop-other.other-index c.other-item.result c.other-item.result c.loop-other-test.true c.other-item.is
    (subst (Contains c.args.lists.now) c.as_slice.ensures (c.is_among.ensures.0 c.if-not-is_among.false)) c.loop-other.invariant

pub returns-then-not-is_among : goal.returns-then-not-is_among
returns-then-not-is_among c =
    let own : Contains c.args.others.now c.other-item.result = subst (Contains c.args.others.now) (sym c.other-item.is) (Contains-get_or c.args.others.now c.loop-other.other-index c.other-item.result c.loop-other-test.true) in
    (λ e. cc, λ all. absurd (not_both (c.is_among.ensures.1 (subst (Contains c.args.lists.now) (sym c.as_slice.ensures) (all c.other-item.result own))) c.if-not-is_among.true))

pub returns : goal.returns
returns c =
    (λ e. subst (λ (zs : List (List Row)). (x : List Row) → Contains zs x → Contains c.args.lists.now x) (take_all c.loop-other.other-index c.args.others.now c.loop-other-test.false) c.loop-other.invariant, λ all. refl)
