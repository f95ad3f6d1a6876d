use Rattle.std.proofs.Common.{◌≡◌, set, slice_get, get_or, Some, sym, ap, ◌∙◌}
use Rattle.std.proofs.lemmas.List.{set-get_or}
use Rattle.std.proofs.lemmas.Option.{slice_get_past, slice_get-get_or}
use Rattle.rule_summing.specs.Summed.{any_value, plus}
use Rattle.rule_summing.proofs.Adding.{added_none, added_one, read_at}
use Rattle.rule_summing.proofs.sums.add_at.Goals as goal

pub returns-in_default : goal.returns-in_default
returns-in_default c =
    let v = get_or c.args.sums.now c.args.place any_value in
    sym (ap (set c.args.sums.now c.args.place) (added_none c.args.places.now c.args.row.now c.args.place v
    (ap (λ r. slice_get r c.args.place) (sym c.as_slice.ensures) ∙ slice_get_past c.as_slice.result.now c.args.place c.in_default.ensures.lookup.3))
    ∙ set-get_or c.args.sums.now c.args.place any_value)

pub returns-then-has_place : goal.returns-then-has_place
returns-then-has_place c =
    let v = get_or c.args.sums.now c.args.place any_value in
    let w = c.in-Some.value.now in
    let within = c.in-Some.ensures.lookup.3 in
    let found : slice_get c.args.row.now c.args.place ≡ Some w =
    ap (λ r. slice_get r c.args.place) (sym c.as_slice.ensures) ∙ slice_get-get_or c.as_slice.result.now c.args.place w within.0 ∙ ap Some (sym (within.1 w)) in
    let kept : v ≡ get_or c.args.sums.now c.args.place c.index-sums-place.result =
    read_at c.args.sums.now c.args.place c.index-sums-place.result c.requires c.index-sums-place.is ∙ c.index-sums-place.is in
    ap (set c.args.sums.now c.args.place) (c.add_number.ensures ∙ ap (λ x. plus x w) (sym kept)
    ∙ sym (added_one c.args.places.now c.args.row.now c.args.place v w (sym c.has_place.ensures ∙ c.if-has_place.true) found))
