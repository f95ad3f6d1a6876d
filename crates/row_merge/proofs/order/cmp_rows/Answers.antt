use Rattle.std.proofs.Common.{◌≡◌, ◌∙◌, Some, arith, get_or, ltb-true, refl, slice_get, subst, sym}
use Rattle.std.proofs.lemmas.Option.{slice_get_read}
use Rattle.row_merge.proofs.Keys.{alike_here, differ_here}
use Rattle.row_merge.proofs.order.cmp_rows.Goals as goal

pub returns-then-is_ne : goal.returns-then-is_ne
returns-then-is_ne c = λ first second.
    let place = get_or c.args.places.now c.loop-place.place-index 0 in
    let x = c.in-Some-Some.ensures.lookup in
    let y = c.in-Some-Some.ensures'.lookup in
    differ_here c.args.places.now c.loop-place.place-index c.args.a.now c.args.b.now c.in-Some-Some.x.now c.in-Some-Some.y.now c.cmp_value-found.result (omega arith)
    (subst (λ row. slice_get row place ≡ Some c.in-Some-Some.x.now) c.as_slice.ensures (slice_get_read c.as_slice.result.now _ place c.in-Some-Some.x.now refl (ltb-true _ _ (sym x.0)) x.1))
    (subst (λ row. slice_get row place ≡ Some c.in-Some-Some.y.now) c.as_slice-in-loop-place.ensures (slice_get_read c.as_slice-in-loop-place.result.now _ place c.in-Some-Some.y.now refl (ltb-true _ _ (sym y.0)) y.1))
    c.cmp_value-found.ensures (sym c.is_ne.ensures ∙ c.if-is_ne.true) ∙ c.loop-place.invariant first second

pub loop-place-preserved : goal.loop-place-preserved
loop-place-preserved c = λ first second.
    let place = get_or c.args.places.now c.loop-place.place-index 0 in
    let x = c.in-Some-Some.ensures.lookup in
    let y = c.in-Some-Some.ensures'.lookup in
    alike_here c.args.places.now c.loop-place.place-index c.args.a.now c.args.b.now c.in-Some-Some.x.now c.in-Some-Some.y.now c.cmp_value-found.result (omega arith)
    (subst (λ row. slice_get row place ≡ Some c.in-Some-Some.x.now) c.as_slice.ensures (slice_get_read c.as_slice.result.now _ place c.in-Some-Some.x.now refl (ltb-true _ _ (sym x.0)) x.1))
    (subst (λ row. slice_get row place ≡ Some c.in-Some-Some.y.now) c.as_slice-in-loop-place.ensures (slice_get_read c.as_slice-in-loop-place.result.now _ place c.in-Some-Some.y.now refl (ltb-true _ _ (sym y.0)) y.1))
    c.cmp_value-found.ensures (sym c.is_ne.ensures ∙ c.if-is_ne.false) ∙ c.loop-place.invariant first second
