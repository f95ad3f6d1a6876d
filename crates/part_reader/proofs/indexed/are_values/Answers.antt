use Rattle.std.proofs.Common.{◌∙◌, List, Some, ap, arith, length, refl, slice_get, sym}
use Rattle.std.proofs.lemmas.Bool.{false≢true}
use Rattle.std.proofs.lemmas.Option.{same_Some, slice_get_read}
use Rattle.mt_values.specs.declared.value.Value.{Value}
use Rattle.part_reader.proofs.KeptColumns.{alike_all, alike_more}
use Rattle.part_reader.proofs.indexed.are_values.Goals as goal

pub returns-then-a-b : goal.returns-then-a-b
returns-then-a-b c = (λ e. absurd (false≢true e), λ e. absurd (omega (arith, ap length e, c.if-a-b.true)))

pub returns-then-not-is_value : goal.returns-then-not-is_value
returns-then-not-is_value c =
    let a = c.args.a.now in
    let b = c.args.b.now in
    let place = c.loop-place.place in
    let first = slice_get_read a (length a) place c.index-a-place.result refl (omega (arith, c.loop-place-test.true)) c.index-a-place.is in
    let second = slice_get_read b (length b) place c.index-b-place.result refl (omega (arith, c.loop-place-test.true, c.if-a-b.false)) c.index-b-place.is in
    (λ e. absurd (false≢true e), λ e. absurd (false≢true (sym c.if-not-is_value.true ∙ c.is_value.ensures.1 (same_Some _ _ (sym first ∙ ap (λ (l : List Value). slice_get l place) e ∙ second)))))

pub loop-place-preserved : goal.loop-place-preserved
loop-place-preserved c =
    let a = c.args.a.now in
    let b = c.args.b.now in
    let place = c.loop-place.place in
    let first = slice_get_read a (length a) place c.index-a-place.result refl (omega (arith, c.loop-place-test.true)) c.index-a-place.is in
    let second = slice_get_read b (length b) place c.index-b-place.result refl (omega (arith, c.loop-place-test.true, c.if-a-b.false)) c.index-b-place.is in
    alike_more place a b c.loop-place.invariant (first ∙ ap Some (c.is_value.ensures.0 c.if-not-is_value.false) ∙ sym second)

pub returns : goal.returns
returns c = (
  λ e.
      alike_all c.loop-place.place c.args.a.now c.args.b.now (omega (arith, c.if-a-b.false)) (omega (arith, c.loop-place-test.false, c.loop-place.auto.place-end, c.if-a-b.false)) c.loop-place.invariant,
  λ e. refl,
)
