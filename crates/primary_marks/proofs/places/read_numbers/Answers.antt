use Rattle.std.proofs.Common.{◌≡◌, ◌+◌, ◌*◌, ap, sym, ◌∙◌, arith, drop, length, length-append, [], ◌∷◌, subst, List, ℕ}
use Rattle.std.proofs.lemmas.List.{drop-drop}
use Rattle.column_file.specs.byte_numbers.declared.faults.FormatFault.TheVariants.{Malformed}
use Rattle.primary_marks.specs.Places.{ExplainsStarts, IsNextStart, NoStartFollows}
use Rattle.column_file.proofs.Fronts.{handed}
use Rattle.primary_marks.proofs.Starts.{AreBegun, begun_more, begun_stuck}
use Rattle.primary_marks.proofs.places.read_numbers.Goals as goal

-- what is left after the numbers so far
left : (at n size : ℕ) (bytes : List ℕ) → n ≡ size → drop (at + 8 * n) bytes ≡ drop (8 * size) (drop at bytes)
left at n size bytes e = ap (λ k. drop (at + 8 * k) bytes) e ∙ sym (drop-drop (8 * size) at bytes)

pub returns-in_err-number-clause-fault : goal.returns-in_err-number-clause-fault
returns-in_err-number-clause-fault c =
    let rest = drop c.args.at c.args.bytes.now in
    let numbers = c.loop-granule.numbers in
    handed (ExplainsStarts c.args.granules c.args.at rest) c.from_residual-in_err-number.result c.in_err-number.field-0.0 (Malformed (c.args.at + 8 * c.len.result)) c.from_residual-in_err-number.ensures.1 c.in_err-number.ensures.0
    (begun_stuck c.args.granules c.args.at rest numbers (c.args.at + 8 * c.len.result) c.loop-granule.invariant.begun (omega (arith, c.loop-granule.invariant.count)) (ap (λ k. c.args.at + 8 * k) c.len.ensures)
    (subst (NoStartFollows numbers) (left c.args.at c.len.result (length numbers) c.args.bytes.now c.len.ensures) c.in_err-number.ensures.1))

pub loop-granule-preserved : goal.loop-granule-preserved
loop-granule-preserved c =
    let rest = drop c.args.at c.args.bytes.now in
    let numbers = c.loop-granule.numbers in
    let pushed = c.in_ok-push-2.ensures.ok in
    let next = subst (IsNextStart numbers c.in_ok-number.number) (left c.args.at c.len.result (length numbers) c.args.bytes.now c.len.ensures) c.in_ok-number.ensures in
    record {
      begun = subst (AreBegun rest) (sym pushed) (begun_more rest numbers c.in_ok-number.number c.loop-granule.invariant.begun next);
      count = ap length pushed ∙ length-append numbers (c.in_ok-number.number ∷ []) ∙ ap (λ k. k + 1) c.loop-granule.invariant.count;
    }
