use Rattle.std.proofs.Common.{◌≡◌, ◌+◌, ◌*◌, ◌≤◌, ◌∷◌, [], ap, sym, ◌∙◌, subst, arith, length, length-append}
use Rattle.column_file.specs.byte_numbers.declared.faults.FormatFault.TheVariants.{Malformed}
use Rattle.primary_marks.specs.Places.{ExplainsMarks}
use Rattle.column_file.proofs.Fronts.{handed, handed_on}
use Rattle.primary_marks.proofs.Starts.{ArePlaced, marks_refused, one_marks, placed_all, placed_explains, placed_more, placed_past, placed_within}
use Rattle.primary_marks.proofs.places.read_places.Goals as goal

pub loop-column-preserved : goal.loop-column-preserved
loop-column-preserved c =
    let numbers = c.in_ok-numbers.numbers in
    let at = c.loop-column.at in
    let size : at + 8 * length numbers ≡ at + 8 * c.len.result = ap (λ k. at + 8 * k) (sym c.len.ensures) in
    let more = placed_more numbers c.loop-column.invariant.placed c.in_ok-numbers.ensures.read in
    let pushed = c.in_ok-push.ensures.ok in
    record {
      within = subst (λ k. k ≤ length c.args.bytes.now) size (placed_within more);
      placed = subst (λ k. ArePlaced c.args.granules c.args.bytes.now k c.push.new.self) size (subst (ArePlaced c.args.granules c.args.bytes.now (at + 8 * length numbers)) (sym pushed) more);
      count = ap length pushed ∙ length-append c.loop-column.places (numbers ∷ []) ∙ ap (λ k. k + 1) c.loop-column.invariant.count;
    }

pub returns-in_err-numbers-clause-spelled : goal.returns-in_err-numbers-clause-spelled
returns-in_err-numbers-clause-spelled c = λ places p.
    marks_refused (λ q. q ≡ places) c.args.columns c.args.granules c.args.bytes.now places c.from_residual.result c.from_residual.ensures.0
    (handed_on (ExplainsMarks c.args.columns c.args.granules c.args.bytes.now) c.from_residual.result c.in_err-numbers.field-0.0 c.from_residual.ensures.1
    (placed_explains c.args.columns c.args.granules c.args.bytes.now c.loop-column.at c.loop-column.places c.in_err-numbers.field-0.0 c.loop-column.invariant.placed (omega (arith, c.loop-column.invariant.count, c.loop-column-test.true)) c.in_err-numbers.ensures.fault)) p

pub returns-in_err-end_at-clause-spelled : goal.returns-in_err-end_at-clause-spelled
returns-in_err-end_at-clause-spelled c = λ places p.
    let full : length c.loop-column.places ≡ c.args.columns = omega (arith, c.loop-column.invariant.count, c.loop-column-test.false) in
    marks_refused (λ q. q ≡ places) c.args.columns c.args.granules c.args.bytes.now places c.from_residual-in_err-end_at.result c.from_residual-in_err-end_at.ensures.0
    (handed (ExplainsMarks c.args.columns c.args.granules c.args.bytes.now) c.from_residual-in_err-end_at.result c.in_err-end_at.field-0.0 (Malformed c.loop-column.at) c.from_residual-in_err-end_at.ensures.1 c.in_err-end_at.ensures.0
    (placed_past c.loop-column.invariant.placed full c.in_err-end_at.ensures.1)) p

pub returns-clause-spelled : goal.returns-clause-spelled
returns-clause-spelled c = λ places p.
    let full : length c.loop-column.places ≡ c.args.columns = omega (arith, c.loop-column.invariant.count, c.loop-column-test.false) in
    one_marks c.args.columns c.args.granules c.args.bytes.now c.loop-column.places places (placed_all c.loop-column.invariant.placed full c.in_ok-end_at.ensures) p
