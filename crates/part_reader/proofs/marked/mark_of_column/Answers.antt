use Rattle.std.proofs.Common.{◌≡◌, ◌+◌, ◌∙◌, ap, arith, length, slice_get, sym}
use Rattle.std.proofs.lemmas.Option.{slice_get-get_or, slice_get_past}
use Rattle.part_reader.proofs.marked.mark_of_column.Goals as goal

pub returns-then-place-marks : goal.returns-then-place-marks
returns-then-place-marks c =
    sym (slice_get_past c.args.marks.now (c.args.number + length c.args.schema.now.indexes + 2) (omega (arith, c.len.ensures, c.saturating_add-place.ensures, c.if-place-marks.true)))

pub returns : goal.returns
returns c =
    let exact : c.saturating_add-place.result ≡ c.args.number + length c.args.schema.now.indexes + 2 = omega (arith, c.len.ensures, c.saturating_add-place.ensures, c.if-place-marks.false) in
    sym (slice_get-get_or c.args.marks.now c.saturating_add-place.result _ (omega (arith, c.if-place-marks.false))) ∙ ap (slice_get c.args.marks.now) exact
