use Rattle.std.proofs.Common.{◌≡◌, ◌<◌, ◌+◌, ◌∙◌, Some, Ok, Err, sym, ap, subst, false, slice_get, length, arith}
use Rattle.mt_values.specs.Rows.{fault_of_field, fields_from}
use Rattle.tsv_fields.specs.Columns.{with_field}
use Rattle.tsv_fields.proofs.LineColumns.{columns_begin, columns_miscounted, columns_more, columns_refused}
use Rattle.tsv_fields.proofs.LineRows.{same_count, other_count}
use Rattle.tsv_fields.proofs.lines.read_line.Goals as goal

pub returns-in-Some : goal.returns-in-Some
returns-in-Some c =
    let columns = c.args.columns.now in
    let told = other_count c.args.line (length c.args.ends.now) (length columns) c.in-Some.fault c.in-Some.ensures in
    sym (ap Err told.1 ∙ columns_miscounted c.args.line columns c.args.text.now c.args.ends.now c.requires told.0)

pub loop-place-init : goal.loop-place-init
loop-place-init c =
    let same : length c.args.ends.now ≡ length c.args.columns.now = same_count c.args.line (length c.args.ends.now) (length c.args.columns.now) c.in_default.ensures in
    columns_begin c.args.line c.args.columns.now c.args.text.now c.args.ends.now c.requires same

pub returns-in-Err-Refused : goal.returns-in-Err-Refused
returns-in-Err-Refused c =
    let column = c.index-columns-place.result in
    let fault = c.in-Err-Refused.fault in
    let fields = fields_from false c.args.text.now in
    let within : c.loop-place.place < length c.loop-place.columns = omega arith in
    let field : slice_get fields c.loop-place.place ≡ Some c.field_at.result.now = c.field_at.ensures in
    let told = rw c.in-Err-Refused.field-0-is at c.in-Err-Refused.ensures in
    let read : Err fault ≡ with_field column c.field_at.result.now = subst (λ d. Err fault ≡ with_field d c.field_at.result.now) (sym c.index-columns-place.is) (sym told) in
    sym
    (ap Err (c.fault_of_field.ensures ∙ ap (fault_of_field c.args.line (c.loop-place.place + 1)) c.in-Err-Refused.fault-is)
    ∙ columns_refused c.loop-place.columns fields c.args.line c.loop-place.place column c.field_at.result.now within c.index-columns-place.is field fault read
    ∙ c.loop-place.invariant)

pub loop-place-preserved : goal.loop-place-preserved
loop-place-preserved c =
    let column = c.index-columns-place.result in
    let fields = fields_from false c.args.text.now in
    let within : c.loop-place.place < length c.loop-place.columns = omega arith in
    let field : slice_get fields c.loop-place.place ≡ Some c.field_at.result.now = c.field_at.ensures in
    let new = c.read_field.new.column in
    let read : Ok new ≡ with_field column c.field_at.result.now = subst (λ d. Ok new ≡ with_field d c.field_at.result.now) (sym c.index-columns-place.is) (sym c.in-Ok.ensures) in
    columns_more c.loop-place.columns fields c.args.line c.loop-place.place column c.field_at.result.now within c.index-columns-place.is field new read
    ∙ c.loop-place.invariant
