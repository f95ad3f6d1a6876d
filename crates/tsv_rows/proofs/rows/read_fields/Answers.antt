use Rattle.std.proofs.Common.{◌≡◌, ◌≢◌, ◌∙◌, ◌<◌, ◌^◌, Some, Ok, Err, List, ℕ, All, Result, ◌+◌, drop, sym, ap, ap₂, false, map, length, get_or, slice_get, arith}
use Rattle.std.proofs.lemmas.List.{length-map}
use Rattle.std.proofs.lemmas.List.Elements.{All-from_get_or}
use Rattle.std.proofs.lemmas.Option.{slice_get-get_or, slice_get-map}
use Rattle.std.proofs.lemmas.Result.{err_from_is_err_and}
use Rattle.std.specs.Option.{option_map}
use Rattle.mt_base.specs.declared.stop.Stop.{Stop}
use Rattle.mt_base.specs.declared.stop.Stop.TheVariants.{NoMemory, Refused}
use Rattle.mt_base.specs.Stops.{Refuses}
use Rattle.mt_values.specs.Rows.{at_field, fields_from, row_of_fields, row_of_line, value_of_field}
use Rattle.mt_values.specs.Values.{IsValue, Row}
use Rattle.mt_values.specs.declared.row_fault.RowFault.{RowFault}
use Rattle.mt_values.specs.declared.row_fault.RowFault.TheVariants as row_fault
use Rattle.mt_values.specs.declared.schema.Column.{Column}
use Rattle.mt_values.specs.declared.value.ColType.{ColType}
use Rattle.mt_values.proofs.RowValues.{AreBytes, if_ok, row_values}
use Rattle.tsv_fields.specs.Fields.{EndFields}
use Rattle.tsv_fields.proofs.LineRows.{fronted_ok, other_count, same_count, row_begin, row_miscounted, row_more, row_faulty, row_whole}
use Rattle.tsv_fields.proofs.Marking.{whole_marked}
use Rattle.tsv_rows.proofs.rows.read_fields.Goals as goal
use Rattle.tsv_rows.proofs.rows.read_fields.Goals.{After-len, After-read_value, After-drop-ends-2}

-- out of memory says nothing of the line
pub returns-in_err-mark_fields : goal.returns-in_err-mark_fields
returns-in_err-mark_fields c =
    let p = err_from_is_err_and c.from_residual.result c.from_residual.ensures.1 in
    rw (p.1, p.2) (record { row = tt; refused = tt; values = tt })

pub returns-in_err-row : goal.returns-in_err-row
returns-in_err-row c =
    let p = err_from_is_err_and c.from_residual-in_err-row.result c.from_residual-in_err-row.ensures.1 in
    rw (p.1, p.2) (record { row = tt; refused = tt; values = tt })

pub returns-in_err-push : goal.returns-in_err-push
returns-in_err-push c =
    let p = err_from_is_err_and c.from_residual-in_err-push.result c.from_residual-in_err-push.ensures.1 in
    rw (p.1, p.2) (record { row = tt; refused = tt; values = tt })

types : After-len → List ColType
types c = map (λ (column : Column). column.col_type) c.args.schema.now.columns

size : (c : After-len) → length (types c) ≡ length c.as_slice-columns.result.now
unfolding types
size c = length-map c.args.schema.now.columns (λ (column : Column). column.col_type) ∙ ap length (sym c.as_slice-columns.ensures)

ends : (c : After-len) → EndFields c.args.text.now c.mark_fields.new.ends.items
ends c = whole_marked c.args.text.now c.mark_fields.new.ends.items c.in_ok-mark_fields.field-0 c.in_ok-mark_fields.ensures.line c.in_ok-mark_fields.ensures.fields

count : (c : After-len) → c.len.result ≡ length c.mark_fields.new.ends.items
count c = let o = c.mark_fields.new.ends.ok.0 in omega arith

pub returns-in-Some : goal.returns-in-Some
unfolding types
returns-in-Some c =
    let d = (goal.at.returns-in-Some c).After-len in
    let wanted = length c.as_slice-columns.result.now in
    let told = other_count c.args.line c.len.result wanted c.in-Some.fault c.in-Some.ensures in
    let other : length c.mark_fields.new.ends.items ≢ length (types d) = λ e. told.0 (count d ∙ e ∙ size d) in
    let same : row_fault.Fields c.args.line (length c.mark_fields.new.ends.items) (length (types d)) ≡ c.in-Some.fault =
    ap₂ (row_fault.Fields c.args.line) (sym (count d)) (size d) ∙ sym told.1 in
    record {
      row = tt;
      refused = sym (row_miscounted (types d) c.args.line c.args.text.now c.mark_fields.new.ends.items (ends d) other) ∙ ap Err same;
      values = tt;
    }

pub loop-place-init : goal.loop-place-init
unfolding types
loop-place-init c =
    let d = (goal.at.loop-place-init c).After-len in
    let counted = same_count c.args.line c.len.result (length c.as_slice-columns.result.now) c.in_default.ensures in
    let same : length c.mark_fields.new.ends.items ≡ length (types d) = sym (count d) ∙ counted ∙ sym (size d) in
    rw c.in_ok-row.ensures (row_begin (types d) c.args.line c.args.text.now c.mark_fields.new.ends.items (ends d) same)

-- the type at the place of the loop
type_at : (c : After-read_value) → slice_get (map (λ (column : Column). column.col_type) c.args.schema.now.columns) c.loop-place.place ≡ Some c.index-columns-place.result.col_type
type_at c =
    let columns = c.args.schema.now.columns in
    let column = c.index-columns-place.result in
    let same : c.as_slice-columns.result.now ≡ columns = c.as_slice-columns.ensures in
    let within : c.loop-place.place < length columns = rw same at c.loop-place-test.true in
    let is : column ≡ get_or columns c.loop-place.place column = rw same at c.index-columns-place.is in
    slice_get-map (λ (d : Column). d.col_type) columns c.loop-place.place
    ∙ ap (option_map (λ (d : Column). d.col_type)) (slice_get-get_or columns c.loop-place.place column within ∙ ap Some (sym is))

-- why a field stops the reading is why the line does
field_refused : (types : List ColType) (fields : List (List ℕ)) (line i : ℕ) (t : ColType) (f : List ℕ) → slice_get types i ≡ Some t → slice_get fields i ≡ Some f
    → (row : Row) (whole : Result Row RowFault) → fronted_ok row (row_of_fields line (i + 1) (drop i types) (drop i fields)) ≡ whole
    → (why : Stop RowFault) → Refuses (at_field line (i + 1) (value_of_field t f)) why → Refuses whole why
field_refused types fields line i t f typed field row whole is NoMemory read = tt
field_refused types fields line i t f typed field row whole is (Refused fault) read = sym (row_faulty types fields line i t f typed field row fault read ∙ is)

pub returns-in_err-value : goal.returns-in_err-value
returns-in_err-value c =
    let d = (goal.at.returns-in_err-value c).After-read_value in
    let types = map (λ (column : Column). column.col_type) c.args.schema.now.columns in
    let fields = fields_from false c.args.text.now in
    let field : slice_get fields c.loop-place.place ≡ Some c.field_at-field.result.now = c.field_at-field.ensures in
    let p = err_from_is_err_and c.from_residual-in_err-value.result c.from_residual-in_err-value.ensures.1 in
    rw (p.1, p.2)
    (record {
      row = tt;
      refused =
          field_refused types fields c.args.line c.loop-place.place c.index-columns-place.result.col_type c.field_at-field.result.now (type_at d) field c.loop-place.row _ c.loop-place.invariant
          c.in_err-value.field-0.0 c.in_err-value.ensures.refused;
      values = tt;
    })

pub loop-place-preserved : goal.loop-place-preserved
loop-place-preserved c =
    let d = (goal.at.loop-place-preserved c).After-read_value in
    let types = map (λ (column : Column). column.col_type) c.args.schema.now.columns in
    let fields = fields_from false c.args.text.now in
    let field : slice_get fields c.loop-place.place ≡ Some c.field_at-field.result.now = c.field_at-field.ensures in
    rw c.in_ok-push.ensures.ok
    (row_more types fields c.args.line c.loop-place.place c.index-columns-place.result.col_type c.field_at-field.result.now (type_at d) field c.loop-place.row c.in_ok-value.value c.in_ok-value.ensures.value ∙ c.loop-place.invariant)

pub returns : goal.returns
returns c =
    let types = map (λ (column : Column). column.col_type) c.args.schema.now.columns in
    let fields = fields_from false c.args.text.now in
    let all : length types ≡ length c.as_slice-columns.result.now = length-map c.args.schema.now.columns (λ (column : Column). column.col_type) ∙ ap length (sym c.as_slice-columns.ensures) in
    let read : Ok c.loop-place.row ≡ row_of_line types c.args.line c.args.text.now = row_whole types fields c.args.line c.loop-place.place c.loop-place.row (omega arith) ∙ c.loop-place.invariant in
    let bytes : AreBytes c.args.text.now = All-from_get_or (λ (b : ℕ). b < 2 ^ 8) c.args.text.now 0 (λ i h. omega (arith, c.type_inv.text i)) in
    record {
      row = sym read;
      refused = tt;
      values = if_ok (All IsValue) (row_of_line types c.args.line c.args.text.now) c.loop-place.row (sym read) (row_values types c.args.line c.args.text.now bytes);
    }
