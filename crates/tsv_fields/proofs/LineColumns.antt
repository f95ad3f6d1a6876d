-- The values of a line's fields after those of columns, column by column.
use Rattle.std.proofs.Common.{◌≡◌, ◌≢◌, ℕ, ◌+◌, ◌<◌, ◌≤◌, false, List, [], ◌∷◌, length, get_or, take, drop, set, slice_get, Some, Result, Ok, Err, refl, sym, ap, ◌∙◌, arith, append-nil}
use Rattle.std.proofs.lemmas.List.{drop_all, take_all, drop_more, drop-set-lt, take_more_set, length-map}
use Rattle.mt_base.specs.declared.stop.Stop.{Stop}
use Rattle.mt_base.specs.declared.stop.Stop.TheVariants.{NoMemory, Refused}
use Rattle.mt_base.specs.Stops.{Refuses}
use Rattle.mt_values.specs.declared.cell.Cell.{Cell}
use Rattle.mt_values.specs.declared.row_fault.FieldFault.{FieldFault}
use Rattle.mt_values.specs.declared.row_fault.RowFault.{RowFault}
use Rattle.mt_values.specs.declared.row_fault.RowFault.TheVariants as row_fault
use Rattle.mt_values.specs.declared.value.ColType.{ColType}
use Rattle.mt_values.specs.declared.value.Value.{Value}
use Rattle.mt_values.specs.Cells.{value_of}
use Rattle.mt_values.specs.Grid.{Cells}
use Rattle.mt_values.specs.Rows.{at_field, fault_of_field, fields_from, row_of_fields, row_of_line, value_of_field, value_onto}
use Rattle.mt_values.specs.Values.{Row, type_of}
use Rattle.mt_values.proofs.RowValues.{if_ok, value_typed}
use Rattle.tsv_fields.specs.Columns.{types_in, with_last, with_value, with_field, with_row}
use Rattle.tsv_fields.specs.Fields.{EndFields}
use Rattle.tsv_fields.proofs.LineRows.{drop_at_place, fronted_ok, fronted_ok_none, fronted_ok_more, row_counted, row_miscounted}

-- a value that was read is of the column's type
pub typed_cell : (t : ColType) (field : List ℕ) (cell : Cell) → value_of_field t field ≡ Ok (value_of cell) → type_of (value_of cell) ≡ t
typed_cell t field cell is = if_ok (λ v. type_of v ≡ t) (value_of_field t field) (value_of cell) is (value_typed t field)

-- why a field stops the reading is why its column does
pub field_refused : (column : Cells) (read : Result Value FieldFault) (why : Stop FieldFault) → Refuses read why → Refuses (with_value column read) why
field_refused column read (Refused fault) is = ap (with_value column) is
field_refused column read NoMemory is = tt

-- what a line gives to columns of which those from a place on have not got a value
abbrev pub columns_beyond : ℕ → ℕ → List Cells → List (List ℕ) → Result (List Cells) RowFault
columns_beyond line i columns fields = fronted_ok (take i columns) (with_row (drop i columns) (row_of_fields line (i + 1) (types_in (drop i columns)) (drop i fields)))

with_row_front : (c : Cells) (cs : List Cells) (v : Value) (row : Result Row RowFault) → with_row (c ∷ cs) (value_onto (Ok v) row) ≡ fronted_ok (with_last c v ∷ []) (with_row cs row)
with_row_front c cs v (Ok vs) = refl
with_row_front c cs v (Err fault) = refl

-- no column has got a value yet
pub columns_begin : (line : ℕ) (columns : List Cells) (text ends : List ℕ) → EndFields text ends → length ends ≡ length columns →
    columns_beyond line 0 columns (fields_from false text) ≡ with_row columns (row_of_line (types_in columns) line text)
columns_begin line columns text ends fields same =
    let count : length ends ≡ length (types_in columns) = omega (arith, length-map columns (λ (c : Cells). c.col_type)) in
    let one : 0 + 1 ≡ 1 = omega arith in
    fronted_ok_none (with_row columns (row_of_fields line (0 + 1) (types_in columns) (fields_from false text)))
    ∙ ap (λ k. with_row columns (row_of_fields line k (types_in columns) (fields_from false text))) one
    ∙ ap (with_row columns) (sym (row_counted (types_in columns) line text ends fields count))

-- the line has not a field for each column
pub columns_miscounted : (line : ℕ) (columns : List Cells) (text ends : List ℕ) → EndFields text ends → length ends ≢ length columns →
    Err (row_fault.Fields line (length ends) (length columns)) ≡ with_row columns (row_of_line (types_in columns) line text)
columns_miscounted line columns text ends fields other =
    let size : length (types_in columns) ≡ length columns = length-map columns (λ (c : Cells). c.col_type) in
    let count : length ends ≢ length (types_in columns) = λ e. other (e ∙ size) in
    ap (λ n. Err (row_fault.Fields line (length ends) n)) (sym size) ∙ ap (with_row columns) (row_miscounted (types_in columns) line text ends fields count)

-- Columns up to a place have their values.
module _ (columns : List Cells) (fields : List (List ℕ)) (line i : ℕ) (c : Cells) (f : List ℕ) (within : i < length columns) (is : c ≡ get_or columns i c) (field_is : slice_get fields i ≡ Some f) where
  rest : Result Row RowFault
  rest = row_of_fields line (i + 1 + 1) (types_in (drop (i + 1) columns)) (drop (i + 1) fields)

  here : drop i columns ≡ c ∷ drop (i + 1) columns
  here = drop_more columns i c within ∙ ap (λ d. d ∷ drop (i + 1) columns) (sym is)

  beyond_is : columns_beyond line i columns fields
      ≡ fronted_ok (take i columns) (with_row (c ∷ drop (i + 1) columns) (value_onto (at_field line (i + 1) (value_of_field c.col_type f)) (row_of_fields line (i + 1 + 1) (types_in (drop (i + 1) columns)) (drop (i + 1) fields))))
  beyond_is = rw (here, drop_at_place fields i f field_is) refl

  more_by : (new : Cells) (value : Result Value FieldFault) → value_of_field c.col_type f ≡ value → Ok new ≡ with_value c value → columns_beyond line (i + 1) (set columns i new) fields ≡ columns_beyond line i columns fields
  unfolding rest
  more_by new (Ok v) value_is read =
      let same : new ≡ with_last c v = cc in
      rw (take_more_set columns i new within, drop-set-lt (i + 1) columns i new (omega arith))
      (fronted_ok_more (take i columns) new (with_row (drop (i + 1) columns) rest)
      ∙ ap (λ d. fronted_ok (take i columns) (fronted_ok (d ∷ []) (with_row (drop (i + 1) columns) rest))) same
      ∙ sym
      (beyond_is ∙ ap (λ r. fronted_ok (take i columns) (with_row (c ∷ drop (i + 1) columns) (value_onto (at_field line (i + 1) r) rest))) value_is
      ∙ ap (fronted_ok (take i columns)) (with_row_front c (drop (i + 1) columns) v rest)))
  more_by new (Err fault) value_is read = cc

  -- the column at the place has got the value of its field
  pub columns_more : (new : Cells) → Ok new ≡ with_field c f → columns_beyond line (i + 1) (set columns i new) fields ≡ columns_beyond line i columns fields
  columns_more new read = more_by new (value_of_field c.col_type f) refl read

  refused_by : (fault : FieldFault) (value : Result Value FieldFault) → value_of_field c.col_type f ≡ value → Err fault ≡ with_value c value → Err (fault_of_field line (i + 1) fault) ≡ columns_beyond line i columns fields
  unfolding rest
  refused_by fault (Ok v) value_is read = cc
  refused_by fault (Err other) value_is read =
      let same : fault ≡ other = cc in
      ap (λ e. Err (fault_of_field line (i + 1) e)) same
      ∙ sym (beyond_is ∙ ap (λ r. fronted_ok (take i columns) (with_row (c ∷ drop (i + 1) columns) (value_onto (at_field line (i + 1) r) rest))) value_is)

  -- its field has a fault
  pub columns_refused : (fault : FieldFault) → Err fault ≡ with_field c f → Err (fault_of_field line (i + 1) fault) ≡ columns_beyond line i columns fields
  columns_refused fault read = refused_by fault (value_of_field c.col_type f) refl read

-- each column has got its value
pub columns_whole : (columns : List Cells) (fields : List (List ℕ)) (line i : ℕ) → length columns ≤ i → Ok columns ≡ columns_beyond line i columns fields
columns_whole columns fields line i past = rw (drop_all i columns past, take_all i columns past, append-nil) refl
