-- The rows of data, one line at a time.
use Rattle.std.proofs.Common.{◌≡◌, ℕ, ◌+◌, ◌<◌, ◌≤◌, Bool, true, false, cond, List, [], ◌∷◌, length, map, Option, Some, None, Result, Ok, Err, nat_le, refl, sym, ap, subst, ◌∙◌, arith, append-nil}
use Rattle.std.proofs.lemmas.Bool.Decides.{nat_tests}
use Rattle.std.proofs.lemmas.List.{length-map}
use Rattle.std.proofs.lemmas.List.Elements.{All-map}
use Rattle.mt_values.specs.declared.row_fault.DataFault.{DataFault}
use Rattle.mt_values.specs.declared.row_fault.DataFault.TheVariants as data_fault
use Rattle.mt_values.specs.declared.row_fault.RowFault.{RowFault}
use Rattle.mt_values.specs.declared.row_fault.RowFault.TheVariants as row_fault
use Rattle.mt_values.specs.declared.value.ColType.{ColType}
use Rattle.mt_values.specs.Engines.{keeps_sign}
use Rattle.mt_values.specs.Grid.{Cells, row_at, rows_of}
use Rattle.mt_values.specs.Script.{line_from}
use Rattle.mt_values.specs.Rows.{inserted_rows, row_limit, row_of_line, row_onto, rows_behind, signed_row_of_line, with_sign}
use Rattle.mt_values.specs.Values.{Row, type_of, types_of}
use Rattle.mt_values.proofs.Grids.{AreEven}
use Rattle.mt_values.proofs.RowBounds.{rows_after, rows_after_step}
use Rattle.mt_values.proofs.RowValues.{if_ok, row_typed}
use Rattle.tsv_fields.specs.Columns.{types_in, with_row, with_row_last}
use Rattle.tsv_fields.proofs.LineRows.{fronted_ok, fronted_ok_none, fronted_ok_more}
use Rattle.tsv_rows.proofs.PushedRows.{types_in-with_row_last, AreEven-with_row_last, row_at_last, rows_of-with_row_last}
use Rattle.tsv_rows.proofs.SignedRows.{signed_row, unsigned_row}

-- The data of an INSERT: the types of its table's columns, the place of the sign where there is one, the lines, and whether the line came which ends data.
pub record Data : Type 0 where
  pub types : List ColType
  pub sign : Option ℕ
  pub lines : List ℕ
  pub ended : Bool

-- the rows that it adds
abbrev pub rows_in : Data → Result (List Row) DataFault
rows_in d = inserted_rows d.types d.sign d.lines d.ended

-- the rows of a text of it after so many others
abbrev pub rows_on : Data → ℕ → List ℕ → Result (List Row) DataFault
rows_on d = rows_after d.types d.sign d.ended

-- Columns keep the rows of the lines before some text.
pub record KeepLines (d : Data) (text : List ℕ) (columns : List Cells) (count : ℕ) : Type 0 where
  pub even : AreEven columns count
  pub typed : types_in columns ≡ d.types
  pub rows : fronted_ok (rows_of columns count) (rows_on d count text) ≡ rows_in d
  pub few : count ≤ row_limit

-- A line after so many others is a row, whatever its sign, and columns have its values after those of these columns.
pub record HaveRow (d : Data) (columns : List Cells) (count : ℕ) (line : List ℕ) (new : List Cells) : Type 0 where
  pub row : Row
  pub is : row_of_line d.types (count + 1) line ≡ Ok row
  pub new_is : new ≡ with_row_last columns row
  pub size : length row ≡ length columns

types_of_empty : (types : List ColType) → types_in (map (λ t. record { col_type = t; values = [] }) types) ≡ types
types_of_empty [] = refl
types_of_empty (t ∷ ts) = ap (λ (rest : List ColType). t ∷ rest) (types_of_empty ts)

-- columns without values keep no line
pub no_lines : (d : Data) → KeepLines d d.lines (map (λ t. record { col_type = t; values = [] }) d.types) 0
no_lines d =
    record {
      even = All-map (λ (c : Cells). length c.values ≡ 0) (λ t. record { col_type = t; values = [] }) d.types (λ k c q. refl);
      typed = types_of_empty d.types;
      rows = fronted_ok_none (rows_on d 0 d.lines);
      few = omega arith;
    }

row_front : (row : Row) (rows : Result (List Row) DataFault) → row_onto (Ok row) rows ≡ fronted_ok (row ∷ []) rows
row_front row (Ok rows) = refl
row_front row (Err fault) = refl

module _ (d : Data) (text : List ℕ) (columns : List Cells) (count : ℕ) (kept : KeepLines d text columns count) where
  last_by : (over : Bool) → d.ended ≡ over → None ≡ line_from false text →
      rows_in d ≡ fronted_ok (rows_of columns count) (cond over (Ok []) (Err (data_fault.Unended count)))
  last_by over is last =
      sym kept.rows
      ∙ ap (fronted_ok (rows_of columns count))
      (rows_after_step d.types d.sign d.ended count text ∙ ap (rows_behind (rows_on d) d.types d.sign d.ended count) (sym last) ∙ ap (λ b. cond b (Ok []) (Err (data_fault.Unended count))) is)

  -- no line is left
  pub lines_end : d.ended ≡ true → None ≡ line_from false text → rows_in d ≡ Ok (rows_of columns count)
  lines_end is last = last_by true is last ∙ ap Ok (append-nil (rows_of columns count))

  -- and the line did not come that ends data
  pub lines_unended : d.ended ≡ false → None ≡ line_from false text → rows_in d ≡ Err (data_fault.Unended count)
  lines_unended is last = last_by false is last

-- Another line of data.
module _ (d : Data) (text : List ℕ) (columns : List Cells) (count : ℕ) (kept : KeepLines d text columns count) (line rest : List ℕ) (found : Some (line, rest) ≡ line_from false text) where
  step_by : (full : Bool) → nat_le row_limit count ≡ full →
      rows_in d ≡ fronted_ok (rows_of columns count) (cond full (Err data_fault.TooMany) (row_onto (signed_row_of_line d.types d.sign (count + 1) line) (rows_on d (count + 1) rest)))
  step_by full is =
      sym kept.rows
      ∙ ap (fronted_ok (rows_of columns count))
      (rows_after_step d.types d.sign d.ended count text
      ∙ ap (rows_behind (rows_on d) d.types d.sign d.ended count) (sym found)
      ∙ ap (λ b. cond b (Err data_fault.TooMany) (row_onto (signed_row_of_line d.types d.sign (count + 1) line) (rows_on d (count + 1) rest))) is)

  -- it is one too many
  pub lines_many : row_limit ≤ count → rows_in d ≡ Err data_fault.TooMany
  lines_many enough = step_by true (grind (arith, nat_tests))

  few_step : count < row_limit → (row : Result Row RowFault) → signed_row_of_line d.types d.sign (count + 1) line ≡ row → rows_in d ≡ fronted_ok (rows_of columns count) (row_onto row (rows_on d (count + 1) rest))
  few_step few row is = let room : nat_le row_limit count ≡ false = grind (arith, nat_tests) in step_by false room ∙ ap (λ r. fronted_ok (rows_of columns count) (row_onto r (rows_on d (count + 1) rest))) is

  refused_by : (fault : RowFault) (row : Result Row RowFault) → row_of_line d.types (count + 1) line ≡ row → Err fault ≡ with_row columns row → row_of_line d.types (count + 1) line ≡ Err fault
  refused_by fault (Ok row) is read = cc
  refused_by fault (Err other) is read = let same : fault ≡ other = cc in rw same is

  -- it is no row, whatever its sign
  pub lines_refused : count < row_limit → (fault : RowFault) → Err fault ≡ with_row columns (row_of_line (types_in columns) (count + 1) line) → rows_in d ≡ Err (data_fault.Row fault)
  lines_refused few fault read =
      let told = subst (λ ts. Err fault ≡ with_row columns (row_of_line ts (count + 1) line)) kept.typed read in
      let is = refused_by fault (row_of_line d.types (count + 1) line) refl told in
      few_step few (Err fault) (ap (with_sign d.sign (count + 1)) is)

  row_read_by : (new : List Cells) (row : Result Row RowFault) → row_of_line d.types (count + 1) line ≡ row → Ok new ≡ with_row columns row → HaveRow d columns count line new
  row_read_by new (Err fault) is read = cc
  row_read_by new (Ok row) is read =
      let new_is : new ≡ with_row_last columns row = cc in
      let typed : types_of row ≡ d.types = if_ok (λ r. types_of r ≡ d.types) (row_of_line d.types (count + 1) line) row is (row_typed d.types (count + 1) line) in
      record {
        row = row;
        is = is;
        new_is = new_is;
        size = sym (length-map row type_of) ∙ ap length typed ∙ ap length (sym kept.typed) ∙ length-map columns (λ (c : Cells). c.col_type);
      }

  -- its values come after those of the columns
  pub row_read : (new : List Cells) → Ok new ≡ with_row columns (row_of_line (types_in columns) (count + 1) line) → HaveRow d columns count line new
  row_read new read = row_read_by new (row_of_line d.types (count + 1) line) refl (subst (λ ts. Ok new ≡ with_row columns (row_of_line ts (count + 1) line)) kept.typed read)

  module _ (new : List Cells) (have : HaveRow d columns count line new) where
    -- each column has one value more
    pub row_even : AreEven new (count + 1)
    row_even = subst (λ (cs : List Cells). AreEven cs (count + 1)) (sym have.new_is) (AreEven-with_row_last count columns have.row kept.even have.size)

    -- the row is the last one
    row_last : keeps_sign d.sign (row_at new count) ≡ keeps_sign d.sign have.row
    row_last = ap (λ (cs : List Cells). keeps_sign d.sign (row_at cs count)) have.new_is ∙ ap (keeps_sign d.sign) (row_at_last count columns have.row kept.even have.size)

    -- its sign is neither 1 nor -1
    pub lines_unsigned : count < row_limit → keeps_sign d.sign (row_at new count) ≡ false → rows_in d ≡ Err (data_fault.Row (row_fault.Sign (count + 1)))
    lines_unsigned few other = few_step few (Err (row_fault.Sign (count + 1))) (unsigned_row d.types d.sign (count + 1) line have.row have.is (sym row_last ∙ other))

    -- its sign is 1 or -1, where there is one
    pub lines_more : count < row_limit → keeps_sign d.sign (row_at new count) ≡ true → KeepLines d rest new (count + 1)
    lines_more few keeps =
        let after = rows_on d (count + 1) rest in
        record {
          even = row_even;
          typed = ap types_in have.new_is ∙ types_in-with_row_last columns have.row have.size ∙ kept.typed;
          rows =
              ap (λ (cs : List Cells). fronted_ok (rows_of cs (count + 1)) after) have.new_is
              ∙ ap (λ rs. fronted_ok rs after) (rows_of-with_row_last count columns have.row kept.even have.size)
              ∙ fronted_ok_more (rows_of columns count) have.row after
              ∙ ap (fronted_ok (rows_of columns count)) (sym (row_front have.row after))
              ∙ sym (few_step few (Ok have.row) (signed_row d.types d.sign (count + 1) line have.row have.is (sym row_last ∙ keeps)));
          few = omega arith;
        }
