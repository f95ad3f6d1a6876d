-- Columns that get the values of rows.
use Rattle.std.proofs.Common.{◌≡◌, ℕ, zero, suc, ◌+◌, ◌<◌, ◌≤◌, List, [], ◌∷◌, ◌++◌, Option, Some, refl, sym, ap, ◌∙◌, length, map, take, slice_get, get_or, set, arith, add-one, zero-add}
use Rattle.std.specs.List.{cons_option, range_with_len}
use Rattle.std.specs.Option.{option_map}
use Rattle.std.proofs.lemmas.List.{length-map}
use Rattle.std.proofs.lemmas.List.FromFn.{get_or-range_with_len}
use Rattle.std.proofs.lemmas.Option.{get_or_from_slice_get, same_Some, slice_get-get_or, slice_get-map, slice_get_within}
use Rattle.mt_values.specs.declared.schema.Column.{Column}
use Rattle.mt_values.specs.declared.schema.Schema.{Schema}
use Rattle.mt_values.specs.declared.value.ColType.{ColType}
use Rattle.mt_values.specs.declared.value.ColType.TheVariants as type
use Rattle.mt_values.specs.declared.value.Value.{Value}
use Rattle.mt_values.specs.Grid.{Cells, column_of}
use Rattle.mt_values.specs.Schemas.{column_types}
use Rattle.mt_values.specs.Values.{Row, type_of, types_of}
use Rattle.part_writer.specs.Growing.{type_at, with_column, with_rows}

-- ---- types

-- the type of a table's column
pub type_is : (schema : Schema) (place : ℕ) (column : Column) → slice_get schema.columns place ≡ Some column → type_at (column_types schema) place ≡ column.col_type
type_is schema place column e =
    get_or_from_slice_get (column_types schema) place column.col_type type.UInt8
    (slice_get-map (λ (x : Column). x.col_type) schema.columns place ∙ ap (option_map (λ (x : Column). x.col_type)) e)

-- the type of a column among others
pub type_here : (types : List ColType) (places : List ℕ) (columns : List Cells) (n : ℕ) (c : Cells) → map (λ (c : Cells). c.col_type) columns ≡ map (type_at types) places → n < length places → slice_get columns n ≡ Some c
    → c.col_type ≡ type_at types (get_or places n 0)
type_here types places columns n c alike below here =
    same_Some c.col_type (type_at types (get_or places n 0)) (
    ap (option_map (λ (x : Cells). x.col_type)) (sym here)
    ∙ sym (slice_get-map (λ (x : Cells). x.col_type) columns n)
    ∙ ap (λ (ts : List ColType). slice_get ts n) alike
    ∙ slice_get-map (type_at types) places n
    ∙ ap (option_map (type_at types)) (slice_get-get_or places n 0 below))

pub alike_many : (types : List ColType) (places : List ℕ) (columns : List Cells) → map (λ (c : Cells). c.col_type) columns ≡ map (type_at types) places → length columns ≡ length places
alike_many types places columns alike = sym (length-map columns (λ (c : Cells). c.col_type)) ∙ ap length alike ∙ length-map places (type_at types)

-- ---- column by column

module _ (rows : List Row) where
  -- those not gone over are as they were
  pub rest_of : (places : List ℕ) (columns : List Cells) (n k : ℕ) → n ≤ k → slice_get (with_rows rows (take n places) columns) k ≡ slice_get columns k
  rest_of places columns zero k past = refl
  rest_of [] columns (suc n) k past = refl
  rest_of (p ∷ ps) [] (suc n) k past = refl
  rest_of (p ∷ ps) (c ∷ cs) (suc n) zero past = absurd (omega arith)
  rest_of (p ∷ ps) (c ∷ cs) (suc n) (suc k) past = rest_of ps cs n k (omega arith)

  -- one column more
  with_next : (places : List ℕ) (columns : List Cells) (n : ℕ) (c new : Cells) → n < length places → slice_get columns n ≡ Some c → new ≡ with_column (get_or places n 0) rows c
      → set (with_rows rows (take n places) columns) n new ≡ with_rows rows (take (suc n) places) columns
  with_next [] columns n c new below here is = absurd (omega arith)
  with_next (p ∷ ps) [] n c new below here is = absurd (omega (arith, slice_get_within [] n c here))
  with_next (p ∷ ps) (x ∷ xs) zero c new below here is =
      let same : c ≡ x = same_Some c x (sym here) in
      ap (λ (y : Cells). y ∷ xs) (is ∙ ap (with_column p rows) same)
  with_next (p ∷ ps) (x ∷ xs) (suc n) c new below here is = ap (λ (ys : List Cells). with_column p rows x ∷ ys) (with_next ps xs n c new (omega arith) here is)

  pub with_more : (places : List ℕ) (columns : List Cells) (n : ℕ) (c new : Cells) → n < length places → slice_get columns n ≡ Some c → new ≡ with_column (get_or places n 0) rows c
      → set (with_rows rows (take n places) columns) n new ≡ with_rows rows (take (n + 1) places) columns
  with_more places columns n c new below here is = with_next places columns n c new below here is ∙ ap (λ k. with_rows rows (take k places) columns) (sym (add-one n))

-- ---- a row

-- the type of a column is that of the row's value
pub row_type_here : (row : Row) (columns : List Cells) (n : ℕ) (c : Cells) (v : Value) → map (λ (c : Cells). c.col_type) columns ≡ types_of row → slice_get columns n ≡ Some c → slice_get row n ≡ Some v → type_of v ≡ c.col_type
row_type_here row columns n c v alike here there =
    same_Some (type_of v) c.col_type (
    ap (option_map type_of) (sym there)
    ∙ sym (slice_get-map type_of row n)
    ∙ ap (λ (ts : List ColType). slice_get ts n) (sym alike)
    ∙ slice_get-map (λ (x : Cells). x.col_type) columns n
    ∙ ap (option_map (λ (x : Cells). x.col_type)) here)

pub row_many : (row : Row) (columns : List Cells) → map (λ (c : Cells). c.col_type) columns ≡ types_of row → length columns ≡ length row
row_many row columns alike = sym (length-map columns (λ (c : Cells). c.col_type)) ∙ ap length alike ∙ length-map row type_of

-- a column gets the row's value
pub row_value : (row : Row) (n : ℕ) (v : Value) (c new : Cells) → slice_get row n ≡ Some v → new ≡ record c { values = c.values ++ v ∷ [] } → new ≡ with_column (get_or (range_with_len 0 (length row)) n 0) (row ∷ []) c
row_value row n v c new there is =
    let place : get_or (range_with_len 0 (length row)) n 0 ≡ n = get_or-range_with_len 0 (length row) n 0 (slice_get_within row n v there) ∙ zero-add n in
    is ∙ ap (λ (vs : List Value). record c { values = c.values ++ vs }) (ap (λ (o : Option Value). cons_option o []) (sym there) ∙ ap (λ k. column_of k (row ∷ [])) (sym place))
