-- What is kept of rows while they are written.
use Rattle.std.proofs.Common.{◌≡◌, ℕ, zero, suc, ◌+◌, ◌<◌, ◌≤◌, List, [], ◌∷◌, ◌++◌, refl, sym, ap, ap₂, ◌∙◌, subst, length, map, take, drop, slice_get, get_or, All, arith, zero-add, option_and_then}
use Rattle.std.specs.List.{cons_option, range_with_len}
use Rattle.std.proofs.lemmas.List.{ext_get_or, get_or-map, length-map, take_at}
use Rattle.std.proofs.lemmas.List.Elements.{All-cons, All-head, All-nil, All-tail}
use Rattle.std.proofs.lemmas.List.FromFn.{fill_by_all, get_or-map-range_with_len, length-map-range_with_len}
use Rattle.std.proofs.lemmas.Option.{get_or_from_slice_get, slice_get-get_or, slice_get_within}
use Rattle.mt_values.specs.declared.schema.Column.{Column}
use Rattle.mt_values.specs.declared.schema.Schema.{Schema}
use Rattle.mt_values.specs.declared.value.ColType.{ColType}
use Rattle.mt_values.specs.declared.value.ColType.TheVariants as type
use Rattle.mt_values.specs.Grid.{AreRowsOf, Cells, column_of, grid_of, picked, row_at, rows_of}
use Rattle.mt_values.specs.Order.{key_of}
use Rattle.mt_values.specs.Schemas.{column_types}
use Rattle.mt_values.specs.Values.{FitsType, Row, types_of}
use Rattle.mt_values.proofs.Grids.{items_at_all, length-column_of, lengths_typed, slice_get-column_of}
use Rattle.mt_values.proofs.OrderBy.{all_reach}
use Rattle.part_writer.specs.declared.column_out.ColumnOut.{ColumnOut}
use Rattle.part_writer.specs.declared.grown.Grown.{Grown}
use Rattle.part_writer.specs.Growing.{HasGrown, HasParts, KeepsRows, columns_of, type_at}
use Rattle.part_writer.specs.PartFiles.{indexes_of}
use Rattle.part_writer.proofs.Granules.{columns_types}

-- what a vector has once another list of its length is written over it
pub refilled : {X : Type 0} (olds news : List X) (n : ℕ) → length news ≡ n → take n (news ++ drop (length news) olds) ≡ news
refilled olds news n long = take_at news (drop (length news) olds) n long

-- ---- all columns of a table

pub types_all : (types : List ColType) → map (type_at types) (range_with_len 0 (length types)) ≡ types
types_all types =
    let n = length types in
    let long = length-map-range_with_len (type_at types) 0 n in
    ext_get_or type.UInt8 (map (type_at types) (range_with_len 0 n)) types long (λ i below. get_or-map-range_with_len (type_at types) 0 n i i type.UInt8 (omega (arith, below, long)) (zero-add i))

pub width_is : (schema : Schema) → length (column_types schema) ≡ length schema.columns
width_is schema = length-map schema.columns (λ (c : Column). c.col_type)

-- the columns of a table's rows have its types
pub table_types : (schema : Schema) (rows : List Row) → map (λ (c : Cells). c.col_type) (columns_of (column_types schema) (range_with_len 0 (length schema.columns)) rows) ≡ column_types schema
table_types schema rows =
    columns_types (column_types schema) (range_with_len 0 (length schema.columns)) rows
    ∙ ap (λ n. map (type_at (column_types schema)) (range_with_len 0 n)) (sym (width_is schema)) ∙ types_all (column_types schema)

-- ---- rows of columns of rows

module _ (types : List ColType) (rows : List Row) (typed : AreRowsOf types rows) where
  -- each column has a value of each row
  pub even_columns : (places : List ℕ) → All (λ p. p < length types) places → All (λ (c : Cells). length c.values ≡ length rows) (columns_of types places rows)
  even_columns [] within = All-nil (λ (c : Cells). length c.values ≡ length rows)
  even_columns (p ∷ ps) within =
      All-cons (λ (c : Cells). length c.values ≡ length rows) (record { col_type = type_at types p; values = column_of p rows }) (columns_of types ps rows)
      (length-column_of p rows (all_reach types rows p typed (All-head (λ p. p < length types) p ps within))) (even_columns ps (All-tail (λ p. p < length types) p ps within))

  row_at_key : (places : List ℕ) (k : ℕ) → All (λ p. p < length types) places → k < length rows → row_at (columns_of types places rows) k ≡ key_of places (get_or rows k [])
  row_at_key [] k within below = refl
  row_at_key (p ∷ ps) k within below =
      ap₂ cons_option
      (slice_get-column_of p rows k (all_reach types rows p typed (All-head (λ p. p < length types) p ps within)) ∙ ap (option_and_then (λ (r : Row). slice_get r p)) (slice_get-get_or rows k [] below))
      (row_at_key ps k (All-tail (λ p. p < length types) p ps within) below)

  -- they are the keys of the rows
  pub keys_rows : (places : List ℕ) → All (λ p. p < length types) places → rows_of (columns_of types places rows) (length rows) ≡ map (key_of places) rows
  keys_rows places within =
      sym (fill_by_all (row_at (columns_of types places rows)) (map (key_of places) rows) (length rows) [] (length-map rows (key_of places))
      (λ k below. get_or-map (key_of places) rows k [] [] below ∙ sym (row_at_key places k within below)))

-- the key of all columns is the row
whole_rows : (n : ℕ) (rows : List Row) → All (λ row. length row ≡ n) rows → map (key_of (range_with_len 0 n)) rows ≡ rows
whole_rows n [] long = refl
whole_rows n (row ∷ rows) long =
    ap₂ (λ (r : Row) (rs : List Row). r ∷ rs)
    (ap (λ m. key_of (range_with_len 0 m) row) (sym (All-head (λ (row : Row). length row ≡ n) row rows long)) ∙ items_at_all row)
    (whole_rows n rows (All-tail (λ (row : Row). length row ≡ n) row rows long))

pub range_within : (n a m : ℕ) → a + m ≤ n → All (λ p. p < n) (range_with_len a m)
range_within n a zero fits = All-nil (λ p. p < n)
range_within n a (suc m) fits = All-cons (λ p. p < n) a (range_with_len (a + 1) m) (omega arith) (range_within n (a + 1) m (omega arith))

pub all_within : (schema : Schema) → All (λ p. p < length (column_types schema)) (range_with_len 0 (length schema.columns))
all_within schema = range_within (length (column_types schema)) 0 (length schema.columns) (omega (arith, width_is schema))

pub own_within : (schema : Schema) → All (λ p. p < length schema.columns) (range_with_len 0 (length schema.columns))
own_within schema = range_within (length schema.columns) 0 (length schema.columns) (omega arith)

-- the columns of a table's rows are a block of these
pub block_of : (schema : Schema) (rows : List Row) → AreRowsOf (column_types schema) rows → grid_of (columns_of (column_types schema) (range_with_len 0 (length schema.columns)) rows) (length rows) ≡ record { types = column_types schema; rows = rows }
block_of schema rows typed =
    let long = lengths_typed (column_types schema) rows typed in
    ap₂ (λ (ts : List ColType) (rs : List Row). record { types = ts; rows = rs }) (table_types schema rows)
    (keys_rows (column_types schema) rows typed (range_with_len 0 (length schema.columns)) (all_within schema)
    ∙ whole_rows (length schema.columns) rows (subst (λ n. All (λ (row : Row). length row ≡ n) rows) (width_is schema) long))

-- ---- the first of picked rows

pub first_picked : (rows : List Row) (order : List ℕ) → All (λ p. p < length rows) order → picked rows (take 1 order) ≡ take 1 (picked rows order)
first_picked rows [] within = refl
first_picked rows (o ∷ os) within =
    let here = slice_get-get_or rows o [] (All-head (λ p. p < length rows) o os within) in
    ap (λ r. cons_option r []) here ∙ ap (λ r. take 1 (cons_option r (picked rows os))) (sym here)

-- ---- a part without rows

abbrev pub IsNew : ColumnOut → Type 0
IsNew c = (granularity : ℕ) → 0 < granularity → HasGrown granularity [] c

pub kept_none : (grown : Grown) (schema : Schema) → grown.schema ≡ schema → HasParts schema → grown.rows ≡ 0 → length grown.columns.items ≡ length schema.columns
    → All IsNew grown.columns.items → grown.keys.items ≡ columns_of (column_types schema) schema.primary [] → grown.indexes.items ≡ indexes_of schema []
    → grown.pending.items ≡ columns_of (column_types schema) (range_with_len 0 (length schema.columns)) [] → grown.count ≡ 0 → KeepsRows grown [] [] []
kept_none grown schema same =
    subst
    (λ (s : Schema). HasParts s → grown.rows ≡ 0 → length grown.columns.items ≡ length s.columns
    → All IsNew grown.columns.items → grown.keys.items ≡ columns_of (column_types s) s.primary [] → grown.indexes.items ≡ indexes_of s []
    → grown.pending.items ≡ columns_of (column_types s) (range_with_len 0 (length s.columns)) [] → grown.count ≡ 0 → KeepsRows grown [] [] [])
    same (none grown)
  where
    none : (grown : Grown) → HasParts grown.schema → grown.rows ≡ 0 → length grown.columns.items ≡ length grown.schema.columns
        → All IsNew grown.columns.items → grown.keys.items ≡ columns_of (column_types grown.schema) grown.schema.primary []
        → grown.indexes.items ≡ indexes_of grown.schema [] → grown.pending.items ≡ columns_of (column_types grown.schema) (range_with_len 0 (length grown.schema.columns)) [] → grown.count ≡ 0 → KeepsRows grown [] [] []
    none grown has rows many new keys indexes pending count = record {
      table = has;
      typed = All-nil (λ (row : Row). types_of row ≡ column_types grown.schema);
      typed_pending = All-nil (λ (row : Row). types_of row ≡ column_types grown.schema);
      rows = rows;
      columns = record { count_is = many; each = λ n column here. (subst IsNew (get_or_from_slice_get grown.columns.items n column column here) (new n column (slice_get_within grown.columns.items n column here))) grown.schema.granularity has.marks.granularity };
      keys = keys;
      indexes = indexes;
      pending_are = pending;
      count = count;
      fit = All-nil (λ (row : Row). All FitsType row);
    }
