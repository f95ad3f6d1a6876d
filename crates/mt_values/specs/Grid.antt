-- Blocks of rows: what columns of one length stand for (docs/architecture.md, "Blocks").
use Rattle.std.specs.Prelude.{◌≡◌, ℕ, ◌<◌, ◌^◌, List, length, map, slice_get, All, Some}
use Rattle.std.specs.List.{filter_map, range_with_len}
use Rattle.std.specs.List.Sorted.{IsPermutation, IsSorted, IsStable}
use Rattle.mt_values.specs.declared.value.ColType.{ColType}
use Rattle.mt_values.specs.declared.value.Value.{Value}
use Rattle.mt_values.specs.Values.{Row, type_of, types_of}
use Rattle.mt_values.specs.Order.{key_cmp}

-- the values of one column, all of its type
pub record Cells : Type 0 where
  pub col_type : ColType
  pub values : List Value

-- the rows of a block, and the types of its columns
pub record Grid : Type 0 where
  pub types : List ColType
  pub rows : List Row

-- the i-th row has the i-th value of each column
abbrev pub row_at : List Cells → ℕ → Row
row_at columns i = filter_map (λ (c : Cells). slice_get c.values i) columns

-- the first n rows of columns
abbrev pub rows_of : List Cells → ℕ → List Row
rows_of columns n = map (row_at columns) (range_with_len 0 n)

-- n rows of columns, from a place on
abbrev pub rows_within : List Cells → ℕ → ℕ → List Row
rows_within columns from n = map (row_at columns) (range_with_len from n)

-- columns as a block of n rows
abbrev pub grid_of : List Cells → ℕ → Grid
grid_of columns n = record { types = map (λ (c : Cells). c.col_type) columns; rows = rows_of columns n }

-- the i-th value of each row
abbrev pub column_of : ℕ → List Row → List Value
column_of i rows = filter_map (λ row. slice_get row i) rows

-- every value of the column is of its type
abbrev pub AreOfType : Cells → Type 0
AreOfType c = All (λ v. type_of v ≡ c.col_type) c.values

-- the columns have this many values each, all of their types, and a u32 counts the rows
pub record AreAligned (columns : List Cells) (rows : ℕ) : Type 0 where
  pub even : All (λ (c : Cells). length c.values ≡ rows) columns
  pub typed : All AreOfType columns
  pub few : rows < 2 ^ 32

-- every row has a value of this type at the place
abbrev pub HaveTypeAt : ℕ → ColType → List Row → Type 0
HaveTypeAt place t rows = All (λ row. slice_get (types_of row) place ≡ Some t) rows

-- every row has a value of each column's type, in order
abbrev pub AreRowsOf : List ColType → List Row → Type 0
AreRowsOf types rows = All (λ row. types_of row ≡ types) rows

-- the rows at these places, in this order
abbrev pub picked : List Row → List ℕ → List Row
picked rows order = filter_map (slice_get rows) order

-- each row's place once, so that the rows rise by the values at these columns, and rows that are alike in them keep their order
pub record IsOrderBy (columns : List ℕ) (rows : List Row) (order : List ℕ) : Type 0 where
  pub places : IsPermutation (range_with_len 0 (length rows)) order
  pub rising : IsSorted (key_cmp columns) (picked rows order)
  pub stable : IsStable (key_cmp columns) rows (picked rows order)
