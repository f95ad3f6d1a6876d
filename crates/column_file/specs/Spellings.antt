-- Bytes that spell values of a column (docs/formats.md, "Column files").
use Rattle.std.specs.Prelude.{◌≡◌, ℕ, List, ◌++◌, length, All}
use Rattle.mt_values.specs.declared.value.ColType.{ColType}
use Rattle.mt_values.specs.declared.value.ColType.TheVariants as type
use Rattle.mt_values.specs.declared.value.Value.{Value}
use Rattle.mt_values.specs.ColumnBytes.{column_bytes}
use Rattle.mt_values.specs.Grid.{Cells}
use Rattle.mt_values.specs.Values.{FitsType, type_of}

-- a value of the type, each number within the type's range
abbrev pub IsOfType : ColType → Value → Type 0
IsOfType t v = (type_of v ≡ t) × FitsType v

-- the bytes are those of these values of the type, so many of them
pub record IsSpelling (t : ColType) (count : ℕ) (bytes : List ℕ) (values : List Value) : Type 0 where
  pub typed : All (IsOfType t) values
  pub count_is : length values ≡ count
  pub spelled : bytes ≡ column_bytes values

-- the bytes are those of some values of the type, so many of them
pub record Spells (t : ColType) (count : ℕ) (bytes : List ℕ) : Type 0 where
  pub values : List Value
  pub spelling : IsSpelling t count bytes values

-- the bytes are those of these values of the type, and then the rest
pub record IsFront (t : ColType) (bytes : List ℕ) (values : List Value) (rest : List ℕ) : Type 0 where
  pub typed : All (IsOfType t) values
  pub parted : bytes ≡ column_bytes values ++ rest

-- the fewest bytes that a value of the type takes
abbrev pub fewest_bytes : ColType → ℕ
fewest_bytes type.UInt8 = 1
fewest_bytes type.UInt16 = 2
fewest_bytes type.UInt32 = 4
fewest_bytes type.UInt64 = 8
fewest_bytes type.Int8 = 1
fewest_bytes type.Int16 = 2
fewest_bytes type.Int32 = 4
fewest_bytes type.Int64 = 8
fewest_bytes type.Text = 1

-- a column with these values more at its end
abbrev pub with_values : Cells → List Value → Cells
with_values column values = record column { values = column.values ++ values }

-- a column got the values that the bytes spell, so many of them
pub record GainsAll (count : ℕ) (bytes : List ℕ) (old new : Cells) : Type 0 where
  pub values : List Value
  pub spelling : IsSpelling old.col_type count bytes values
  pub gained : new ≡ with_values old values

-- a column got values that the bytes begin with
pub record GainsFront (bytes : List ℕ) (old new : Cells) : Type 0 where
  pub values : List Value
  pub rest : List ℕ
  pub front : IsFront old.col_type bytes values rest
  pub gained : new ≡ with_values old values
