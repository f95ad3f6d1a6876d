-- Values that are read by a mask, and those that are passed over (docs/formats.md, "Column files").
use Rattle.std.specs.Prelude.{◌≡◌, ℕ, ◌+◌, ◌<◌, Bool, List, drop, length}
use Rattle.mt_values.specs.declared.value.ColType.{ColType}
use Rattle.mt_values.specs.declared.value.Value.{Value}
use Rattle.mt_values.specs.ColumnBytes.{column_bytes}
use Rattle.mt_values.specs.Grid.{Cells}
use Rattle.mt_values.specs.Lists.{where_true}
use Rattle.byte_numbers.specs.declared.faults.FormatFault.{FormatFault}
use Rattle.byte_numbers.specs.declared.faults.FormatFault.TheVariants.{NoMemory, Malformed}
use Rattle.column_file.specs.Faults.{NoneBegins}
use Rattle.column_file.specs.Spellings.{IsFront, IsSpelling, with_values}

-- a column got those of the values that the bytes spell, one for each place of the mask, at which the mask is true
pub record GainsWhere (mask : List Bool) (bytes : List ℕ) (old new : Cells) : Type 0 where
  pub values : List Value
  pub spelling : IsSpelling old.col_type (length mask) bytes values
  pub gained : new ≡ with_values old (where_true mask values)

-- a column got those of values that the bytes begin with at which the mask is true
pub record GainsFrontWhere (mask : List Bool) (bytes : List ℕ) (old new : Cells) : Type 0 where
  pub values : List Value
  pub rest : List ℕ
  pub front : IsFront old.col_type bytes values rest
  pub gained : new ≡ with_values old (where_true mask values)

-- from one place of the bytes to another stand the bytes of so many values of the type
pub record AreBetween (t : ColType) (count : ℕ) (bytes : List ℕ) (from to : ℕ) : Type 0 where
  pub values : List Value
  pub count_is : length values ≡ count
  pub front : IsFront t (drop from bytes) values (drop to bytes)
  pub to_is : to ≡ from + length (column_bytes values)

-- from one place to another stand the bytes of fewer values, and none begins there
pub record AreFewer (t : ColType) (count : ℕ) (bytes : List ℕ) (from to : ℕ) : Type 0 where
  pub passed : ℕ
  pub few : passed < count
  pub before : AreBetween t passed bytes from to
  pub none : NoneBegins t (drop to bytes)

-- what an error says of so many values that were to be passed over from a place: where no further one begins
abbrev pub ExplainsPass : ColType → ℕ → List ℕ → ℕ → FormatFault → Type 0
ExplainsPass t count bytes from NoMemory = ⊥
ExplainsPass t count bytes from (Malformed place) = AreFewer t count bytes from place
