-- Columns of keys, and what reading adds to them.
use Rattle.std.specs.Prelude.{◌≡◌, ℕ, ◌<◌, List, [], ◌∷◌, ◌++◌, length, map, slice_get, All, Option, Some, IfSome, ⊤}
use Rattle.std.specs.Option.{option_map}
use Rattle.column_file.specs.byte_numbers.declared.faults.FormatFault.{FormatFault}
use Rattle.column_file.specs.byte_numbers.declared.faults.FormatFault.TheVariants.{NoMemory, Malformed}
use Rattle.column_file.specs.byte_numbers.Fronts.{Begins}
use Rattle.mt_values.specs.declared.value.ColType.{ColType}
use Rattle.mt_values.specs.declared.value.Value.{Value}
use Rattle.mt_values.specs.ColumnBytes.{column_bytes, value_bytes}
use Rattle.mt_values.specs.Grid.{Cells, row_at}
use Rattle.mt_values.specs.Values.{Row}
use Rattle.column_file.specs.Spellings.{IsOfType, with_values}
use Rattle.primary_marks.specs.KeyFaults.{ExplainsKey}
use Rattle.primary_marks.specs.Keys.{IsKeyOf}

-- the types of columns (docs/formats.md, "Primary keys")
abbrev pub key_types : List Cells → List ColType
key_types columns = map (λ (c : Cells). c.col_type) columns

-- each column has this many values (docs/formats.md, "Primary keys")
abbrev pub HaveKeys : List Cells → ℕ → Type 0
HaveKeys columns keys = All (λ (c : Cells). length c.values ≡ keys) columns

-- each column has a value at the place that is wanted (docs/formats.md, "Primary keys")
abbrev pub HaveWanted : Option ℕ → List Cells → Type 0
HaveWanted wanted columns = IfSome wanted (λ place. All (λ (c : Cells). place < length c.values) columns)

-- the value that a column has at the wanted place, where one is wanted (docs/formats.md, "Primary keys")
abbrev pub IsWantedIn : Cells → Option ℕ → Value → Type 0
IsWantedIn column wanted v = IfSome wanted (λ place. slice_get column.values place ≡ Some v)

-- a column got a value, the wanted one, that the bytes begin with (docs/formats.md, "Primary keys")
pub record GainsValue (wanted : Option ℕ) (bytes : List ℕ) (size : ℕ) (old new : Cells) : Type 0 where
  pub value : Value
  pub typed : IsOfType old.col_type value
  pub same : IsWantedIn old wanted value
  pub begins : Begins (value_bytes value) size bytes
  pub gained : new ≡ with_values old (value ∷ [])

-- the error is out of memory, or is at the place, where the bytes begin with no value for the column (docs/formats.md, "Primary keys")
abbrev pub ExplainsValue : Option ℕ → Cells → ℕ → List ℕ → FormatFault → Type 0
ExplainsValue wanted column at bytes NoMemory = ⊤
ExplainsValue wanted column at bytes (Malformed place) =
    (place ≡ at) × ((v : Value) (left : List ℕ) → IsOfType column.col_type v → IsWantedIn column wanted v → bytes ≡ value_bytes v ++ left → ⊥)

-- columns with the values of a key at their ends (docs/formats.md, "Primary keys")
abbrev pub with_key : List Cells → Row → List Cells
with_key (c ∷ cs) (v ∷ vs) = with_values c (v ∷ []) ∷ with_key cs vs
with_key columns key = []

-- the key that is wanted (docs/formats.md, "Primary keys")
abbrev pub wanted_key : List Cells → Option ℕ → Option Row
wanted_key columns wanted = option_map (row_at columns) wanted

-- the error is out of memory, or the place at which the next key of the columns goes wrong (docs/formats.md, "Primary keys")
abbrev pub ExplainsNextKey : List Cells → Option ℕ → ℕ → List ℕ → FormatFault → Type 0
ExplainsNextKey columns wanted at bytes error = ExplainsKey (key_types columns) (wanted_key columns wanted) at bytes error

-- columns got the values of a key, the wanted one, that the bytes begin with (docs/formats.md, "Primary keys")
pub record GainKey (wanted : Option ℕ) (bytes : List ℕ) (size : ℕ) (olds news : List Cells) : Type 0 where
  pub key : Row
  pub is_key : IsKeyOf (key_types olds) key
  pub same : IfSome (wanted_key olds wanted) (λ w. key ≡ w)
  pub begins : Begins (column_bytes key) size bytes
  pub gained : news ≡ with_key olds key
