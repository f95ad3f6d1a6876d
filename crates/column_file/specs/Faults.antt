-- Where bytes that spell no values of a column go wrong (docs/formats.md, "Column files").
use Rattle.std.specs.Prelude.{◌≡◌, ◌≢◌, ℕ, ◌<◌, List, [], ◌++◌, length, ◌⊎◌, ⊤}
use Rattle.mt_values.specs.declared.value.ColType.{ColType}
use Rattle.mt_values.specs.declared.value.Value.{Value}
use Rattle.mt_values.specs.ColumnBytes.{column_bytes, value_bytes}
use Rattle.byte_numbers.specs.declared.faults.FormatFault.{FormatFault}
use Rattle.byte_numbers.specs.declared.faults.FormatFault.TheVariants.{NoMemory, Malformed}
use Rattle.column_file.specs.Spellings.{IsFront, IsOfType}

-- the bytes begin with those of no value of the type
abbrev pub NoneBegins : ColType → List ℕ → Type 0
NoneBegins t bytes = (v : Value) (rest : List ℕ) → IsOfType t v → bytes ≡ value_bytes v ++ rest → ⊥

-- of so many values some were read, and what is left begins with no further one; or all were read, and something is left
abbrev pub IsStuck : ColType → ℕ → ℕ → List ℕ → Type 0
IsStuck t count read rest = ((read < count) × NoneBegins t rest) ⊎ ((read ≡ count) × (rest ≢ []))

-- the bytes begin with values of the type that end at the place, and go on with none, or with something after so many values
pub record IsFirstFault (t : ColType) (count : ℕ) (bytes : List ℕ) (place : ℕ) : Type 0 where
  pub values : List Value
  pub rest : List ℕ
  pub front : IsFront t bytes values rest
  pub place_is : place ≡ length (column_bytes values)
  pub stuck : IsStuck t count (length values) rest

-- what an error says of the bytes: malformed ones have their first fault at its place
abbrev pub Explains : ColType → ℕ → List ℕ → FormatFault → Type 0
Explains t count bytes NoMemory = ⊤
Explains t count bytes (Malformed place) = IsFirstFault t count bytes place

-- the error is the first fault of the bytes, and is not out of memory
abbrev pub Locates : ColType → ℕ → List ℕ → FormatFault → Type 0
Locates t count bytes NoMemory = ⊥
Locates t count bytes (Malformed place) = IsFirstFault t count bytes place
