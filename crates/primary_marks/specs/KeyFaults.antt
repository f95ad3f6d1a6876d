-- Where bytes that are no primary.bin go wrong (docs/formats.md, "Primary keys").
use Rattle.std.specs.Prelude.{◌≡◌, ◌≢◌, ℕ, ◌+◌, ◌-◌, ◌<◌, ◌&&◌, nat_eq, List, [], ◌++◌, length, slice_get, take, All, Option, None, Some, IfSome, ◌⊎◌, ⊤, if◌then◌else◌}
use Rattle.column_file.specs.byte_numbers.declared.faults.FormatFault.{FormatFault}
use Rattle.column_file.specs.byte_numbers.declared.faults.FormatFault.TheVariants.{NoMemory, Malformed}
use Rattle.mt_values.specs.declared.value.ColType.{ColType}
use Rattle.mt_values.specs.declared.value.Value.{Value}
use Rattle.mt_values.specs.ColumnBytes.{column_bytes, value_bytes}
use Rattle.mt_values.specs.Values.{FitsType, Row, type_of, types_of}
use Rattle.column_file.specs.Marks.{keys_bytes}
use Rattle.primary_marks.specs.Keys.{AreMarkKeys, IsKeyOf, KeyShape, ends_alone, granule_count, key_count}

-- the key that the next one after these has to be: the last granule's mark, where that granule has one row and the final mark is to come
abbrev pub wanted_after : KeyShape → List Row → Option Row
wanted_after shape keys = if ends_alone shape && nat_eq (length keys) (granule_count shape) then slice_get keys (length keys - 1) else None

-- the first values of a key of these types, and of the wanted key where one is wanted
pub record IsBegun (types : List ColType) (wanted : Option Row) (begun : Row) : Type 0 where
  pub typed : types_of begun ≡ take (length begun) types
  pub fit : All FitsType begun
  pub same : IfSome wanted (λ key. begun ≡ take (length begun) key)

-- the bytes begin with no value that may come after these: of the next type, and of the wanted key
abbrev pub NoValueFollows : List ColType → Option Row → Row → List ℕ → Type 0
NoValueFollows types wanted begun bytes =
    (v : Value) (left : List ℕ) → slice_get types (length begun) ≡ Some (type_of v) → FitsType v → IfSome wanted (λ key. slice_get key (length begun) ≡ Some v) → bytes ≡ value_bytes v ++ left → ⊥

-- the bytes, which begin at a place of others, go on with the first few values of a key, and at this place with no further one
pub record IsKeyStuckAt (types : List ColType) (wanted : Option Row) (at : ℕ) (bytes : List ℕ) (place : ℕ) : Type 0 where
  pub begun : Row
  pub rest : List ℕ
  pub few : length begun < length types
  pub begins : IsBegun types wanted begun
  pub parted : bytes ≡ column_bytes begun ++ rest
  pub place_is : place ≡ at + length (column_bytes begun)
  pub stuck : NoValueFollows types wanted begun rest

-- the error is out of memory, or the place at which a key goes wrong
abbrev pub ExplainsKey : List ColType → Option Row → ℕ → List ℕ → FormatFault → Type 0
ExplainsKey types wanted at bytes NoMemory = ⊤
ExplainsKey types wanted at bytes (Malformed place) = IsKeyStuckAt types wanted at bytes place

-- the bytes after some keys go wrong at the place: in the next key, or after the last
abbrev pub KeysGoOnWrong : KeyShape → List Row → List ℕ → ℕ → Type 0
KeysGoOnWrong shape keys rest place =
    ((length keys < key_count shape) × IsKeyStuckAt shape.types (wanted_after shape keys) (length (keys_bytes keys)) rest place) ⊎ (AreMarkKeys shape keys × (place ≡ length (keys_bytes keys)) × (rest ≢ []))

-- the bytes begin with some keys, and then go wrong at the place
pub record IsPrimaryFault (shape : KeyShape) (bytes : List ℕ) (place : ℕ) : Type 0 where
  pub keys : List Row
  pub rest : List ℕ
  pub each : All (IsKeyOf shape.types) keys
  pub parted : bytes ≡ keys_bytes keys ++ rest
  pub wrong : KeysGoOnWrong shape keys rest place

-- the error is out of memory, or the first fault of the bytes
abbrev pub ExplainsPrimary : KeyShape → List ℕ → FormatFault → Type 0
ExplainsPrimary shape bytes NoMemory = ⊤
ExplainsPrimary shape bytes (Malformed place) = IsPrimaryFault shape bytes place
