-- The bytes of a column's file (docs/formats.md, "Column files").
use Rattle.std.specs.Prelude.{ℕ, suc, zero, ◌+◌, ◌/◌, ◌%◌, nat_lt, List, [], ◌∷◌, ◌++◌, length, flat_map, if◌then◌else◌}
use Rattle.std.specs.Int.{w8, w16, w32, w64, to_le_bytes, cast_unsigned}
use Rattle.mt_values.specs.declared.value.Value.{Value}
use Rattle.mt_values.specs.declared.value.Value.TheVariants as value

-- A number in groups of seven bits, the lowest first, each but the last with 128 added; at most so many groups after the first.
abbrev pub groups_within : ℕ → ℕ → List ℕ
groups_within zero n = n ∷ []
groups_within (suc k) n = if nat_lt n 128 then n ∷ [] else (n % 128 + 128) ∷ groups_within k (n / 128)

-- unsigned LEB128 in its shortest form, of a number below 2 ^ 64
abbrev pub leb128 : ℕ → List ℕ
leb128 n = groups_within 9 n

-- a number in its 1, 2, 4 or 8 bytes, little-endian, signed ones in two's complement; a text as its length, then its bytes
abbrev pub value_bytes : Value → List ℕ
value_bytes (value.UInt8 n) = n ∷ []
value_bytes (value.UInt16 n) = to_le_bytes w16 n
value_bytes (value.UInt32 n) = to_le_bytes w32 n
value_bytes (value.UInt64 n) = to_le_bytes w64 n
value_bytes (value.Int8 n) = to_le_bytes w8 (cast_unsigned w8 n)
value_bytes (value.Int16 n) = to_le_bytes w16 (cast_unsigned w16 n)
value_bytes (value.Int32 n) = to_le_bytes w32 (cast_unsigned w32 n)
value_bytes (value.Int64 n) = to_le_bytes w64 (cast_unsigned w64 n)
value_bytes (value.Text bytes) = leb128 (length bytes) ++ bytes

-- the values of a column, in order
abbrev pub column_bytes : List Value → List ℕ
column_bytes values = flat_map value_bytes values
