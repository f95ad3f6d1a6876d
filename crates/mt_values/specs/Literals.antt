-- The values that literals are in columns (docs/definitions.md, "Conditions").
use Rattle.std.specs.Prelude.{ℕ, ◌^◌, ℤ, pos, negsuc, Bool, true, false, nat_lt, Option, Some, None, if◌then◌else◌}
use Rattle.std.specs.Option.{option_map}
use Rattle.mt_values.specs.declared.expr.LiteralText.{LiteralText}
use Rattle.mt_values.specs.declared.expr.LiteralText.TheVariants as literal
use Rattle.mt_values.specs.declared.value.ColType.{ColType}
use Rattle.mt_values.specs.declared.value.ColType.TheVariants as type
use Rattle.mt_values.specs.declared.value.Value.{Value}
use Rattle.mt_values.specs.declared.value.Value.TheVariants as value
use Rattle.mt_values.specs.Rows.{minus, number_of}

-- a number without sign that is below a bound (docs/definitions.md, "Conditions")
abbrev pub natural_below : ℕ → ℤ → Option ℕ
natural_below end (pos n) = if nat_lt n end then Some n else None
natural_below end (negsuc n) = None

-- a number from the negative of a bound up to one below the bound (docs/definitions.md, "Conditions")
abbrev pub integer_below : ℕ → ℤ → Option ℤ
integer_below end (pos n) = if nat_lt n end then Some (pos n) else None
integer_below end (negsuc n) = if nat_lt n end then Some (negsuc n) else None

-- the value that a number is in a column of a type, where it is in the type's range (ClickHouse, Int8 to UInt64)
abbrev pub number_value : ColType → ℤ → Option Value
number_value type.UInt8 n = option_map value.UInt8 (natural_below (2 ^ 8) n)
number_value type.UInt16 n = option_map value.UInt16 (natural_below (2 ^ 16) n)
number_value type.UInt32 n = option_map value.UInt32 (natural_below (2 ^ 32) n)
number_value type.UInt64 n = option_map value.UInt64 (natural_below (2 ^ 64) n)
number_value type.Int8 n = option_map value.Int8 (integer_below (2 ^ 7) n)
number_value type.Int16 n = option_map value.Int16 (integer_below (2 ^ 15) n)
number_value type.Int32 n = option_map value.Int32 (integer_below (2 ^ 31) n)
number_value type.Int64 n = option_map value.Int64 (integer_below (2 ^ 63) n)
number_value type.Text n = None

-- a number with its sign: whether a minus stands before it (docs/definitions.md, "Conditions")
abbrev pub signed : Bool → ℕ → ℤ
signed false n = pos n
signed true n = minus n

-- the value that a literal is in a column of a type; none where it does not belong to the column (docs/definitions.md, "Conditions")
abbrev pub literal_value : ColType → LiteralText → Option Value
literal_value type.Text (literal.Text bytes) = Some (value.Text bytes)
literal_value t (literal.Text bytes) = None
literal_value t (literal.Number negative digits) = number_value t (signed negative (number_of digits))
