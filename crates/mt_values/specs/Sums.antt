-- The numbers that values are, and their sums, which wrap (docs/engines.md, "Sums").
use Rattle.std.specs.Prelude.{◌^◌, ℕ, ℤ, pos, ◌+ℤ◌, ◌-ℤ◌, unsigned_abs, if◌then◌else◌, nat_eq, List, [], ◌∷◌}
use Rattle.std.specs.Int.{int_rem_euclid, int_wrap, w8, w16, w32, w64}
use Rattle.mt_values.specs.declared.value.Value.{Value}
use Rattle.mt_values.specs.declared.value.Value.TheVariants as value
use Rattle.mt_values.specs.Order.{rank_of}

-- the number that a value is; a text is none, and adds nothing (docs/engines.md, "Sums")
abbrev pub integer_of : Value → ℤ
integer_of (value.UInt8 n) = pos n
integer_of (value.UInt16 n) = pos n
integer_of (value.UInt32 n) = pos n
integer_of (value.UInt64 n) = pos n
integer_of (value.Int8 z) = z
integer_of (value.Int16 z) = z
integer_of (value.Int32 z) = z
integer_of (value.Int64 z) = z
integer_of (value.Text bytes) = pos 0

-- the sum of the numbers (docs/engines.md, "Sums")
abbrev pub total : List Value → ℤ
total [] = pos 0
total (v ∷ vs) = integer_of v +ℤ total vs

-- the number from 0 that has the same lowest bits, this many (docs/engines.md, "Sums")
abbrev pub low_bits : ℕ → ℤ → ℕ
low_bits bits z = unsigned_abs (int_rem_euclid z (pos (2 ^ bits)))

-- a number as a value of the type of another value, wrapped at its width (docs/engines.md, "Sums"; ClickHouse, UInt8 to Int64: overflow)
abbrev pub wrapped_as : Value → ℤ → Value
wrapped_as (value.UInt8 n) z = value.UInt8 (low_bits 8 z)
wrapped_as (value.UInt16 n) z = value.UInt16 (low_bits 16 z)
wrapped_as (value.UInt32 n) z = value.UInt32 (low_bits 32 z)
wrapped_as (value.UInt64 n) z = value.UInt64 (low_bits 64 z)
wrapped_as (value.Int8 n) z = value.Int8 (int_wrap w8 z)
wrapped_as (value.Int16 n) z = value.Int16 (int_wrap w16 z)
wrapped_as (value.Int32 n) z = value.Int32 (int_wrap w32 z)
wrapped_as (value.Int64 n) z = value.Int64 (int_wrap w64 z)
wrapped_as (value.Text bytes) z = value.Text bytes

-- a value with the number of another of its type added, wrapped at its width (docs/engines.md, "Sums")
abbrev pub plus : Value → Value → Value
plus v w = if nat_eq (rank_of v) (rank_of w) then wrapped_as v (integer_of v +ℤ integer_of w) else v

-- a value with the number of another of its type taken away, wrapped at its width (docs/engines.md, "Sums")
abbrev pub less : Value → Value → Value
less v w = if nat_eq (rank_of v) (rank_of w) then wrapped_as v (integer_of v -ℤ integer_of w) else v
