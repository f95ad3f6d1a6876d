-- Numbers by their digits.
use Rattle.std.specs.Prelude.{ℕ, ℤ, pos, neg_ℤ, ◌≤ℤ◌, ◌<ℤ◌, ◌+◌, ◌-◌, ◌*◌, ◌&&◌, nat_le, List, Option, Some, None, if◌then◌else◌}
use Rattle.std.specs.Char.{is_ascii_digit}
use Rattle.std.specs.List.{list_all}
use Rattle.mt_values.specs.Rows.{number_of}

-- a number with one more decimal digit; none where the byte is no digit, or the number then passes a greatest one
abbrev pub with_digit : ℕ → ℕ → ℕ → Option ℕ
with_digit most n b = if is_ascii_digit b && nat_le (n * 10 + (b - 48)) most then Some (n * 10 + (b - 48)) else None

-- the number that decimal digits say; none where a byte is no digit
abbrev pub number_in : List ℕ → Option ℕ
number_in digits = if list_all is_ascii_digit digits then Some (number_of digits) else None

-- from the negative of an end up to the number below it
abbrev pub IsBelow : ℕ → ℤ → Type 0
IsBelow end z = (neg_ℤ (pos end) ≤ℤ z) × (z <ℤ pos end)
