-- What a backslash and the bytes after it stand for (ClickHouse, formats: TabSeparated; docs/grammar.md, "Escapes").
use Rattle.std.specs.Prelude.{ℕ, ◌+◌, ◌-◌, ◌*◌, ◌&&◌, ◌==◌, nat_le, List, [], ◌∷◌, Option, Some, None, if◌then◌else◌}
use Rattle.std.specs.Option.{option_map}
use Rattle.std.specs.Char.{is_ascii_digit}

-- the byte that a backslash and one byte stand for
abbrev pub escape_byte : ℕ → ℕ
escape_byte c =
    if c == 98 then 8
    else if c == 102 then 12
    else if c == 114 then 13
    else if c == 110 then 10
    else if c == 116 then 9
    else if c == 48 then 0
    else if c == 97 then 7
    else if c == 118 then 11
    else c

-- the value of a hexadecimal digit of either case
abbrev pub hex_digit : ℕ → Option ℕ
hex_digit c =
    if is_ascii_digit c then Some (c - 48)
    else if nat_le 97 c && nat_le c 102 then Some (c - 87)
    else if nat_le 65 c && nat_le c 70 then Some (c - 55)
    else None

abbrev pub hex_byte : Option ℕ → Option ℕ → Option ℕ
hex_byte (Some high) (Some low) = Some (16 * high + low)
hex_byte high low = None

-- the byte that two hexadecimal digits say, and what follows them
abbrev pub hex_pair : List ℕ → Option (ℕ × List ℕ)
hex_pair (h ∷ l ∷ bs) = option_map (λ b. (b, bs)) (hex_byte (hex_digit h) (hex_digit l))
hex_pair bs = None

-- The byte that a backslash stands for with the bytes after it, and what follows them. None after it is none, nor is
-- an N, nor an x without two digits.
abbrev pub escape_of : List ℕ → Option (ℕ × List ℕ)
escape_of [] = None
escape_of (c ∷ bs) =
    if c == 120 then hex_pair bs
    else if c == 78 then None
    else Some (escape_byte c, bs)
