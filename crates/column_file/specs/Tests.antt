-- Whether bytes spell values of a column, as a test (docs/formats.md, "Column files").
use Rattle.std.specs.Prelude.{ℕ, zero, suc, ◌+◌, ◌&&◌, Bool, false, nat_eq, nat_le, nat_lt, List, length, take, drop, Option, Some, None, if◌then◌else◌}
use Rattle.std.specs.List.{find, list_all, range_with_len}
use Rattle.std.specs.Option.{option_map, option_map_or}
use Rattle.std.specs.Str.{bytes_eq}
use Rattle.mt_values.specs.declared.value.ColType.{ColType}
use Rattle.mt_values.specs.declared.value.ColType.TheVariants as type
use Rattle.mt_values.specs.ColumnBytes.{leb128}
use Rattle.column_file.specs.Spellings.{fewest_bytes}

-- the bytes begin with a text of this length: with the length in groups, and they have as many bytes after it
abbrev pub has_text : List ℕ → ℕ → Bool
has_text bytes n = bytes_eq (leb128 n) (take (length (leb128 n)) bytes) && nat_le (length (leb128 n) + n) (length bytes)

-- how many of the bytes are those of a first text, where they begin with one
abbrev pub text_size : List ℕ → Option ℕ
text_size bytes = option_map (λ n. length (leb128 n) + n) (find (has_text bytes) (range_with_len 0 (length bytes + 1)))

-- so it is with a number that takes so many
abbrev pub number_size : ℕ → List ℕ → Option ℕ
number_size n bytes = if nat_le n (length bytes) && list_all (λ b. nat_lt b 256) (take n bytes) then Some n else None

-- and with a value of the type
abbrev pub first_size : ColType → List ℕ → Option ℕ
first_size type.Text bytes = text_size bytes
first_size t bytes = number_size (fewest_bytes t) bytes

-- whether the bytes are those of some values of the type, so many of them
abbrev pub spells : ColType → ℕ → List ℕ → Bool
spells t zero bytes = nat_eq (length bytes) 0
spells t (suc n) bytes = option_map_or (λ size. spells t n (drop size bytes)) (first_size t bytes) false
