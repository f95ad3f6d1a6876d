-- The text of rows and numbers (ClickHouse, formats: TabSeparated; docs/replies.md).
use Rattle.std.specs.Prelude.{ℕ, ◌==◌, List, [], ◌∷◌, ◌++◌, flat_map, slice_get, if◌then◌else◌}
use Rattle.std.specs.List.{filter_map}
use Rattle.std.specs.Fmt.{decimal, signed_decimal}
use Rattle.mt_values.specs.declared.value.Value.{Value}
use Rattle.mt_values.specs.declared.value.Value.TheVariants as value
use Rattle.mt_values.specs.Values.{Row}

-- a byte of a String as it is printed
abbrev pub escaped : ℕ → List ℕ
escaped b =
    if b == 8 then 92 ∷ 98 ∷ []
    else if b == 12 then 92 ∷ 102 ∷ []
    else if b == 13 then 92 ∷ 114 ∷ []
    else if b == 10 then 92 ∷ 110 ∷ []
    else if b == 9 then 92 ∷ 116 ∷ []
    else if b == 0 then 92 ∷ 48 ∷ []
    else if b == 39 then 92 ∷ 39 ∷ []
    else if b == 92 then 92 ∷ 92 ∷ []
    else b ∷ []

-- a value as a field
abbrev pub field : Value → List ℕ
field (value.UInt8 n) = decimal n
field (value.UInt16 n) = decimal n
field (value.UInt32 n) = decimal n
field (value.UInt64 n) = decimal n
field (value.Int8 n) = signed_decimal n
field (value.Int16 n) = signed_decimal n
field (value.Int32 n) = signed_decimal n
field (value.Int64 n) = signed_decimal n
field (value.Text bytes) = flat_map escaped bytes

-- the fields of a row, parted by tabs
abbrev pub fields : Row → List ℕ
fields [] = []
fields (v ∷ []) = field v
fields (v ∷ w ∷ vs) = field v ++ 9 ∷ fields (w ∷ vs)

-- a row as a line
abbrev pub line : Row → List ℕ
line row = fields row ++ 10 ∷ []

-- the values of a row at chosen columns, in the order of the choice; a column may be chosen twice
abbrev pub selected : List ℕ → Row → Row
selected columns row = filter_map (slice_get row) columns
