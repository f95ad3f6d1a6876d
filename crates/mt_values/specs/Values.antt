-- Values and rows (docs/definitions.md, "Values").
use Rattle.std.specs.Prelude.{◌<◌, ◌≤◌, ◌^◌, List, length, map, All, FitsSigned}
use Rattle.std.specs.Int.{w8, w16, w32, w64}
use Rattle.mt_base.specs.Limits.{text_limit}
use Rattle.mt_values.specs.declared.value.ColType.{ColType}
use Rattle.mt_values.specs.declared.value.ColType.TheVariants as type
use Rattle.mt_values.specs.declared.value.Value.{Value}
use Rattle.mt_values.specs.declared.value.Value.TheVariants as value

-- a row is its values in the order of the table's columns
abbrev pub Row : Type 0
Row = List Value

-- the type of the columns that a value belongs to
abbrev pub type_of : Value → ColType
type_of (value.UInt8 n) = type.UInt8
type_of (value.UInt16 n) = type.UInt16
type_of (value.UInt32 n) = type.UInt32
type_of (value.UInt64 n) = type.UInt64
type_of (value.Int8 n) = type.Int8
type_of (value.Int16 n) = type.Int16
type_of (value.Int32 n) = type.Int32
type_of (value.Int64 n) = type.Int64
type_of (value.Text bytes) = type.Text

-- the types of a row's values, in order
abbrev pub types_of : Row → List ColType
types_of row = map type_of row

-- a number is within its type's range; a text is any list
abbrev pub FitsType : Value → Type 0
FitsType (value.UInt8 n) = n < 2 ^ 8
FitsType (value.UInt16 n) = n < 2 ^ 16
FitsType (value.UInt32 n) = n < 2 ^ 32
FitsType (value.UInt64 n) = n < 2 ^ 64
FitsType (value.Int8 z) = FitsSigned w8 z
FitsType (value.Int16 z) = FitsSigned w16 z
FitsType (value.Int32 z) = FitsSigned w32 z
FitsType (value.Int64 z) = FitsSigned w64 z
FitsType (value.Text bytes) = Unit {0}

-- a value that a column may hold: a number within its type's range, or at most 1 MiB of bytes
abbrev pub IsValue : Value → Type 0
IsValue (value.Text bytes) = All (λ b. b < 2 ^ 8) bytes × (length bytes ≤ text_limit)
IsValue v = FitsType v

-- every value of the rows is one that a column may hold
abbrev pub AreValues : List Row → Type 0
AreValues rows = All (λ (row : Row). All IsValue row) rows
