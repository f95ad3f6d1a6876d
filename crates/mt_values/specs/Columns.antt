-- What the typed vectors of a column stand for.
use Rattle.std.specs.Prelude.{map}
use Rattle.mt_values.specs.declared.value.ColType.TheVariants as type
use Rattle.mt_values.specs.declared.value.Value.TheVariants as value
use Rattle.mt_values.specs.declared.column.Cells.{Cells as Vectors}
use Rattle.mt_values.specs.declared.column.Cells.TheVariants as cells
use Rattle.mt_values.specs.Grid.{Cells}

-- a vector of numbers or texts as a column of values
abbrev pub cells_of : Vectors → Cells
cells_of (cells.UInt8 v) = record { col_type = type.UInt8; values = map value.UInt8 v.items }
cells_of (cells.UInt16 v) = record { col_type = type.UInt16; values = map value.UInt16 v.items }
cells_of (cells.UInt32 v) = record { col_type = type.UInt32; values = map value.UInt32 v.items }
cells_of (cells.UInt64 v) = record { col_type = type.UInt64; values = map value.UInt64 v.items }
cells_of (cells.Int8 v) = record { col_type = type.Int8; values = map value.Int8 v.items }
cells_of (cells.Int16 v) = record { col_type = type.Int16; values = map value.Int16 v.items }
cells_of (cells.Int32 v) = record { col_type = type.Int32; values = map value.Int32 v.items }
cells_of (cells.Int64 v) = record { col_type = type.Int64; values = map value.Int64 v.items }
cells_of (cells.Text s) = record { col_type = type.Text; values = map value.Text s }
