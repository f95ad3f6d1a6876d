-- A borrowed value of a column.
use Rattle.mt_values.specs.declared.value.Value.{Value}
use Rattle.mt_values.specs.declared.value.Value.TheVariants as value
use Rattle.mt_values.specs.declared.cell.Cell.{Cell}
use Rattle.mt_values.specs.declared.cell.Cell.TheVariants as cell

-- the value that a cell is
abbrev pub value_of : Cell → Value
value_of (cell.UInt8 n) = value.UInt8 n
value_of (cell.UInt16 n) = value.UInt16 n
value_of (cell.UInt32 n) = value.UInt32 n
value_of (cell.UInt64 n) = value.UInt64 n
value_of (cell.Int8 n) = value.Int8 n
value_of (cell.Int16 n) = value.Int16 n
value_of (cell.Int32 n) = value.Int32 n
value_of (cell.Int64 n) = value.Int64 n
value_of (cell.Text bytes) = value.Text bytes.now
