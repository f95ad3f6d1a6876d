-- the bytes of the values gone over are added
use Rattle.std.proofs.Common.{◌≡◌, ◌++◌, All, map, take}
use Rattle.mt_values.specs.Cells.{value_of}
use Rattle.mt_values.specs.ColumnBytes.{column_bytes}
use Rattle.mt_values.specs.Values.{FitsType}
use Rattle.column_file.proofs.encoding.push_all.Given as goal

abbrev pub invariant-loop-cell : goal.invariant-loop-cell
invariant-loop-cell l = record {
  written : l.bytes ≡ l.initial.bytes ++ column_bytes (map value_of (take l.cell-index l.cells));
  encodable : All FitsType (map value_of (take l.cell-index l.cells));
}
