-- the bytes up to the place are those of the values gone over but the last unwanted ones, and the column got those wanted
use Rattle.std.proofs.Common.{◌≡◌, ◌≤◌, length, take}
use Rattle.column_file.proofs.Wanted.{ArePicked}
use Rattle.column_file.proofs.picking.decode_where.Given as goal

abbrev pub invariant-loop-is_wanted : goal.invariant-loop-is_wanted
invariant-loop-is_wanted l = record {
  within : l.at ≤ length l.bytes;
  few : l.unwanted ≤ l.is_wanted-index;
  col_type : l.column.col_type ≡ l.initial.column.col_type;
  picked : ArePicked (take l.is_wanted-index l.mask) l.unwanted l.bytes l.at l.initial.column l.column;
}
