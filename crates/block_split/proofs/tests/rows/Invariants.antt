-- each column has a UInt32 for each row gone over
use Rattle.std.proofs.Common.{◌≡◌, length}
use Rattle.mt_values.specs.declared.value.ColType.TheVariants as type
use Rattle.block_split.proofs.tests.rows.Given as goal

abbrev pub invariant-loop-row : goal.invariant-loop-row
invariant-loop-row l = record {
  first_type : l.first.col_type ≡ type.UInt32;
  first_rows : length l.first.values ≡ l.row;
  second_type : l.second.col_type ≡ type.UInt32;
  second_rows : length l.second.values ≡ l.row;
}
