-- the picked rows' column for each type gone over, and room for the others
use Rattle.std.proofs.Common.{◌≡◌, length, take, vec_len, vec_capacity}
use Rattle.mt_values.specs.Grid.{picked}
use Rattle.mt_values.proofs.Grids.{columns_from}
use Rattle.mt_values.proofs.block.Block.pick.Given as goal

abbrev pub invariant-loop-place : goal.invariant-loop-place
invariant-loop-place l = record {
  made : l.columns.items ≡ columns_from 0 (take l.place l.self.types) (picked l.self.rows l.order);
  count : vec_len l.columns ≡ l.place;
  room : vec_capacity l.columns ≡ length l.self.types;
}
