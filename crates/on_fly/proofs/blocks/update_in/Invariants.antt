-- the updated rows' column for each place gone over, and room for the others
use Rattle.std.proofs.Common.{◌≡◌, length, map, take, vec_len, vec_capacity}
use Rattle.mt_values.proofs.Grids.{columns_from}
use Rattle.on_fly.specs.Updates.{updated_if}
use Rattle.on_fly.proofs.blocks.update_in.Given as goal

abbrev pub invariant-loop-place : goal.invariant-loop-place
invariant-loop-place l = record {
  made : l.columns.items ≡ columns_from 0 (take l.place l.block.types) (map (updated_if l.assignments l.condition) l.block.rows);
  count : vec_len l.columns ≡ l.place;
  room : vec_capacity l.columns ≡ length l.block.types;
}
