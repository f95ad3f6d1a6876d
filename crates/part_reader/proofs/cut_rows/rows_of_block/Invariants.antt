-- the rows gone over
use Rattle.std.proofs.Common.{◌≡◌, take, vec_capacity, vec_len}
use Rattle.part_reader.proofs.cut_rows.rows_of_block.Given as goal

abbrev pub invariant-loop-place : goal.invariant-loop-place
invariant-loop-place l = record {
  rows : l.rows.items ≡ take l.place l.block.rows;
  count : vec_len l.rows ≡ l.place;
  room : vec_capacity l.rows ≡ l.count;
}
