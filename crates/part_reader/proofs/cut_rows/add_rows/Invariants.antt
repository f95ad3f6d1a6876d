-- the rows gone over are added
use Rattle.std.proofs.Common.{◌≡◌, ◌++◌, take}
use Rattle.part_reader.proofs.cut_rows.add_rows.Given as goal

abbrev pub invariant-loop-place : goal.invariant-loop-place
invariant-loop-place l = record {
  rows : l.rows.items ≡ l.initial.rows.items ++ take l.place l.block.rows;
}
