-- the rows so far
use Rattle.std.proofs.Common.{◌≡◌, take}
use Rattle.mt_plain.proofs.blocks.rows_of.Given as goal

abbrev pub invariant-loop-place : goal.invariant-loop-place
invariant-loop-place l = l.rows.items ≡ take l.place l.block.rows
