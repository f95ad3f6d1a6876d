-- the rows at the places so far
use Rattle.std.proofs.Common.{◌≡◌, take}
use Rattle.mt_values.specs.Grid.{picked}
use Rattle.table_core.proofs.steps.rows_at.Given as goal

abbrev pub invariant-loop-place : goal.invariant-loop-place
invariant-loop-place l = l.rows ≡ picked l.block.rows (take l.place-index l.places)
