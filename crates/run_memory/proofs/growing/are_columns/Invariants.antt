-- those gone over are columns of the table
use Rattle.std.proofs.Common.{◌<◌, All, length, take}
use Rattle.run_memory.proofs.growing.are_columns.Given as goal

abbrev pub invariant-loop-place : goal.invariant-loop-place
invariant-loop-place l = All (λ place. place < length l.schema.columns) (take l.place-index l.places)
