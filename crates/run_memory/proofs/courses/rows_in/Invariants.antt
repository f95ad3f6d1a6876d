-- the rows of the parts so far
use Rattle.std.proofs.Common.{◌≡◌, take}
use Rattle.table_core.specs.part_history.Parts.{parts_in}
use Rattle.row_merge.specs.Merged.{inputs_of}
use Rattle.run_memory.specs.Putting.{rows_of_each}
use Rattle.run_memory.proofs.courses.rows_in.Given as goal

abbrev pub invariant-loop-part : goal.invariant-loop-part
invariant-loop-part l = inputs_of l.own.items ≡ rows_of_each (parts_in l.partition (take l.part-index l.parts))
