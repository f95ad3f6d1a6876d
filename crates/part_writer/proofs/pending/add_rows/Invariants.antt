-- the columns gone over got their values, and the others are as they were
use Rattle.std.proofs.Common.{◌≡◌, take}
use Rattle.mt_values.specs.Grid.{picked}
use Rattle.part_writer.specs.Growing.{with_rows}
use Rattle.part_writer.proofs.pending.add_rows.Given as goal

abbrev pub invariant-loop-number : goal.invariant-loop-number
invariant-loop-number l = l.columns ≡ with_rows (picked l.block.rows l.order) (take l.number l.places) l.initial.columns
