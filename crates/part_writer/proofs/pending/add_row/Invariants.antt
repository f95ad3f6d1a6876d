-- the columns gone over got their values, and the others are as they were
use Rattle.std.proofs.Common.{◌≡◌, [], ◌∷◌, length, take}
use Rattle.std.specs.List.{range_with_len}
use Rattle.part_writer.specs.Growing.{with_rows}
use Rattle.part_writer.proofs.pending.add_row.Given as goal

abbrev pub invariant-loop-number : goal.invariant-loop-number
invariant-loop-number l = l.columns ≡ with_rows (l.row ∷ []) (take l.number (range_with_len 0 (length l.row))) l.initial.columns
