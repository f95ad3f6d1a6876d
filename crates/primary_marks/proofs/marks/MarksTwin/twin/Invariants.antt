-- the columns gone over are copied
use Rattle.std.proofs.Common.{◌≡◌, take}
use Rattle.primary_marks.proofs.marks.MarksTwin.twin.Given as goal

abbrev pub invariant-loop-column : goal.invariant-loop-column
invariant-loop-column l = l.columns.items ≡ take l.column-index l.column-items
