-- both keys agree in the columns gone over
use Rattle.primary_marks.specs.Choosing.{key_at}
use Rattle.primary_marks.proofs.GranuleBoxes.{AgreeUpTo}
use Rattle.primary_marks.proofs.choosing.ranged_columns.Given as goal

abbrev pub invariant-loop-column : goal.invariant-loop-column
invariant-loop-column l = AgreeUpTo (key_at l.marks l.first) (key_at l.marks l.last) l.column
