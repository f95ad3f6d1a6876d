-- the boxes of the granules gone over, before those that are left
use Rattle.predicate.specs.Granules.{boxes_of}
use Rattle.primary_marks.proofs.GranuleBoxes.{BoxesFrom}
use Rattle.primary_marks.proofs.choosing.boxes_where.Given as goal

abbrev pub invariant-loop-granule : goal.invariant-loop-granule
invariant-loop-granule l = BoxesFrom (boxes_of l.schema l.partition l.marks) l.chosen l.boxes l.granule
