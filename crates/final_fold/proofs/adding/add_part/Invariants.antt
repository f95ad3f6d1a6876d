-- rows were added, and the reader has the others still to come
use Rattle.mt_outside.specs.Leaves.{LeavesArm}
use Rattle.row_merge.specs.part_reader.Readings.{count_left}
use Rattle.final_fold.specs.Asked.{sifting_of_task}
use Rattle.final_fold.proofs.Added.{HasAdded}
use Rattle.final_fold.proofs.adding.add_part.Given as goal

abbrev pub invariant-granules : goal.invariant-granules
invariant-granules g l = record {
  added : HasAdded g.R.Dir.Dir.files (sifting_of_task l.fn.task) l.reader l.fn.columns l.columns l.count;
  arm : LeavesArm g.R.Arm l.fn.arm l.arm ⊥;
}

abbrev pub decreases-granules : goal.decreases-granules
decreases-granules g l = count_left l.reader.reading
