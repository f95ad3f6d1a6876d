-- none of the granules gone over has a row
use Rattle.part_reader.proofs.LeftGranules.{NoneBefore}
use Rattle.part_reader.proofs.part_rows.first_left.Given as goal

abbrev pub invariant-loop-granule : goal.invariant-loop-granule
invariant-loop-granule l = record {
  before : NoneBefore l.loaded l.chosen l.from l.granule;
}
