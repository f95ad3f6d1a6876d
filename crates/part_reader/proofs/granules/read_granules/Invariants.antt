-- rows were given, and the reader has the others still to come
use Rattle.mt_outside.specs.Leaves.{LeavesArm}
use Rattle.part_reader.specs.Readings.{count_left}
use Rattle.part_reader.proofs.LeftGranules.{HasGiven}
use Rattle.part_reader.proofs.granules.read_granules.Given as goal

abbrev pub invariant-given : goal.invariant-given
invariant-given g l = record {
  given : HasGiven g.R.Dir.Dir.files l.fn.part.loaded.schema l.fn.part l.fn.places l.fn.chosen l.reader l.rows.items;
  arm : LeavesArm g.R.Arm l.fn.arm l.arm ⊥;
}

abbrev pub decreases-given : goal.decreases-given
decreases-given g l = count_left l.reader
