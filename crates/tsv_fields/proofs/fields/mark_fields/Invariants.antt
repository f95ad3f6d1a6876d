-- the bytes gone over are marked
use Rattle.std.proofs.Common.{◌-◌, length}
use Rattle.tsv_fields.proofs.MarkingRuns.{Marks}
use Rattle.tsv_fields.proofs.fields.mark_fields.Given as goal

abbrev pub invariant-marks : goal.invariant-marks
invariant-marks l = Marks l.text l.lines l.ends.items l.at

abbrev pub decreases-marks : goal.decreases-marks
decreases-marks l = length l.text - l.at
