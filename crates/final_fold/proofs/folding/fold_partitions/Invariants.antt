-- what the partitions gone over had
use Rattle.std.proofs.Common.{◌-◌, ◌≤◌, List, length, take}
use Rattle.mt_outside.specs.Leaves.{LeavesArm}
use Rattle.mt_values.specs.Values.{Row}
use Rattle.row_merge.specs.MergedParts.{PartsHold}
use Rattle.row_merge.specs.Sinks.{GetsSome}
use Rattle.final_fold.specs.Folded.{AreOfPartitions, IsFolded, SkipNoFold, StandByPartition}
use Rattle.final_fold.specs.Founds.{GetsMatches, HasNone}
use Rattle.final_fold.specs.Scans.{joined_rows}
use Rattle.final_fold.proofs.PartitionRuns.{IsNew}
use Rattle.final_fold.proofs.folding.fold_partitions.Given as goal

abbrev pub invariant-loop-at : goal.invariant-loop-at
invariant-loop-at g l = record {
  values : (rows : List (List Row)) → StandByPartition l.parts → PartsHold g.R.Dir.Dir.files l.fn.found.wanted.schema.now l.parts rows → AreOfPartitions l.fn.found.wanted.schema.now l.parts rows → SkipNoFold l.fn.found.wanted l.chosen rows → HasNone l.fn.found
      → IsFolded l.fn.found.wanted (joined_rows (take l.at rows)) l.found.columns.items l.found.count;
  gets : GetsSome GetsMatches l.fn.found l.found;
  new : StandByPartition l.parts → IsNew l.parts l.at;
  within : l.at ≤ length l.parts;
  arm : LeavesArm g.R.Arm l.fn.arm l.arm ⊥;
}

abbrev pub decreases-loop-at : goal.decreases-loop-at
decreases-loop-at g l = length l.parts - l.at
