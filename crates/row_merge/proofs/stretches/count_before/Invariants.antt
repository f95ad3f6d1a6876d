-- the last of the rows that are counted comes before the other one, and a step more stays within those in memory
use Rattle.std.proofs.Common.{◌<◌, ◌≤◌, ◌+◌, ◌-◌, ◌*◌, length}
use Rattle.row_merge.specs.Stretches.{LeadsAt}
use Rattle.row_merge.proofs.stretches.count_before.Given as goal

abbrev pub invariant-steps : goal.invariant-steps
invariant-steps l = record {
  some : 0 < l.count;
  within : l.own.at + (l.count + l.step) ≤ length l.own.block.rows;
  leads : LeadsAt l.places l.own l.other l.tie (l.own.at + l.count - 1);
}

abbrev pub decreases-steps : goal.decreases-steps
decreases-steps l = 3 * (length l.own.block.rows - l.own.at - l.count) + l.step
