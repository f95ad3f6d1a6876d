-- the expressions that are missing, and the tests that were counted
use Rattle.std.proofs.Common.{◌≤◌, ◌+◌}
use Rattle.mt_values.proofs.Parting.{IsMissing}
use Rattle.mt_values.proofs.conjuncts.ended_at.Given as goal

abbrev pub invariant-parts : goal.invariant-parts
invariant-parts l = record {
  low : l.start + l.tests ≤ l.end;
  missing : IsMissing l.joints l.end l.start l.missing l.tests;
}

abbrev pub decreases-parts : goal.decreases-parts
decreases-parts l = l.start
