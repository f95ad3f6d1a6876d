-- the parts that are left, and the arm's count of faults
use Rattle.std.proofs.Common.{◌≡◌, ◌≤◌, All, length}
use Rattle.session.specs.Turns.{NoneFailed, in_turn}
use Rattle.session.proofs.sealing.give_back_parts.Given as goal

abbrev pub invariant-parts : goal.invariant-parts
invariant-parts g l = record {
  left : All NoneFailed (in_turn l.initial.parts.items) → All NoneFailed (in_turn l.parts.items);
  tells : g.R.Arm.tells l.arm ≡ g.R.Arm.tells l.initial.arm;
  calm : All NoneFailed (in_turn l.initial.parts.items) → g.R.Arm.failed l.arm ≡ g.R.Arm.failed l.initial.arm;
  later : g.R.Arm.failed l.initial.arm ≤ g.R.Arm.failed l.arm;
}

abbrev pub decreases-parts : goal.decreases-parts
decreases-parts g l = length l.parts.items
