-- the statements that ran, with their replies, and those that are left
use Rattle.std.proofs.Common.{◌≡◌, ◌+◌, ◌≤◌, ◌++◌, All, List, length, vec_capacity, reverse}
use Rattle.mt_values.specs.Script.{Item}
use Rattle.replies.specs.mt_model.Written.{IsWritten}
use Rattle.session.specs.Runs.{RanEach}
use Rattle.session.specs.Answers.{having}
use Rattle.session.proofs.sessions.run_session.Given as goal

abbrev pub invariant-statements : goal.invariant-statements
invariant-statements g l = record {
  ran : (done : List Item) × (done ++ reverse l.statements.items ≡ reverse l.initial.statements.items)
      × RanEach g.F.Dir.files g.B.Names.given g.B.Room.before g.B.Names.opening g.B.Names.ledgers.parts done l.replies.items (having l.initial.seat l.initial.share (g.R.Arm.failed l.initial.arm)) (having l.seat l.share (g.R.Arm.failed l.arm));
  written : All IsWritten (reverse l.statements.items);
  room : length l.statements.items + length l.replies.items ≤ vec_capacity l.replies;
  tells : g.R.Arm.tells l.arm ≡ g.R.Arm.tells l.initial.arm;
}

abbrev pub decreases-statements : goal.decreases-statements
decreases-statements g l = length l.statements.items
