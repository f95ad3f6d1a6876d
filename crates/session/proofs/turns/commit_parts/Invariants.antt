-- the turns that were taken, the last reply, and the arm
use Rattle.std.proofs.Common.{◌≡◌, ◌<◌, length}
use Rattle.mt_outside.specs.Leaves.{LeavesArm}
use Rattle.replies.specs.mt_model.Reply.{ok_line}
use Rattle.session.specs.Answers.{TriesNone, having, place_of}
use Rattle.session.proofs.Running.{Ran}
use Rattle.session.proofs.turns.commit_parts.Given as goal

abbrev pub invariant-turns : goal.invariant-turns
invariant-turns g l = record {
  run : Ran g.B.Names.given g.B.Room.before g.B.Names.opening g.B.Names.ledgers.parts l.table l.initial.parts.items l.parts.items
      (having l.initial.seat l.initial.share (g.R.Arm.failed l.initial.arm)) (having l.seat l.share (g.R.Arm.failed l.arm)) l.accepted;
  share : l.share ≡ l.initial.share;
  kept : 0 < l.initial.share.stops → l.seat.mine ≡ l.initial.seat.mine;
  tries : TriesNone (having l.initial.seat l.initial.share (g.R.Arm.failed l.initial.arm)) (having l.seat l.share (g.R.Arm.failed l.arm));
  reply : l.reply ≡ ok_line (place_of g.B.Room.before l.seat);
  arm : LeavesArm g.R.Arm l.initial.arm l.arm ⊥;
}

abbrev pub decreases-turns : goal.decreases-turns
decreases-turns g l = length l.parts.items
