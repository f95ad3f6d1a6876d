-- the session goes on, with the share that it had
use Rattle.std.proofs.Common.{◌≡◌}
use Rattle.session.specs.shared_store.history_seat.Turns.{IsSession}
use Rattle.session.specs.Answers.{KnowsOwn}
use Rattle.run_shared.proofs.say_all.Given as goal

abbrev pub invariant-loop-text : goal.invariant-loop-text
invariant-loop-text g l = record {
  session : IsSession l.seat;
  own_is : KnowsOwn l.seat;
  parts : l.share.parts ≡ l.initial.share.parts;
  out : l.share.out ≡ l.initial.share.out;
  tells : g.R.Arm.tells l.arm ≡ g.R.Arm.tells l.initial.arm;
}
