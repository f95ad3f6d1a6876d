-- the statements up to the place were answered
use Rattle.std.proofs.Common.{◌≡◌, ◌≤◌, ◌-◌, length}
use Rattle.mt_program.specs.Serving.{Output, Progress}
use Rattle.session.specs.Answers.{having}
use Rattle.mt_program.proofs.SeatServed.{SeatServed}
use Rattle.mt_program.proofs.serving.serve_session.Given as goal

abbrev pub invariant-statements : goal.invariant-statements
invariant-statements g l =
    let progress : Progress = record { script = l.script; at = l.at; tally = l.tally } in
    let output : Output = record { before = g.K.Sink.written l.initial.sink; after = g.K.Sink.written l.sink } in
    record {
      served : SeatServed g.F.Dir.files g.B.Names.given g.B.Room.before g.B.Names.opening g.B.Names.ledgers.parts progress (having l.initial.seat l.initial.share (g.R.Arm.failed l.initial.arm)) (having l.seat l.share (g.R.Arm.failed l.arm)) output;
      tells : g.R.Arm.tells l.arm ≡ g.R.Arm.tells l.initial.arm;
      within : l.at ≤ length l.script;
      sink_later : g.K.Sink.failed l.initial.sink ≤ g.K.Sink.failed l.sink;
    }

abbrev pub decreases-statements : goal.decreases-statements
decreases-statements g l = length l.script - l.at
