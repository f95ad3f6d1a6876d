use Rattle.std.proofs.Common.{◌+◌, ◌∙◌, drop, refl, subst, arith}
use Rattle.mt_values.specs.Script.{statements_of}
use Rattle.session.specs.Answers.{having}
use Rattle.session.proofs.RunsEach.{each_more, ran_one, stays_each}
use Rattle.mt_program.specs.Serving.{Output, Progress}
use Rattle.mt_program.proofs.SeatServed.{seat_served_all, seat_served_cut, seat_served_more, seat_served_none, seat_served_so_far, seat_served_unanswered}
use Rattle.mt_program.proofs.ServedScripts.{Found, Used, is_written, no_statement, nothing_left, one_statement, used_within}
use Rattle.mt_program.proofs.serving.serve_session.Goals as goal

pub statements-init : goal.statements-init
statements-init g c =
    let seat = c.args.seat.now in
    let share = c.args.share.now in
    let arm = g.R.Arm.failed c.args.arm.now in
    record {
      served = seat_served_none g.F.Dir.files g.B.Names.given g.B.Room.before g.B.Names.opening g.B.Names.ledgers.parts c.args.script.now c.none-tally.result (having seat share arm) (g.K.Sink.written c.args.sink.now) c.none-tally.ensures.refused c.none-tally.ensures.damaged;
      tells = refl;
      within = omega arith;
      sink_later = omega arith;
    }

-- the next statement is what the grammar gives, and the session goes on
pub run_statement-requires-clause-written : goal.run_statement-requires-clause-written
run_statement-requires-clause-written g c κs within =
    let found = subst (λ o. Found c.args.script.now c.statements.at o) c.in-Ok-Some.field-0-is c.in-Ok-Some.ensures.found in
    let left = one_statement c.args.script.now c.statements.at c.in-Ok-Some.found.1 c.in-Ok-Some.found.0 found in
    is_written (drop c.statements.at c.args.script.now) c.in-Ok-Some.found.0 (statements_of (drop (c.statements.at + c.in-Ok-Some.found.1) c.args.script.now)) left

pub run_statement-requires-clause-session : goal.run_statement-requires-clause-session
run_statement-requires-clause-session g c κs within = (stays_each _ _ _ _ _ _ _ _ _ c.requires.session c.requires.own c.statements.invariant.served.ran).session

pub run_statement-requires-clause-own : goal.run_statement-requires-clause-own
run_statement-requires-clause-own g c κs within = (stays_each _ _ _ _ _ _ _ _ _ c.requires.session c.requires.own c.statements.invariant.served.ran).own_is

pub run_statement-requires-clause-parts : goal.run_statement-requires-clause-parts
run_statement-requires-clause-parts g c κs within = let same = (stays_each _ _ _ _ _ _ _ _ _ c.requires.session c.requires.own c.statements.invariant.served.ran).parts in omega (arith, same, c.requires.parts)

pub run_statement-requires-clause-out : goal.run_statement-requires-clause-out
run_statement-requires-clause-out g c κs within = let same = (stays_each _ _ _ _ _ _ _ _ _ c.requires.session c.requires.own c.statements.invariant.served.ran).out in omega (arith, same, c.requires.out)

pub run_statement-requires-clause-tells : goal.run_statement-requires-clause-tells
run_statement-requires-clause-tells g c κs within = λ told. c.statements.invariant.tells ∙ c.requires.tells told

pub statements-preserved : goal.statements-preserved
statements-preserved g c =
    let old = having c.args.seat.now c.args.share.now (g.R.Arm.failed c.args.arm.now) in
    let here = having c.statements.seat c.statements.share (g.R.Arm.failed c.statements.arm) in
    let new = having c.run_statement.new.seat c.run_statement.new.share (g.R.Arm.failed c.run_statement.new.arm) in
    let at = c.statements.at in
    let st = c.in-Ok-Some.found.0 in
    let used = c.in-Ok-Some.found.1 in
    let found = subst (λ o. Found c.args.script.now at o) c.in-Ok-Some.field-0-is c.in-Ok-Some.ensures.found in
    let left = one_statement c.args.script.now at used st found in
    let progress : Progress = record { script = c.args.script.now; at = at; tally = c.statements.tally } in
    let output : Output = record { before = g.K.Sink.written c.args.sink.now; after = g.K.Sink.written c.statements.sink } in
    let s = c.statements.invariant.served in
    let said = c.in-Ok.ensures in
    record {
      served = seat_served_more g.F.Dir.files g.B.Names.given g.B.Room.before g.B.Names.opening g.B.Names.ledgers.parts progress old here output s used st left new c.in-Ok.reply
          (each_more g.F.Dir.files g.B.Names.given g.B.Room.before g.B.Names.opening g.B.Names.ledgers.parts s.done s.replies old here new st c.in-Ok.reply s.ran (ran_one g.F.Dir.files g.B.Names.given g.B.Room.before g.B.Names.opening g.B.Names.ledgers.parts st here new _ said.answers said.accounts said.shows said.stays said.stopped said.tries))
          c.in-Ok-write_reply.told c.in-Ok-write_reply.ensures.tally (g.K.Sink.written c.write_reply.new.sink) c.in-Ok-write_reply.ensures.all;
      tells = said.tells ∙ c.statements.invariant.tells;
      within = used_within c.args.script.now at used c.statements.invariant.within (subst (λ o. Used c.args.script.now at o) c.in-Ok-Some.field-0-is c.in-Ok-Some.ensures.used).1;
      sink_later = omega arith;
    }

-- nothing is left
pub returns-in-Ok-None-clause-run : goal.returns-in-Ok-None-clause-run
returns-in-Ok-None-clause-run g c =
    let none = subst (λ o. Found c.args.script.now c.statements.at o) c.in-Ok-None.field-0-is c.in-Ok-None.ensures.found in
    seat_served_all g.F.Dir.files g.B.Names.given g.B.Room.before g.B.Names.opening g.B.Names.ledgers.parts _ _ _ _ c.statements.invariant.served (no_statement c.args.script.now c.statements.at none)

pub returns-clause-run : goal.returns-clause-run
returns-clause-run g c = seat_served_all g.F.Dir.files g.B.Names.given g.B.Room.before g.B.Names.opening g.B.Names.ledgers.parts _ _ _ _ c.statements.invariant.served (nothing_left c.args.script.now c.statements.at (omega arith))

-- the next statement was not read, or had no reply, or its reply was not written whole
pub returns-in-Err-clause-run : goal.returns-in-Err-clause-run
returns-in-Err-clause-run g c = seat_served_so_far g.F.Dir.files g.B.Names.given g.B.Room.before g.B.Names.opening g.B.Names.ledgers.parts _ _ _ _ c.statements.invariant.served

pub returns-in-Err-run_statement-clause-run : goal.returns-in-Err-run_statement-clause-run
returns-in-Err-run_statement-clause-run g c =
    let old = having c.args.seat.now c.args.share.now (g.R.Arm.failed c.args.arm.now) in
    let here = having c.statements.seat c.statements.share (g.R.Arm.failed c.statements.arm) in
    let new = having c.run_statement.new.seat c.run_statement.new.share (g.R.Arm.failed c.run_statement.new.arm) in
    let st = c.in-Ok-Some.found.0 in
    let used = c.in-Ok-Some.found.1 in
    let found = subst (λ o. Found c.args.script.now c.statements.at o) c.in-Ok-Some.field-0-is c.in-Ok-Some.ensures.found in
    let left = one_statement c.args.script.now c.statements.at used st found in
    let s = c.statements.invariant.served in
    let said = c.in-Err-run_statement.ensures in
    seat_served_unanswered g.F.Dir.files g.B.Names.given g.B.Room.before g.B.Names.opening g.B.Names.ledgers.parts _ old here _ s used st left new
    (here, s.ran, (c.in-Err-run_statement.field-0, ran_one g.F.Dir.files g.B.Names.given g.B.Room.before g.B.Names.opening g.B.Names.ledgers.parts st here new _ said.answers said.accounts said.shows said.stays said.stopped said.tries))

pub returns-in-Err-write_reply-clause-run : goal.returns-in-Err-write_reply-clause-run
returns-in-Err-write_reply-clause-run g c =
    let old = having c.args.seat.now c.args.share.now (g.R.Arm.failed c.args.arm.now) in
    let here = having c.statements.seat c.statements.share (g.R.Arm.failed c.statements.arm) in
    let new = having c.run_statement.new.seat c.run_statement.new.share (g.R.Arm.failed c.run_statement.new.arm) in
    let st = c.in-Ok-Some.found.0 in
    let used = c.in-Ok-Some.found.1 in
    let found = subst (λ o. Found c.args.script.now c.statements.at o) c.in-Ok-Some.field-0-is c.in-Ok-Some.ensures.found in
    let left = one_statement c.args.script.now c.statements.at used st found in
    let progress : Progress = record { script = c.args.script.now; at = c.statements.at; tally = c.statements.tally } in
    let output : Output = record { before = g.K.Sink.written c.args.sink.now; after = g.K.Sink.written c.statements.sink } in
    let s = c.statements.invariant.served in
    let said = c.in-Ok.ensures in
    seat_served_cut g.F.Dir.files g.B.Names.given g.B.Room.before g.B.Names.opening g.B.Names.ledgers.parts progress old here output s used st left new c.in-Ok.reply
    (each_more g.F.Dir.files g.B.Names.given g.B.Room.before g.B.Names.opening g.B.Names.ledgers.parts s.done s.replies old here new st c.in-Ok.reply s.ran (ran_one g.F.Dir.files g.B.Names.given g.B.Room.before g.B.Names.opening g.B.Names.ledgers.parts st here new _ said.answers said.accounts said.shows said.stays said.stopped said.tries))
    (g.K.Sink.written c.write_reply.new.sink) c.in-Err-write_reply.ensures.front
