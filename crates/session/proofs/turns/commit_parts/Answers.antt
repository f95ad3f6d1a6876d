use Rattle.std.proofs.Common.{◌≡◌, ℕ, List, [], ◌∷◌, Some, Ok, Err, length, inl, inr, refl, ap, ◌∙◌, subst, arith}
use Rattle.mt_values.specs.declared.schema.Schema.{Schema}
use Rattle.mt_values.specs.declared.statement.Statement.TheVariants as statement
use Rattle.replies.specs.Foreseen.{AgreesWith, is_unsettled}
use Rattle.merge_workers.specs.shared_store.Sharing.{schema_there}
use Rattle.merge_workers.specs.shared_store.Tallies.{Tally}
use Rattle.session.specs.declared.sealing.SealedBlock.{SealedBlock}
use Rattle.session.specs.declared.turns.TurnReply.{TurnReply}
use Rattle.session.specs.declared.turns.TurnReply.TheVariants.{Refused}
use Rattle.session.specs.Lapses.{Never}
use Rattle.session.specs.Answers.{AccountsAt, StaysStopped, TriesCommand, TurnAt, having, met_by}
use Rattle.session.specs.Turns.{NoneFailed, part_command, reply_in}
use Rattle.session.proofs.Accounting.{arm_stays, arm_stays_on}
use Rattle.session.proofs.Answering.{accepted_share, accounts_accepted, accounts_from, stays_arm, stays_here, stays_then}
use Rattle.session.proofs.Running.{may_enter, of_next, of_rest, ran_all, ran_counted, ran_ended, ran_none, ran_on, ran_refused, ran_tries, still_there}
use Rattle.session.proofs.turns.commit_parts.Goals as goal

pub turns-init : goal.turns-init
turns-init g c =
    let seat = c.args.seat.now in
    let share = c.args.share.now in
    let arm = g.R.Arm.failed c.args.arm.now in
    record {
      run = ran_none g.B.Names.given g.B.Room.before g.B.Names.opening g.B.Names.ledgers.parts c.args.table.now c.args.parts.items (having seat share arm) (stays_here g.B.Names.opening g.B.Names.ledgers.parts seat share arm c.requires.session c.requires.own);
      share = refl;
      kept = λ some. refl;
      tries = inl (refl, refl);
      reply = c.requires.unchanged;
      arm = arm_stays g.R.Arm c.args.arm.now c.args.arm.now refl refl;
    }

pub commit_block-requires-clause-session : goal.commit_block-requires-clause-session
commit_block-requires-clause-session g c κs within = c.turns.invariant.run.stays.session

pub commit_block-requires-clause-own : goal.commit_block-requires-clause-own
commit_block-requires-clause-own g c κs within = c.turns.invariant.run.stays.own_is

pub commit_block-requires-clause-parts : goal.commit_block-requires-clause-parts
commit_block-requires-clause-parts g c κs within = let same = c.turns.invariant.run.stays.parts in omega (arith, same, c.requires.parts)

pub commit_block-requires-clause-may : goal.commit_block-requires-clause-may
commit_block-requires-clause-may g c κs within =
    may_enter g.B.Names.given g.B.Room.before g.B.Names.opening g.B.Names.ledgers.parts c.args.table.now c.args.parts.items _ c.turns.parts.items _ c.turns.accepted c.turns.invariant.run c.pop.new.self.items c.in-Some.sealed c.in-Some.ensures.items c.requires.ready

pub commit_block-requires-clause-none_failed : goal.commit_block-requires-clause-none_failed
commit_block-requires-clause-none_failed g c κs within =
    of_next g.B.Names.given g.B.Room.before g.B.Names.opening g.B.Names.ledgers.parts c.args.table.now c.args.parts.items _ c.turns.parts.items _ c.turns.accepted c.turns.invariant.run c.pop.new.self.items c.in-Some.sealed c.in-Some.ensures.items NoneFailed c.requires.ready.none_failed

-- a part was added
pub overflow_add-accepted : goal.overflow_add-accepted
overflow_add-accepted g c =
    let few = ran_counted g.B.Names.given g.B.Room.before g.B.Names.opening g.B.Names.ledgers.parts c.args.table.now c.args.parts.items _ c.turns.parts.items _ c.turns.accepted c.turns.invariant.run c.pop.new.self.items c.in-Some.sealed c.in-Some.ensures.items in
    let small = c.args.parts.small in
    omega (arith, few, small)

pub turns-preserved : goal.turns-preserved
turns-preserved g c =
    let done = c.in-Ok-Accepted.ensures in
    let is = c.in-Ok-Accepted.field-0-is in
    let inv = c.turns.invariant in
    let old = having c.args.seat.now c.args.share.now (g.R.Arm.failed c.args.arm.now) in
    let here = having c.turns.seat c.turns.share (g.R.Arm.failed c.turns.arm) in
    let new = having c.commit_block.new.seat c.commit_block.new.share (g.R.Arm.failed c.commit_block.new.arm) in
    let turns = λ (schema : Schema) (there : schema_there g.B.Names.opening.tables c.turns.seat.list c.args.table.now ≡ Some schema). subst (λ (x : TurnReply). TurnAt g.B.Names.given g.B.Room.before g.B.Names.opening g.B.Names.ledgers.parts (part_command schema c.args.table.now c.in-Some.sealed) c.turns.accepted here new (Ok x)) is (done.turn schema there) in
    let may = c.requires.ready in
    let first = turns may.schema (still_there g.B.Names.given g.B.Room.before g.B.Names.opening g.B.Names.ledgers.parts c.args.table.now c.args.parts.items old c.turns.parts.items here c.turns.accepted inv.run may.schema may.there) in
    record {
      run = ran_on g.B.Names.given g.B.Room.before g.B.Names.opening g.B.Names.ledgers.parts c.args.table.now c.args.parts.items old c.turns.parts.items here c.turns.accepted inv.run c.pop.new.self.items c.in-Some.sealed c.in-Some.ensures.items new done.stays
          c.in-Ok-Accepted.line turns;
      share = accepted_share g.B.Names.opening g.B.Names.ledgers.parts here new Never c.in-Ok-Accepted.line _ first.2 (subst (λ (x : TurnReply). AccountsAt g.B.Names.opening g.B.Names.ledgers.parts here new Never (Ok (reply_in x))) is done.accounts) done.stays ∙ inv.share;
      kept = λ some. let stops = ap (λ (t : Tally). t.stops) inv.share in (done.stopped (omega (arith, some, stops))).0 ∙ inv.kept some;
      tries = inr first.1.tried;
      reply = first.2;
      arm = arm_stays_on g.R.Arm c.args.arm.now c.turns.arm c.commit_block.new.arm inv.arm done.arm.tells (done.arm.calm (λ no. no));
    }

-- a part was not, and no turn comes after
pub returns-in-Ok-Refused-clause-arm : goal.returns-in-Ok-Refused-clause-arm
returns-in-Ok-Refused-clause-arm g c =
    let rest = of_rest g.B.Names.given g.B.Room.before g.B.Names.opening g.B.Names.ledgers.parts c.args.table.now c.args.parts.items _ c.turns.parts.items _ c.turns.accepted c.turns.invariant.run c.pop.new.self.items c.in-Some.sealed c.in-Some.ensures.items NoneFailed c.requires.ready.none_failed in
    let on = arm_stays_on g.R.Arm c.args.arm.now c.turns.arm c.commit_block.new.arm c.turns.invariant.arm c.commit_block.ensures.arm.tells (c.commit_block.ensures.arm.calm (λ no. no)) in
    arm_stays_on g.R.Arm c.args.arm.now c.commit_block.new.arm c.give_back_parts.new.arm on c.give_back_parts.ensures.tells (c.give_back_parts.ensures.none_failed rest)

pub returns-in-Ok-Refused-clause-answers : goal.returns-in-Ok-Refused-clause-answers
returns-in-Ok-Refused-clause-answers g c = λ schema text from there gives nothing told known n a.
    let old = having c.args.seat.now c.args.share.now (g.R.Arm.failed c.args.arm.now) in
    let here = having c.turns.seat c.turns.share (g.R.Arm.failed c.turns.arm) in
    let after = g.R.Arm.failed c.commit_block.new.arm in
    let new = having c.commit_block.new.seat c.commit_block.new.share after in
    let run = c.turns.invariant.run in
    let rest = of_rest g.B.Names.given g.B.Room.before g.B.Names.opening g.B.Names.ledgers.parts c.args.table.now c.args.parts.items old c.turns.parts.items here c.turns.accepted run c.pop.new.self.items c.in-Some.sealed c.in-Some.ensures.items NoneFailed c.requires.ready.none_failed in
    let back = c.give_back_parts.ensures.none_failed rest in
    let at = still_there g.B.Names.given g.B.Room.before g.B.Names.opening g.B.Names.ledgers.parts c.args.table.now c.args.parts.items old c.turns.parts.items here c.turns.accepted run schema there in
    let turn = subst (λ (x : TurnReply). TurnAt g.B.Names.given g.B.Room.before g.B.Names.opening g.B.Names.ledgers.parts (part_command schema c.args.table.now c.in-Some.sealed) c.turns.accepted here new (Ok x)) c.in-Ok-Refused.field-0-is (c.in-Ok-Refused.ensures.turn schema at) in
    ran_refused g.B.Names.given g.B.Room.before g.B.Names.opening g.B.Names.ledgers.parts c.args.table.now c.args.parts.items old c.turns.parts.items here c.turns.accepted run c.pop.new.self.items c.in-Some.sealed c.in-Some.ensures.items new c.commit_block.ensures.stays
    schema there (statement.Insert text) gives from nothing c.in-Ok-Refused.line turn n
    (subst (λ (k : ℕ). AgreesWith (met_by g.B.Names.opening g.B.Names.ledgers.parts (having c.commit_block.new.seat c.commit_block.new.share k)) n) back a) told known

pub returns-in-Ok-Refused-clause-accounts : goal.returns-in-Ok-Refused-clause-accounts
returns-in-Ok-Refused-clause-accounts g c =
    let old = having c.args.seat.now c.args.share.now (g.R.Arm.failed c.args.arm.now) in
    let here = having c.turns.seat c.turns.share (g.R.Arm.failed c.turns.arm) in
    let after = g.R.Arm.failed c.commit_block.new.arm in
    let rest = of_rest g.B.Names.given g.B.Room.before g.B.Names.opening g.B.Names.ledgers.parts c.args.table.now c.args.parts.items old c.turns.parts.items here c.turns.accepted c.turns.invariant.run c.pop.new.self.items c.in-Some.sealed c.in-Some.ensures.items NoneFailed c.requires.ready.none_failed in
    accounts_from g.B.Names.opening g.B.Names.ledgers.parts old here c.commit_block.new.seat c.commit_block.new.share after (g.R.Arm.failed c.give_back_parts.new.arm) Never c.turns.invariant.share (c.turns.invariant.arm.calm (λ no. no)) (c.give_back_parts.ensures.none_failed rest) (Ok c.in-Ok-Refused.line)
    (subst (λ (x : TurnReply). AccountsAt g.B.Names.opening g.B.Names.ledgers.parts here (having c.commit_block.new.seat c.commit_block.new.share after) Never (Ok (reply_in x))) c.in-Ok-Refused.field-0-is c.in-Ok-Refused.ensures.accounts)

pub returns-in-Ok-Refused-clause-stays : goal.returns-in-Ok-Refused-clause-stays
returns-in-Ok-Refused-clause-stays g c =
    let old = having c.args.seat.now c.args.share.now (g.R.Arm.failed c.args.arm.now) in
    let here = having c.turns.seat c.turns.share (g.R.Arm.failed c.turns.arm) in
    let after = g.R.Arm.failed c.commit_block.new.arm in
    let rest = of_rest g.B.Names.given g.B.Room.before g.B.Names.opening g.B.Names.ledgers.parts c.args.table.now c.args.parts.items old c.turns.parts.items here c.turns.accepted c.turns.invariant.run c.pop.new.self.items c.in-Some.sealed c.in-Some.ensures.items NoneFailed c.requires.ready.none_failed in
    stays_arm g.B.Names.opening g.B.Names.ledgers.parts old c.commit_block.new.seat c.commit_block.new.share after (g.R.Arm.failed c.give_back_parts.new.arm) (c.give_back_parts.ensures.none_failed rest)
    (stays_then g.B.Names.opening g.B.Names.ledgers.parts old here (having c.commit_block.new.seat c.commit_block.new.share after) c.turns.invariant.run.stays c.commit_block.ensures.stays)

-- memory ran out
pub returns-in-Err-clause-arm : goal.returns-in-Err-clause-arm
returns-in-Err-clause-arm g c =
    let rest = of_rest g.B.Names.given g.B.Room.before g.B.Names.opening g.B.Names.ledgers.parts c.args.table.now c.args.parts.items _ c.turns.parts.items _ c.turns.accepted c.turns.invariant.run c.pop.new.self.items c.in-Some.sealed c.in-Some.ensures.items NoneFailed c.requires.ready.none_failed in
    let on = arm_stays_on g.R.Arm c.args.arm.now c.turns.arm c.commit_block.new.arm c.turns.invariant.arm c.commit_block.ensures.arm.tells (c.commit_block.ensures.arm.calm (λ no. no)) in
    arm_stays_on g.R.Arm c.args.arm.now c.commit_block.new.arm c.give_back_parts-in-Err.new.arm on c.give_back_parts-in-Err.ensures.tells (c.give_back_parts-in-Err.ensures.none_failed rest)

pub returns-in-Err-clause-answers : goal.returns-in-Err-clause-answers
returns-in-Err-clause-answers g c = λ schema text from there gives nothing told known n a.
    let old = having c.args.seat.now c.args.share.now (g.R.Arm.failed c.args.arm.now) in
    let here = having c.turns.seat c.turns.share (g.R.Arm.failed c.turns.arm) in
    let new = having c.commit_block.new.seat c.commit_block.new.share (g.R.Arm.failed c.commit_block.new.arm) in
    let run = c.turns.invariant.run in
    let at = still_there g.B.Names.given g.B.Room.before g.B.Names.opening g.B.Names.ledgers.parts c.args.table.now c.args.parts.items old c.turns.parts.items here c.turns.accepted run schema there in
    ran_ended g.B.Names.given g.B.Room.before g.B.Names.opening g.B.Names.ledgers.parts c.args.table.now c.args.parts.items old c.turns.parts.items here c.turns.accepted run c.pop.new.self.items c.in-Some.sealed c.in-Some.ensures.items new c.commit_block.ensures.stays
    schema there (statement.Insert text) gives from nothing c.in-Err.field-0 (c.in-Err.ensures.turn schema at) told known

pub returns-in-Err-clause-accounts : goal.returns-in-Err-clause-accounts
returns-in-Err-clause-accounts g c =
    let old = having c.args.seat.now c.args.share.now (g.R.Arm.failed c.args.arm.now) in
    let here = having c.turns.seat c.turns.share (g.R.Arm.failed c.turns.arm) in
    let after = g.R.Arm.failed c.commit_block.new.arm in
    let rest = of_rest g.B.Names.given g.B.Room.before g.B.Names.opening g.B.Names.ledgers.parts c.args.table.now c.args.parts.items old c.turns.parts.items here c.turns.accepted c.turns.invariant.run c.pop.new.self.items c.in-Some.sealed c.in-Some.ensures.items NoneFailed c.requires.ready.none_failed in
    accounts_from g.B.Names.opening g.B.Names.ledgers.parts old here c.commit_block.new.seat c.commit_block.new.share after (g.R.Arm.failed c.give_back_parts-in-Err.new.arm) Never c.turns.invariant.share (c.turns.invariant.arm.calm (λ no. no)) (c.give_back_parts-in-Err.ensures.none_failed rest) (Err c.in-Err.field-0) c.in-Err.ensures.accounts

pub returns-in-Err-clause-stays : goal.returns-in-Err-clause-stays
returns-in-Err-clause-stays g c =
    let old = having c.args.seat.now c.args.share.now (g.R.Arm.failed c.args.arm.now) in
    let here = having c.turns.seat c.turns.share (g.R.Arm.failed c.turns.arm) in
    let after = g.R.Arm.failed c.commit_block.new.arm in
    let rest = of_rest g.B.Names.given g.B.Room.before g.B.Names.opening g.B.Names.ledgers.parts c.args.table.now c.args.parts.items old c.turns.parts.items here c.turns.accepted c.turns.invariant.run c.pop.new.self.items c.in-Some.sealed c.in-Some.ensures.items NoneFailed c.requires.ready.none_failed in
    stays_arm g.B.Names.opening g.B.Names.ledgers.parts old c.commit_block.new.seat c.commit_block.new.share after (g.R.Arm.failed c.give_back_parts-in-Err.new.arm) (c.give_back_parts-in-Err.ensures.none_failed rest)
    (stays_then g.B.Names.opening g.B.Names.ledgers.parts old here (having c.commit_block.new.seat c.commit_block.new.share after) c.turns.invariant.run.stays c.commit_block.ensures.stays)

-- all were added
none_left : {S : Type 0} (parts : List (SealedBlock S)) → length parts ≡ 0 → parts ≡ []
none_left [] is = refl
none_left (s ∷ parts) is = cc

pub returns-clause-answers : goal.returns-clause-answers
returns-clause-answers g c = λ schema text from there gives nothing told known n a.
    let old = having c.args.seat.now c.args.share.now (g.R.Arm.failed c.args.arm.now) in
    let here = having c.turns.seat c.turns.share (g.R.Arm.failed c.turns.arm) in
    ran_all g.B.Names.given g.B.Room.before g.B.Names.opening g.B.Names.ledgers.parts c.args.table.now c.args.parts.items old c.turns.parts.items here c.turns.accepted c.turns.invariant.run schema there
    (none_left c.turns.parts.items (omega (arith, c.turns.parts.ok.0, c.in_default.ensures.cases.0))) (statement.Insert text) gives from nothing n c.turns.reply c.turns.invariant.reply told known

pub returns-clause-accounts : goal.returns-clause-accounts
returns-clause-accounts g c =
    let old = having c.args.seat.now c.args.share.now (g.R.Arm.failed c.args.arm.now) in
    let new = having c.turns.seat c.turns.share (g.R.Arm.failed c.turns.arm) in
    let calm = c.turns.invariant.arm.calm (λ no. no) in
    let share = c.turns.invariant.share in
    let stops = ap (λ (t : Tally). t.stops) share in
    accounts_accepted g.B.Names.opening g.B.Names.ledgers.parts old new Never (omega (arith, calm)) c.turns.reply _ c.turns.invariant.reply (omega (arith, stops)) (ap (λ (t : Tally). t.faults) share) (ap (λ (t : Tally). t.levels) share)

pub returns-clause-stays : goal.returns-clause-stays
returns-clause-stays g c = c.turns.invariant.run.stays

pub returns-clause-arm : goal.returns-clause-arm
returns-clause-arm g c = c.turns.invariant.arm

-- what a store that was stopped before comes to
pub returns-in-Ok-Refused-clause-stopped : goal.returns-in-Ok-Refused-clause-stopped
returns-in-Ok-Refused-clause-stopped g c = λ some.
    let inv = c.turns.invariant in
    let stops = ap (λ (t : Tally). t.stops) inv.share in
    let here = having c.turns.seat c.turns.share (g.R.Arm.failed c.turns.arm) in
    let new = having c.commit_block.new.seat c.commit_block.new.share (g.R.Arm.failed c.commit_block.new.arm) in
    let stopped = subst (λ (x : TurnReply). StaysStopped here new (Ok (reply_in x))) c.in-Ok-Refused.field-0-is c.in-Ok-Refused.ensures.stopped in
    let turn = stopped (omega (arith, some, stops)) in
    (turn.0 ∙ inv.kept some, turn.1)

pub returns-in-Err-clause-stopped : goal.returns-in-Err-clause-stopped
returns-in-Err-clause-stopped g c = λ some.
    let inv = c.turns.invariant in
    let stops = ap (λ (t : Tally). t.stops) inv.share in
    let turn = c.in-Err.ensures.stopped (omega (arith, some, stops)) in
    (turn.0 ∙ inv.kept some, tt)

pub returns-clause-stopped : goal.returns-clause-stopped
returns-clause-stopped g c = λ some. (c.turns.invariant.kept some, ap is_unsettled c.turns.invariant.reply)

-- what it tried
pub returns-in-Ok-Refused-clause-tries : goal.returns-in-Ok-Refused-clause-tries
returns-in-Ok-Refused-clause-tries g c = λ schema text from there gives nothing.
    let old = having c.args.seat.now c.args.share.now (g.R.Arm.failed c.args.arm.now) in
    let here = having c.turns.seat c.turns.share (g.R.Arm.failed c.turns.arm) in
    let new = having c.commit_block.new.seat c.commit_block.new.share (g.R.Arm.failed c.commit_block.new.arm) in
    let run = c.turns.invariant.run in
    let at = still_there g.B.Names.given g.B.Room.before g.B.Names.opening g.B.Names.ledgers.parts c.args.table.now c.args.parts.items old c.turns.parts.items here c.turns.accepted run schema there in
    let command = part_command schema c.args.table.now c.in-Some.sealed in
    let turn = subst (λ (x : TurnReply). TurnAt g.B.Names.given g.B.Room.before g.B.Names.opening g.B.Names.ledgers.parts command c.turns.accepted here new (Ok x)) c.in-Ok-Refused.field-0-is (c.in-Ok-Refused.ensures.turn schema at) in
    let tries = subst (λ (x : TurnReply). TriesCommand command here new (Ok (reply_in x))) c.in-Ok-Refused.field-0-is (c.in-Ok-Refused.ensures.tries schema at) in
    ran_tries g.B.Names.given g.B.Room.before g.B.Names.opening g.B.Names.ledgers.parts c.args.table.now c.args.parts.items old c.turns.parts.items here c.turns.accepted run c.pop.new.self.items c.in-Some.sealed c.in-Some.ensures.items new c.commit_block.ensures.stays
    schema there (statement.Insert text) gives from nothing (Ok (Refused c.in-Ok-Refused.line)) turn c.turns.invariant.tries tries

pub returns-in-Err-clause-tries : goal.returns-in-Err-clause-tries
returns-in-Err-clause-tries g c = λ schema text from there gives nothing.
    let old = having c.args.seat.now c.args.share.now (g.R.Arm.failed c.args.arm.now) in
    let here = having c.turns.seat c.turns.share (g.R.Arm.failed c.turns.arm) in
    let new = having c.commit_block.new.seat c.commit_block.new.share (g.R.Arm.failed c.commit_block.new.arm) in
    let run = c.turns.invariant.run in
    let at = still_there g.B.Names.given g.B.Room.before g.B.Names.opening g.B.Names.ledgers.parts c.args.table.now c.args.parts.items old c.turns.parts.items here c.turns.accepted run schema there in
    ran_tries g.B.Names.given g.B.Room.before g.B.Names.opening g.B.Names.ledgers.parts c.args.table.now c.args.parts.items old c.turns.parts.items here c.turns.accepted run c.pop.new.self.items c.in-Some.sealed c.in-Some.ensures.items new c.commit_block.ensures.stays
    schema there (statement.Insert text) gives from nothing (Err c.in-Err.field-0) (c.in-Err.ensures.turn schema at) c.turns.invariant.tries (c.in-Err.ensures.tries schema at)

pub returns-clause-tries : goal.returns-clause-tries
returns-clause-tries g c = λ schema text from there gives nothing. inl c.turns.invariant.tries
