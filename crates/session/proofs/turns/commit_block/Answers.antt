use Rattle.std.proofs.Common.{Some, inl, inr, refl, ap, arith}
use Rattle.merge_workers.specs.shared_store.part_writer.declared.writing.SealedPart.{SealedPart}
use Rattle.merge_workers.specs.shared_store.Tallies.{Tally}
use Rattle.session.specs.Lapses.{Never}
use Rattle.session.specs.Answers.{having}
use Rattle.session.proofs.Accounting.{arm_stays}
use Rattle.session.proofs.Answering.{accounts_added, accounts_ended, accounts_refused, accounts_without, added_stays, disk_alone, looked_stays, no_rise, stays_itself}
use Rattle.session.proofs.Commits.{back_calm, block_accepted, block_counts, block_refused, turn_ended}
use Rattle.session.proofs.OnceStopped.{ended_stopped, enter_not_failed, enter_stopped, unless_disk}
use Rattle.session.proofs.Tries.{block_tries, block_tries_ended}
use Rattle.session.proofs.turns.commit_block.Goals as goal

-- memory ran out before its turn
pub returns-in-Err-clause-turn : goal.returns-in-Err-clause-turn
returns-in-Err-clause-turn g c = λ schema there. inl refl

pub returns-in-Err-clause-accounts : goal.returns-in-Err-clause-accounts
returns-in-Err-clause-accounts g c =
    let calm = c.give_back_part.ensures.none_failed c.requires.none_failed in
    let seat = c.args.seat.now in
    let share = c.args.share.now in
    accounts_without g.B.Names.opening g.B.Names.ledgers.parts (having seat share (g.R.Arm.failed c.args.arm.now)) (having seat share (g.R.Arm.failed c.give_back_part.new.arm)) Never (omega (arith, calm)) _ calm refl

pub returns-in-Err-clause-stays : goal.returns-in-Err-clause-stays
returns-in-Err-clause-stays g c =
    let calm = c.give_back_part.ensures.none_failed c.requires.none_failed in
    stays_itself g.B.Names.opening g.B.Names.ledgers.parts c.args.seat.now c.args.share.now (g.R.Arm.failed c.args.arm.now) (g.R.Arm.failed c.give_back_part.new.arm) c.requires.session c.requires.own (omega (arith, calm))

pub returns-in-Err-clause-arm : goal.returns-in-Err-clause-arm
returns-in-Err-clause-arm g c = arm_stays g.R.Arm c.args.arm.now c.give_back_part.new.arm c.give_back_part.ensures.tells (c.give_back_part.ensures.none_failed c.requires.none_failed)

-- the part was added
pub returns-in-Ok-insert-clause-turn : goal.returns-in-Ok-insert-clause-turn
returns-in-Ok-insert-clause-turn g c = λ schema there.
    let e = c.in-Ok-insert.ensures in
    let arm = g.R.Arm.failed c.args.arm.now in
    block_accepted g.F.Dir.files g.B.Names.given g.B.Room.before g.B.Names.opening g.B.Names.ledgers.parts e.turn.0 c.args.table.now schema c.args.sealed.block c.args.accepted c.args.seat.now c.insert.new.seat c.args.share.now c.insert.new.share arm arm c.args.sealed.part.sealed.failed there
    c.in-Ok-insert.length e.turn.1 c.fill.result c.fill.ensures

pub returns-in-Ok-insert-clause-accounts : goal.returns-in-Ok-insert-clause-accounts
returns-in-Ok-insert-clause-accounts g c =
    let arm = g.R.Arm.failed c.args.arm.now in
    let turn = c.in-Ok-insert.ensures.turn.1.turn in
    accounts_added g.B.Names.opening g.B.Names.ledgers.parts (having c.args.seat.now c.args.share.now arm) (having c.insert.new.seat c.insert.new.share arm) Never (omega arith) _ _ _ turn.counted c.requires.none_failed c.fill.result c.in-Ok-insert.length c.fill.ensures

pub returns-in-Ok-insert-clause-stays : goal.returns-in-Ok-insert-clause-stays
returns-in-Ok-insert-clause-stays g c =
    let e = c.in-Ok-insert.ensures in
    let arm = g.R.Arm.failed c.args.arm.now in
    let share = c.args.share.now in
    added_stays g.B.Names.opening g.B.Names.ledgers.parts share c.insert.new.share arm arm 0 _ e.turn.1.turn.counted.rise e.turn.1.turn.counted.counted (omega arith) (omega arith) c.args.seat.now c.insert.new.seat e.turn.0 _ refl c.requires.own e.turn.1.seat.0

pub returns-in-Ok-insert-clause-arm : goal.returns-in-Ok-insert-clause-arm
returns-in-Ok-insert-clause-arm g c = arm_stays g.R.Arm c.args.arm.now c.args.arm.now refl refl

-- it was not
pub returns-in_ok-reply-in-Err-insert-clause-turn : goal.returns-in_ok-reply-in-Err-insert-clause-turn
returns-in_ok-reply-in-Err-insert-clause-turn g c = λ schema there.
    let e = c.in-Err-insert.ensures in
    let share = c.args.share.now in
    block_refused g.F.Dir.files g.B.Names.given g.B.Room.before g.B.Names.opening g.B.Names.ledgers.parts e.turn.0 c.args.table.now schema c.args.sealed.block c.args.accepted c.args.seat.now c.insert.new.seat share c.insert.new.share
    (g.R.Arm.failed c.args.arm.now) (g.R.Arm.failed c.give_back_part-in-Err-insert.new.arm) c.args.sealed.part.sealed.failed there c.in-Err-insert.field-0 e.turn.1 c.in_ok-reply-in-Err-insert.reply c.in_ok-reply-in-Err-insert.ensures.line

pub returns-in_ok-reply-in-Err-insert-clause-accounts : goal.returns-in_ok-reply-in-Err-insert-clause-accounts
returns-in_ok-reply-in-Err-insert-clause-accounts g c =
    let e = c.in-Err-insert.ensures in
    let r = c.in-Err-insert.field-0 in
    let back = back_calm (λ (p : SealedPart g.row.R-Stage.Denot). p.sealed.failed) c.args.sealed.part r.back e.back.same c.requires.none_failed in
    let calm = c.give_back_part-in-Err-insert.ensures.none_failed back in
    let may = c.requires.may in
    let share = c.args.share.now in
    accounts_refused g.B.Names.opening g.B.Names.ledgers.parts (having c.args.seat.now c.args.share.now (g.R.Arm.failed c.args.arm.now)) (having c.insert.new.seat c.insert.new.share (g.R.Arm.failed c.give_back_part-in-Err-insert.new.arm)) Never (omega (arith, calm))
    c.args.accepted c.args.table.now r.cause c.in_ok-reply-in-Err-insert.reply c.in_ok-reply-in-Err-insert.ensures.line (ap (λ (t : Tally). t.stops) e.turn.1.turn.counted.counted)
    (block_counts g.F.Dir.files g.B.Names.given g.B.Room.before g.B.Names.opening g.B.Names.ledgers.parts e.turn.0 c.args.table.now may.schema c.args.sealed.block c.args.accepted c.args.seat.now c.insert.new.seat share c.insert.new.share
    (g.R.Arm.failed c.args.arm.now) (g.R.Arm.failed c.give_back_part-in-Err-insert.new.arm) c.args.sealed.part.sealed.failed may.there r e.turn.1 c.requires.none_failed c.in_ok-reply-in-Err-insert.reply c.in_ok-reply-in-Err-insert.ensures.line)

pub returns-in_ok-reply-in-Err-insert-clause-stays : goal.returns-in_ok-reply-in-Err-insert-clause-stays
returns-in_ok-reply-in-Err-insert-clause-stays g c =
    let e = c.in-Err-insert.ensures in
    let r = c.in-Err-insert.field-0 in
    let back = back_calm (λ (p : SealedPart g.row.R-Stage.Denot). p.sealed.failed) c.args.sealed.part r.back e.back.same c.requires.none_failed in
    let calm = c.give_back_part-in-Err-insert.ensures.none_failed back in
    let share = c.args.share.now in
    looked_stays g.B.Names.opening g.B.Names.ledgers.parts share c.insert.new.share (g.R.Arm.failed c.args.arm.now) (g.R.Arm.failed c.give_back_part-in-Err-insert.new.arm) _ _ e.turn.1.turn.counted.rise e.turn.1.turn.counted.counted (omega arith) (omega (arith, calm))
    c.args.seat.now c.insert.new.seat e.turn.0 e.turn.1.seat

pub returns-in_ok-reply-in-Err-insert-clause-arm : goal.returns-in_ok-reply-in-Err-insert-clause-arm
returns-in_ok-reply-in-Err-insert-clause-arm g c =
    let back = back_calm (λ (p : SealedPart g.row.R-Stage.Denot). p.sealed.failed) c.args.sealed.part c.in-Err-insert.field-0.back c.in-Err-insert.ensures.back.same c.requires.none_failed in
    arm_stays g.R.Arm c.args.arm.now c.give_back_part-in-Err-insert.new.arm c.give_back_part-in-Err-insert.ensures.tells (c.give_back_part-in-Err-insert.ensures.none_failed back)

-- memory ran out
pub returns-in_err-reply-in-Err-insert-clause-turn : goal.returns-in_err-reply-in-Err-insert-clause-turn
returns-in_err-reply-in-Err-insert-clause-turn g c = λ schema there.
    turn_ended g.B.Names.given g.B.Room.before g.B.Names.opening g.B.Names.ledgers.parts _ c.args.accepted
    (having c.args.seat.now c.args.share.now (g.R.Arm.failed c.args.arm.now)) (having c.insert.new.seat c.insert.new.share (g.R.Arm.failed c.give_back_part-in-Err-insert.new.arm)) c.in-Err-insert.ensures.turn.0 _ c.in-Err-insert.ensures.turn.1.seat
    c.from_residual.result c.from_residual.ensures.0

pub returns-in_err-reply-in-Err-insert-clause-accounts : goal.returns-in_err-reply-in-Err-insert-clause-accounts
returns-in_err-reply-in-Err-insert-clause-accounts g c =
    let e = c.in-Err-insert.ensures in
    let r = c.in-Err-insert.field-0 in
    let back = back_calm (λ (p : SealedPart g.row.R-Stage.Denot). p.sealed.failed) c.args.sealed.part r.back e.back.same c.requires.none_failed in
    let calm = c.give_back_part-in-Err-insert.ensures.none_failed back in
    accounts_ended g.B.Names.opening g.B.Names.ledgers.parts (having c.args.seat.now c.args.share.now (g.R.Arm.failed c.args.arm.now)) (having c.insert.new.seat c.insert.new.share (g.R.Arm.failed c.give_back_part-in-Err-insert.new.arm)) Never calm (no_rise _ _ _ (Some r.cause) c.args.share.now c.insert.new.share e.turn.1.turn.counted c.requires.none_failed (disk_alone r.cause c.in_err-reply-in-Err-insert.ensures.disk)) c.from_residual.result c.from_residual.ensures.0

pub returns-in_err-reply-in-Err-insert-clause-stays : goal.returns-in_err-reply-in-Err-insert-clause-stays
returns-in_err-reply-in-Err-insert-clause-stays g c =
    let e = c.in-Err-insert.ensures in
    let r = c.in-Err-insert.field-0 in
    let back = back_calm (λ (p : SealedPart g.row.R-Stage.Denot). p.sealed.failed) c.args.sealed.part r.back e.back.same c.requires.none_failed in
    let calm = c.give_back_part-in-Err-insert.ensures.none_failed back in
    let share = c.args.share.now in
    looked_stays g.B.Names.opening g.B.Names.ledgers.parts share c.insert.new.share (g.R.Arm.failed c.args.arm.now) (g.R.Arm.failed c.give_back_part-in-Err-insert.new.arm) _ _ e.turn.1.turn.counted.rise e.turn.1.turn.counted.counted (omega arith) (omega (arith, calm))
    c.args.seat.now c.insert.new.seat e.turn.0 e.turn.1.seat

pub returns-in_err-reply-in-Err-insert-clause-arm : goal.returns-in_err-reply-in-Err-insert-clause-arm
returns-in_err-reply-in-Err-insert-clause-arm g c =
    let back = back_calm (λ (p : SealedPart g.row.R-Stage.Denot). p.sealed.failed) c.args.sealed.part c.in-Err-insert.field-0.back c.in-Err-insert.ensures.back.same c.requires.none_failed in
    arm_stays g.R.Arm c.args.arm.now c.give_back_part-in-Err-insert.new.arm c.give_back_part-in-Err-insert.ensures.tells (c.give_back_part-in-Err-insert.ensures.none_failed back)

-- what a store that was stopped before comes to
pub returns-in-Err-clause-stopped : goal.returns-in-Err-clause-stopped
returns-in-Err-clause-stopped g c = λ some. (refl, tt)

pub returns-in-Ok-insert-clause-stopped : goal.returns-in-Ok-insert-clause-stopped
returns-in-Ok-insert-clause-stopped g c = λ some.
    let e = c.in-Ok-insert.ensures in
    let may = c.requires.may in
    absurd (enter_stopped g.F.Dir.files g.B.Names.given g.B.Room.before g.B.Names.opening g.B.Names.ledgers.parts e.turn.0 c.args.table.now may.schema c.args.sealed.block c.args.seat.now c.insert.new.seat c.args.share.now c.insert.new.share c.args.sealed.part.sealed.failed may.there some c.in-Ok-insert.length e.turn.1)

pub returns-in_ok-reply-in-Err-insert-clause-stopped : goal.returns-in_ok-reply-in-Err-insert-clause-stopped
returns-in_ok-reply-in-Err-insert-clause-stopped g c = λ some.
    let e = c.in-Err-insert.ensures in
    let r = c.in-Err-insert.field-0 in
    let may = c.requires.may in
    let no = enter_not_failed g.F.Dir.files g.B.Names.given g.B.Room.before g.B.Names.opening g.B.Names.ledgers.parts e.turn.0 c.args.table.now may.schema c.args.sealed.block c.args.seat.now c.insert.new.seat c.args.share.now c.insert.new.share c.args.sealed.part.sealed.failed may.there some r e.turn.1 in
    (e.turn.1.seat.kept, unless_disk c.args.accepted c.args.table.now r.cause c.in_ok-reply-in-Err-insert.reply c.in_ok-reply-in-Err-insert.ensures.line no)

pub returns-in_err-reply-in-Err-insert-clause-stopped : goal.returns-in_err-reply-in-Err-insert-clause-stopped
returns-in_err-reply-in-Err-insert-clause-stopped g c =
    ended_stopped (having c.args.seat.now c.args.share.now (g.R.Arm.failed c.args.arm.now)) (having c.insert.new.seat c.insert.new.share (g.R.Arm.failed c.give_back_part-in-Err-insert.new.arm)) c.in-Err-insert.ensures.turn.1.seat.kept
    c.from_residual.result c.from_residual.ensures.0

-- what it tried
pub returns-in-Err-clause-tries : goal.returns-in-Err-clause-tries
returns-in-Err-clause-tries g c = λ schema there. inl (inl (refl, refl))

pub returns-in-Ok-insert-clause-tries : goal.returns-in-Ok-insert-clause-tries
returns-in-Ok-insert-clause-tries g c = λ schema there. inl (inr c.in-Ok-insert.ensures.turn.1.seat.0.tried)

pub returns-in_ok-reply-in-Err-insert-clause-tries : goal.returns-in_ok-reply-in-Err-insert-clause-tries
returns-in_ok-reply-in-Err-insert-clause-tries g c = λ schema there.
    let e = c.in-Err-insert.ensures in
    let r = c.in-Err-insert.field-0 in
    let share = c.args.share.now in
    block_tries g.F.Dir.files g.B.Names.given g.B.Room.before g.B.Names.opening g.B.Names.ledgers.parts e.turn.0 c.args.table.now schema c.args.sealed.block c.args.accepted c.args.seat.now c.insert.new.seat share c.insert.new.share (g.R.Arm.failed c.args.arm.now)
    (g.R.Arm.failed c.give_back_part-in-Err-insert.new.arm) c.args.sealed.part.sealed.failed there r e.turn.1 c.args.sealed.part e.back c.in_ok-reply-in-Err-insert.reply c.in_ok-reply-in-Err-insert.ensures.line

pub returns-in_err-reply-in-Err-insert-clause-tries : goal.returns-in_err-reply-in-Err-insert-clause-tries
returns-in_err-reply-in-Err-insert-clause-tries g c = λ schema there.
    let e = c.in-Err-insert.ensures in
    let r = c.in-Err-insert.field-0 in
    let share = c.args.share.now in
    block_tries_ended g.F.Dir.files g.B.Names.given g.B.Room.before g.B.Names.opening g.B.Names.ledgers.parts e.turn.0 c.args.table.now schema c.args.sealed.block c.args.accepted c.args.seat.now c.insert.new.seat share c.insert.new.share (g.R.Arm.failed c.args.arm.now)
    (g.R.Arm.failed c.give_back_part-in-Err-insert.new.arm) c.args.sealed.part.sealed.failed there r e.turn.1 c.args.sealed.part e.back c.from_residual.result c.from_residual.ensures.0 c.in_err-reply-in-Err-insert.ensures.disk
