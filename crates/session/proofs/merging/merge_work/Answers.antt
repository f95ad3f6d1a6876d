use Rattle.std.proofs.Common.{ap, arith}
use Rattle.merge_workers.specs.shared_store.Tallies.{Tally}
use Rattle.session.proofs.Merges.{unread_ended, unread_merges, work_done, work_ended, work_gone, work_refused}
use Rattle.session.proofs.merging.merge_work.Goals as goal

-- it was put
pub returns-in-Done-clause-merges : goal.returns-in-Done-clause-merges
returns-in-Done-clause-merges g c =
    let e = c.in-Done.ensures in
    work_done g.F.Dir.files g.B.Names.given g.B.Room.before g.B.Names.opening e.turn.0 g.B.Names.ledgers.parts c.args.share.now c.carry_out.new.share c.args.work.taken _ (g.R.Arm.failed c.args.arm.now) (g.R.Arm.failed c.carry_out.new.arm) (e.arm.calm (λ no. no)) _ _ _ e.turn.1

-- a part was gone
pub returns-in-Gone-clause-merges : goal.returns-in-Gone-clause-merges
returns-in-Gone-clause-merges g c =
    let e = c.in-Gone.ensures in
    work_gone g.F.Dir.files g.B.Names.given g.B.Room.before g.B.Names.opening e.turn.0 g.B.Names.ledgers.parts c.args.share.now c.carry_out.new.share c.args.work.taken _ (g.R.Arm.failed c.args.arm.now) (g.R.Arm.failed c.carry_out.new.arm) (e.arm.calm (λ no. no)) _ _ _ c.in-Gone.field-0 e.turn.1

-- its commit was refused
pub returns-in_ok-reply-in-Refused-clause-merges : goal.returns-in_ok-reply-in-Refused-clause-merges
returns-in_ok-reply-in-Refused-clause-merges g c =
    let e = c.in-Refused.ensures in
    work_refused g.F.Dir.files g.B.Names.given g.B.Room.before g.B.Names.opening e.turn.0 g.B.Names.ledgers.parts c.args.share.now c.carry_out.new.share c.args.work.taken c.in-Refused.cause _ e.turn.1
    (g.R.Arm.failed c.args.arm.now) (g.R.Arm.failed c.carry_out.new.arm) (e.arm.calm (λ no. no)) _ _ _ c.args.table.now c.in_ok-reply-in-Refused.reply c.in_ok-reply-in-Refused.ensures.line

pub returns-in_err-reply-in-Refused-clause-merges : goal.returns-in_err-reply-in-Refused-clause-merges
returns-in_err-reply-in-Refused-clause-merges g c =
    let e = c.in-Refused.ensures in
    work_ended g.F.Dir.files g.B.Names.given g.B.Room.before g.B.Names.opening e.turn.0 g.B.Names.ledgers.parts c.args.share.now c.carry_out.new.share c.args.work.taken c.in-Refused.cause _ e.turn.1
    (g.R.Arm.failed c.args.arm.now) (g.R.Arm.failed c.carry_out.new.arm) (e.arm.calm (λ no. no)) _ _ _ c.in_err-reply-in-Refused.ensures.disk c.from_residual.result c.from_residual.ensures.0

-- a part was not read, or nothing was sealed
pub returns-in_ok-reply-in-Unread-clause-merges : goal.returns-in_ok-reply-in-Unread-clause-merges
returns-in_ok-reply-in-Unread-clause-merges g c =
    let e = c.in-Unread.ensures in
    unread_merges g.F.Dir.files g.B.Names.given g.B.Room.before g.B.Names.opening g.B.Names.ledgers.parts c.args.share.now c.carry_out.new.share c.args.work.taken c.args.work.note.list c.taken.ensures.facts (g.R.Arm.failed c.args.arm.now) (g.R.Arm.failed c.carry_out.new.arm) _ e.turn c.args.table.now c.requires.table
    c.in-Unread.part c.in-Unread.fault e.explained e.arm.later e.arm.fault _ _ c.in_ok-reply-in-Unread.reply c.in_ok-reply-in-Unread.ensures.line

pub returns-in_err-reply-in-Unread-clause-merges : goal.returns-in_err-reply-in-Unread-clause-merges
returns-in_err-reply-in-Unread-clause-merges g c =
    let e = c.in-Unread.ensures in
    unread_ended g.F.Dir.files g.B.Names.given g.B.Room.before g.B.Names.opening g.B.Names.ledgers.parts c.args.share.now c.carry_out.new.share c.args.work.taken c.args.work.note.list c.taken.ensures.facts (g.R.Arm.failed c.args.arm.now) (g.R.Arm.failed c.carry_out.new.arm) _ e.turn c.args.table.now c.requires.table
    c.in-Unread.part c.in-Unread.fault e.explained e.arm.later e.arm.fault _ _ (e.arm.calm c.in_err-reply-in-Unread.ensures.fault) c.from_residual-in_err-reply-in-Unread.result c.from_residual-in_err-reply-in-Unread.ensures.0

-- the share has one work less out, and the arm tells as before
pub returns-in-Done-clause-out : goal.returns-in-Done-clause-out
returns-in-Done-clause-out g c = let has = ap (λ (t : Tally). t.out) c.in-Done.ensures.turn.1.counted.counted in let some = c.requires.out in omega (arith, has, some)

pub returns-in-Done-clause-tells : goal.returns-in-Done-clause-tells
returns-in-Done-clause-tells g c = c.in-Done.ensures.arm.tells

pub returns-in-Gone-clause-out : goal.returns-in-Gone-clause-out
returns-in-Gone-clause-out g c = let has = ap (λ (t : Tally). t.out) c.in-Gone.ensures.turn.1.counted.counted in let some = c.requires.out in omega (arith, has, some)

pub returns-in-Gone-clause-tells : goal.returns-in-Gone-clause-tells
returns-in-Gone-clause-tells g c = c.in-Gone.ensures.arm.tells

pub returns-in_ok-reply-in-Refused-clause-out : goal.returns-in_ok-reply-in-Refused-clause-out
returns-in_ok-reply-in-Refused-clause-out g c = let has = ap (λ (t : Tally). t.out) c.in-Refused.ensures.turn.1.counted.counted in let some = c.requires.out in omega (arith, has, some)

pub returns-in_ok-reply-in-Refused-clause-tells : goal.returns-in_ok-reply-in-Refused-clause-tells
returns-in_ok-reply-in-Refused-clause-tells g c = c.in-Refused.ensures.arm.tells

pub returns-in_err-reply-in-Refused-clause-out : goal.returns-in_err-reply-in-Refused-clause-out
returns-in_err-reply-in-Refused-clause-out g c = let has = ap (λ (t : Tally). t.out) c.in-Refused.ensures.turn.1.counted.counted in let some = c.requires.out in omega (arith, has, some)

pub returns-in_err-reply-in-Refused-clause-tells : goal.returns-in_err-reply-in-Refused-clause-tells
returns-in_err-reply-in-Refused-clause-tells g c = c.in-Refused.ensures.arm.tells

pub returns-in_ok-reply-in-Unread-clause-out : goal.returns-in_ok-reply-in-Unread-clause-out
returns-in_ok-reply-in-Unread-clause-out g c = let has = ap (λ (t : Tally). t.out) c.in-Unread.ensures.turn in let some = c.requires.out in omega (arith, has, some)

pub returns-in_ok-reply-in-Unread-clause-tells : goal.returns-in_ok-reply-in-Unread-clause-tells
returns-in_ok-reply-in-Unread-clause-tells g c = c.in-Unread.ensures.arm.tells

pub returns-in_err-reply-in-Unread-clause-out : goal.returns-in_err-reply-in-Unread-clause-out
returns-in_err-reply-in-Unread-clause-out g c = let has = ap (λ (t : Tally). t.out) c.in-Unread.ensures.turn in let some = c.requires.out in omega (arith, has, some)

pub returns-in_err-reply-in-Unread-clause-tells : goal.returns-in_err-reply-in-Unread-clause-tells
returns-in_err-reply-in-Unread-clause-tells g c = c.in-Unread.ensures.arm.tells
