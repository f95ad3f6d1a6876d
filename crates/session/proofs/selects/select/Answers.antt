use Rattle.std.proofs.lemmas.Result.{IfOk-weaker}
use Rattle.std.proofs.Common.{◌≡◌, ◌++◌, inl, ap, subst, arith}
use Rattle.replies.specs.mt_model.declared.refusal.Refusal.TheVariants as refusal
use Rattle.replies.specs.mt_model.Refusals.{is_damage, refusal_line}
use Rattle.replies.proofs.Causing.{says_script}
use Rattle.merge_workers.specs.shared_store.Handed.{Pins}
use Rattle.session.specs.Lapses.{still}
use Rattle.session.specs.Answers.{TellsOfPinned}
use Rattle.session.specs.Selects.{TellsOfDamage}
use Rattle.session.proofs.Accounting.{accounts_still, accounts_where}
use Rattle.session.proofs.SnapReplies.{pins_none, select_no_table, select_shown}
use Rattle.session.proofs.selects.select.Goals as goal

-- there is no such table
pub returns-in_default-clause-answers : goal.returns-in_default-clause-answers
returns-in_default-clause-answers g c = λ told known.
    let text = c.args.text.now in
    let now = c.snapshot.new.seat in
    let pins = subst (Pins g.F.Dir.files g.B.Names.given g.B.Room.before g.B.Names.opening now.list text.table) c.in_default.is c.in_ok-snap.ensures.snap in
    let none = pins_none g.F.Dir.files g.B.Names.given g.B.Room.before g.B.Names.opening now.list text.table pins told known in
    IfOk-weaker c.no_table_line.result _ _
    (λ line is. select_no_table g.F.Dir.files g.B.Room.before now.list c.args.seat.now now c.snapshot.ensures.looked c.requires.own text line (g.R.Arm.failed c.args.arm.now) none is) c.no_table_line.ensures

pub returns-in_default-clause-accounts : goal.returns-in_default-clause-accounts
returns-in_default-clause-accounts g c = λ opened disk.
    let text = c.args.text.now in
    let arm = g.R.Arm.failed c.args.arm.now in
    let why = refusal.NoTable text.table in
    accounts_still (TellsOfPinned g.F.Dir.files g.B.Names.given g.B.Room.before g.B.Names.opening c.snapshot.new.seat.list text) opened disk arm c.no_table_line.result (λ reply. reply ≡ refusal_line why) c.no_table_line.ensures
    (λ reply is. says_script opened disk disk arm arm reply why is (inl (omega arith))) (λ reply is. ap is_damage is)

-- a table has a schema that a table may have
pub scan-reply-requires-after_bounds : goal.scan-reply-requires-after_bounds
scan-reply-requires-after_bounds g c κs within =
    let pins = subst (Pins g.F.Dir.files g.B.Names.given g.B.Room.before g.B.Names.opening c.snapshot.new.seat.list c.args.text.now.table) c.in-Some.is c.in_ok-snap.ensures.snap in
    pins.1.schema

-- what is seen of the pinned table
pub returns-clause-answers : goal.returns-clause-answers
returns-clause-answers g c = λ told known.
    let text = c.args.text.now in
    let now = c.snapshot.new.seat in
    let pins = subst (Pins g.F.Dir.files g.B.Names.given g.B.Room.before g.B.Names.opening now.list text.table) c.in-Some.is c.in_ok-snap.ensures.snap in
    let shows = pins.1.shows told known in
    IfOk-weaker c.scan-reply.result _ _
    (λ reply from. select_shown g.F.Dir.files g.B.Room.before now.list c.args.seat.now now c.snapshot.ensures.looked c.requires.own text reply (g.R.Arm.failed c.scan-reply.new.arm) c.in-Some.snap shows from)
    (c.scan-reply.ensures.answers (g.B.Room.before ++ now.list) shows.store shows.stands shows.snap_is)

-- what accounts for it
pub returns-clause-accounts : goal.returns-clause-accounts
returns-clause-accounts g c = λ opened disk.
    let text = c.args.text.now in
    let now = c.snapshot.new.seat in
    let pins = subst (Pins g.F.Dir.files g.B.Names.given g.B.Room.before g.B.Names.opening now.list text.table) c.in-Some.is c.in_ok-snap.ensures.snap in
    accounts_where (still opened disk (g.R.Arm.failed c.args.arm.now) (g.R.Arm.failed c.scan-reply.new.arm)) (TellsOfDamage g.F.Dir.files c.in-Some.snap text)
    (TellsOfPinned g.F.Dir.files g.B.Names.given g.B.Room.before g.B.Names.opening now.list text) (λ reply tells. (c.in-Some.snap, pins.1, tells)) c.scan-reply.result (c.scan-reply.ensures.accounts opened disk)
