use Rattle.std.proofs.lemmas.Result.{IfOk-weaker}
use Rattle.std.proofs.Common.{◌≡◌, ◌++◌, inl, ap, subst, arith}
use Rattle.replies.specs.mt_model.declared.refusal.Refusal.TheVariants as refusal
use Rattle.replies.specs.mt_model.Refusals.{is_damage, refusal_line}
use Rattle.replies.proofs.Causing.{says_script}
use Rattle.merge_workers.specs.shared_store.Handed.{Pins}
use Rattle.session.specs.Lapses.{Never}
use Rattle.session.proofs.Accounting.{accounts_still}
use Rattle.session.proofs.SnapReplies.{counts_pinned, explain_no_table, explain_shown, pins_none}
use Rattle.session.proofs.explains.explain.Goals as goal

-- there is no such table
pub returns-in_default-clause-answers : goal.returns-in_default-clause-answers
returns-in_default-clause-answers g c = λ told known.
    let text = c.args.text.now in
    let now = c.snapshot.new.seat in
    let pins = subst (Pins g.F.Dir.files g.B.Names.given g.B.Room.before g.B.Names.opening now.list text.table) c.in_default.is c.in_ok-snap.ensures.snap in
    let none = pins_none g.F.Dir.files g.B.Names.given g.B.Room.before g.B.Names.opening now.list text.table pins told known in
    IfOk-weaker c.no_table_line.result _ _ (λ line is. explain_no_table g.F.Dir.files g.B.Room.before now.list c.args.seat.now now c.snapshot.ensures.looked c.requires.own text line none is) c.no_table_line.ensures

pub returns-in_default-clause-counts : goal.returns-in_default-clause-counts
returns-in_default-clause-counts g c = IfOk-weaker c.no_table_line.result _ _ (λ line is. inl (refusal.NoTable c.args.text.now.table, is)) c.no_table_line.ensures

pub returns-in_default-clause-accounts : goal.returns-in_default-clause-accounts
returns-in_default-clause-accounts g c = λ opened disk arm.
    let why = refusal.NoTable c.args.text.now.table in
    accounts_still Never opened disk arm c.no_table_line.result (λ reply. reply ≡ refusal_line why) c.no_table_line.ensures
    (λ reply is. says_script opened disk disk arm arm reply why is (inl (omega arith))) (λ reply is. ap is_damage is)

-- a table has a schema that a table may have
pub count_reads-reply-requires-after_bounds : goal.count_reads-reply-requires-after_bounds
count_reads-reply-requires-after_bounds g c κs within =
    let pins = subst (Pins g.F.Dir.files g.B.Names.given g.B.Room.before g.B.Names.opening c.snapshot.new.seat.list c.args.text.now.table) c.in-Some.is c.in_ok-snap.ensures.snap in
    pins.1.schema

-- the numbers of the pinned table
pub returns-clause-counts : goal.returns-clause-counts
returns-clause-counts g c =
    let text = c.args.text.now in
    let now = c.snapshot.new.seat in
    let pins = subst (Pins g.F.Dir.files g.B.Names.given g.B.Room.before g.B.Names.opening now.list text.table) c.in-Some.is c.in_ok-snap.ensures.snap in
    IfOk-weaker c.count_reads-reply.result _ _ (λ reply said. counts_pinned g.F.Dir.files g.B.Names.given g.B.Room.before g.B.Names.opening now.list text c.in-Some.snap reply pins.1 said) c.count_reads-reply.ensures.counts

pub returns-clause-answers : goal.returns-clause-answers
returns-clause-answers g c = λ told known.
    let text = c.args.text.now in
    let now = c.snapshot.new.seat in
    let pins = subst (Pins g.F.Dir.files g.B.Names.given g.B.Room.before g.B.Names.opening now.list text.table) c.in-Some.is c.in_ok-snap.ensures.snap in
    let shows = pins.1.shows told known in
    IfOk-weaker c.count_reads-reply.result _ _ (λ reply takes. explain_shown g.F.Dir.files g.B.Room.before now.list c.args.seat.now now c.snapshot.ensures.looked c.requires.own text reply takes)
    (c.count_reads-reply.ensures.answers (g.B.Room.before ++ now.list) shows.store shows.stands shows.snap_is)
