use Rattle.std.proofs.lemmas.Result.{IfErr-weaker}
use Rattle.std.proofs.Common.{◌≡◌, ◌++◌, [], List, ℕ, Some, Ok, Err, inl, inr, refl, sym, ap, ◌∙◌, subst, arith}
use Rattle.mt_base.specs.Stops.{Refuses}
use Rattle.mt_values.specs.declared.statement.Statement.TheVariants as statement
use Rattle.mt_outside.proofs.Unfailed.{unfailed}
use Rattle.replies.specs.mt_model.Commands.{create_commands}
use Rattle.replies.specs.mt_model.Refusals.{refusal_line}
use Rattle.replies.specs.mt_model.Reply.{schema_of_text}
use Rattle.replies.specs.Lines.{IsLineOfStage}
use Rattle.replies.proofs.Causing.{says_failed, says_script}
use Rattle.replies.proofs.Meeting.{met_foresees}
use Rattle.replies.proofs.Counting.{line_of_stage}
use Rattle.replies.proofs.MtModelCauses.{text_is_cause, undamaged_line}
use Rattle.replies.proofs.MtModelTables.{schema_is}
use Rattle.replies.proofs.Undamaged.{line_of, stage_line}
use Rattle.merge_workers.specs.shared_store.root_commits.Commits.{IsSealedEntry}
use Rattle.merge_workers.specs.shared_store.stage_dir.Stages.{Filled}
use Rattle.merge_workers.specs.shared_store.Tallies.{Tally}
use Rattle.session.specs.Lapses.{Never, still}
use Rattle.session.specs.Answers.{having, met_by}
use Rattle.session.specs.Stops.{IsLineOf}
use Rattle.session.proofs.Accounting.{refused_as, accounts_line, accounts_still, never_by}
use Rattle.session.proofs.Creating.{sealed_entry, create_gives, created}
use Rattle.session.proofs.Answering.{accounts_added, accounts_refused, accounts_said, accounts_still_at, added_stays, answers_line, answers_none_result, disk_alone, here_all, here_nothing, looked_stays, no_rise, stays_here, stays_itself}
use Rattle.session.proofs.Commits.{back_calm, create_answered, create_counts, create_refused, create_turn_as}
use Rattle.session.proofs.OnceStopped.{create_not_failed, create_stopped, said_stopped, still_stopped}
use Rattle.session.proofs.Tries.{create_tries}
use Rattle.session.proofs.TurnReplies.{failed_before, refused_before}
use Rattle.session.proofs.creates.create.Goals as goal

-- what it says is refused
pub returns-in-Err-Refused-clause-answers : goal.returns-in-Err-Refused-clause-answers
returns-in-Err-Refused-clause-answers g c =
    let text = c.args.text.now in
    let seat = c.args.seat.now in
    let x = having seat c.args.share.now (g.R.Arm.failed c.args.arm.now) in
    let why = c.in-Err-Refused.refusal in
    answers_line g.B.Names.given g.B.Room.before g.B.Names.opening g.B.Names.ledgers.parts (Ok (statement.Create text)) x x c.refused.result (λ reply. reply ≡ refusal_line why)
    (refused_as _ why c.refused.result c.in-Err-Refused.refusal-is c.refused.ensures)
    (λ reply line told known n a.
    refused_before n (g.B.Room.before ++ seat.list) seat.number _ _ (here_all g.B.Room.before seat) (here_nothing g.B.Room.before seat) (statement.Create text) reply why (ap (create_commands text.table) (subst (Refuses (schema_of_text text)) c.in-Err-Refused.field-0-is c.in-Err-Refused.ensures)) line)
    (inl (here_nothing g.B.Room.before seat))

pub returns-in-Err-Refused-clause-accounts : goal.returns-in-Err-Refused-clause-accounts
returns-in-Err-Refused-clause-accounts g c =
    let arm = g.R.Arm.failed c.args.arm.now in
    let seat = c.args.seat.now in
    let why = c.in-Err-Refused.refusal in
    let caused = text_is_cause c.args.text.now why (subst (Refuses (schema_of_text c.args.text.now)) c.in-Err-Refused.field-0-is c.in-Err-Refused.ensures) in
    accounts_still_at g.B.Names.opening g.B.Names.ledgers.parts seat seat c.args.share.now arm arm Never c.refused.result
    (λ opened disk. accounts_still Never opened disk arm c.refused.result (λ reply. reply ≡ refusal_line why) (refused_as _ why c.refused.result c.in-Err-Refused.refusal-is c.refused.ensures)
    (λ reply is. says_script opened disk disk arm arm reply why is caused) (λ reply is. line_of reply why is (undamaged_line why caused)))

-- memory ran out before its turn
pub returns-in_err-replies-clause-stays : goal.returns-in_err-replies-clause-stays
returns-in_err-replies-clause-stays g c = stays_here g.B.Names.opening g.B.Names.ledgers.parts c.args.seat.now c.args.share.now (g.R.Arm.failed c.args.arm.now) c.requires.session c.requires.own

pub returns-in_err-table-clause-answers : goal.returns-in_err-table-clause-answers
returns-in_err-table-clause-answers g c =
    let arm = g.R.Arm.failed c.args.arm.now in
    answers_none_result g.B.Names.given g.B.Room.before g.B.Names.opening g.B.Names.ledgers.parts (statement.Create c.args.text.now) c.args.seat.now c.args.share.now arm arm c.from_residual-in_err-table.result c.from_residual-in_err-table.ensures.0

pub returns-in_err-table-clause-stays : goal.returns-in_err-table-clause-stays
returns-in_err-table-clause-stays g c = stays_here g.B.Names.opening g.B.Names.ledgers.parts c.args.seat.now c.args.share.now (g.R.Arm.failed c.args.arm.now) c.requires.session c.requires.own

-- its entry was not sealed
pub returns-in-Err-clause-answers : goal.returns-in-Err-clause-answers
returns-in-Err-clause-answers g c =
    let text = c.args.text.now in
    let seat = c.args.seat.now in
    let arm = g.R.Arm.failed c.seal_entry.new.arm in
    let old = having seat c.args.share.now (g.R.Arm.failed c.args.arm.now) in
    let new = having seat c.args.share.now arm in
    let m = met_by g.B.Names.opening g.B.Names.ledgers.parts new in
    let says = c.in-Ok.ensures in
    let error = c.in-Err.error in
    answers_line g.B.Names.given g.B.Room.before g.B.Names.opening g.B.Names.ledgers.parts (Ok (statement.Create text)) old new c.stage_line.result (IsLineOfStage error) c.stage_line.ensures.line
    (λ reply line told known n a.
    failed_before n (g.B.Room.before ++ seat.list) seat.number _ _ (here_all g.B.Room.before seat) (here_nothing g.B.Room.before seat) (statement.Create text) reply (created text c.in-Ok.schema says) [] (create_gives text c.in-Ok.schema says (g.B.Room.before ++ seat.list))
    (line_of_stage m.opened m.disk arm (g.R.Arm.failed c.args.arm.now) error reply n line (λ e. c.in-Err.ensures.cause.failed (ap Err e)) (met_foresees m n a)))
    (inl (here_nothing g.B.Room.before seat))

pub returns-in-Err-clause-accounts : goal.returns-in-Err-clause-accounts
returns-in-Err-clause-accounts g c =
    let seat = c.args.seat.now in
    let before = g.R.Arm.failed c.args.arm.now in
    let after = g.R.Arm.failed c.seal_entry.new.arm in
    let cause = c.in-Err.ensures.cause in
    let error = c.in-Err.error in
    accounts_still_at g.B.Names.opening g.B.Names.ledgers.parts seat seat c.args.share.now before after Never c.stage_line.result
    (λ opened disk. accounts_line (still opened disk before after) Never c.stage_line.result (IsLineOfStage error) c.stage_line.ensures.line
    (λ reply is. says_failed opened disk disk before after reply error is (λ e. cause.failed (ap Err e)))
    (λ reply is bad. never_by reply (stage_line error reply is) bad)
    (IfErr-weaker c.stage_line.result _ _ (λ e calm. (refl, unfailed _ _ error (λ is. cause.memory (ap Err is)) calm)) c.stage_line.ensures.fault) cause.later)

pub returns-in-Err-clause-stays : goal.returns-in-Err-clause-stays
returns-in-Err-clause-stays g c = stays_itself g.B.Names.opening g.B.Names.ledgers.parts c.args.seat.now c.args.share.now (g.R.Arm.failed c.args.arm.now) (g.R.Arm.failed c.seal_entry.new.arm) c.requires.session c.requires.own c.in-Err.ensures.cause.later

pub create-requires-clause-schema : goal.create-requires-clause-schema
create-requires-clause-schema g c κs within = schema_is c.args.text.now c.in-Ok.schema c.in-Ok.ensures c.requires.text.keys

pub create-requires-clause-sealed : goal.create-requires-clause-sealed
create-requires-clause-sealed g c κs within = λ told.
    let text = c.args.text.now in
    let entry = c.in-Ok-seal_entry.ensures in
    let sealed = c.in-Ok-seal_entry.sealed in
    subst (λ (t : List ℕ). IsSealedEntry (record { table = t; schema = c.in-Ok.schema }) sealed.files) (sym c.in_ok-table.ensures)
    (sealed_entry text c.in-Ok.schema c.in-Ok.ensures c.requires.text _ c.as_slice.ensures entry.few sealed.files (entry.files (c.requires.tells told)))

-- the table was made
pub returns-in-Ok-create-clause-answers : goal.returns-in-Ok-create-clause-answers
returns-in-Ok-create-clause-answers g c =
    let text = c.args.text.now in
    let v = c.args.seat.now in
    let w = c.create.new.seat in
    let e = c.in-Ok-create.ensures in
    let arm = g.R.Arm.failed c.seal_entry.new.arm in
    let calls = c.in-Ok-seal_entry.sealed.failed in
    let turn = create_turn_as g.F.Dir.files g.B.Names.given g.B.Room.before g.B.Names.opening g.B.Names.ledgers.parts e.turn.0 text c.in-Ok.schema c.in-Ok.ensures v w c.args.share.now c.create.new.share (g.R.Arm.failed c.args.arm.now) arm calls c.requires.own c.in_ok-table.table c.in_ok-table.ensures _ e.turn.1 in
    create_answered g.F.Dir.files g.B.Names.given g.B.Room.before g.B.Names.opening g.B.Names.ledgers.parts e.turn.0 text c.in-Ok.schema c.in-Ok.ensures v w c.args.share.now c.create.new.share (g.R.Arm.failed c.args.arm.now) arm calls c.requires.own
    c.in-Ok-create.length turn c.fill.result c.fill.ensures

pub returns-in-Ok-create-clause-accounts : goal.returns-in-Ok-create-clause-accounts
returns-in-Ok-create-clause-accounts g c =
    let arm = g.R.Arm.failed c.args.arm.now in
    let later = g.R.Arm.failed c.seal_entry.new.arm in
    let turn = c.in-Ok-create.ensures.turn.1.turn in
    let calm = c.in-Ok-seal_entry.ensures.cause.ok in
    accounts_added g.B.Names.opening g.B.Names.ledgers.parts (having c.args.seat.now c.args.share.now arm) (having c.create.new.seat c.create.new.share later) Never (omega (arith, calm)) _ _ _ turn.counted c.in-Ok-seal_entry.ensures.none_failed c.fill.result c.in-Ok-create.length c.fill.ensures

pub returns-in-Ok-create-clause-stays : goal.returns-in-Ok-create-clause-stays
returns-in-Ok-create-clause-stays g c =
    let counted = c.in-Ok-create.ensures.turn.1.turn.counted in
    let calm = c.in-Ok-seal_entry.ensures.cause.ok in
    let v = c.args.seat.now in
    let share = c.args.share.now in
    added_stays g.B.Names.opening g.B.Names.ledgers.parts share c.create.new.share (g.R.Arm.failed c.args.arm.now) (g.R.Arm.failed c.seal_entry.new.arm) 0 _ counted.rise counted.counted (omega arith) (omega (arith, calm)) v c.create.new.seat
    c.in-Ok-create.ensures.turn.0 _ refl c.requires.own c.in-Ok-create.ensures.turn.1.seat.0

-- it was not
pub returns-in-Err-create-clause-answers : goal.returns-in-Err-create-clause-answers
returns-in-Err-create-clause-answers g c =
    let text = c.args.text.now in
    let v = c.args.seat.now in
    let w = c.create.new.seat in
    let e = c.in-Err-create.ensures in
    let r = c.in-Err-create.field-0 in
    let share = c.args.share.now in
    let arm = g.R.Arm.failed c.give_back.new.arm in
    let calls = c.in-Ok-seal_entry.sealed.failed in
    let turn = create_turn_as g.F.Dir.files g.B.Names.given g.B.Room.before g.B.Names.opening g.B.Names.ledgers.parts e.turn.0 text c.in-Ok.schema c.in-Ok.ensures v w share c.create.new.share (g.R.Arm.failed c.args.arm.now) arm calls c.requires.own c.in_ok-table.table c.in_ok-table.ensures _ e.turn.1 in
    create_refused g.F.Dir.files g.B.Names.given g.B.Room.before g.B.Names.opening g.B.Names.ledgers.parts e.turn.0 text c.in-Ok.schema c.in-Ok.ensures v w share c.create.new.share (g.R.Arm.failed c.args.arm.now) arm calls c.requires.own
    r turn c.refused_line.result c.refused_line.ensures.line

pub returns-in-Err-create-clause-accounts : goal.returns-in-Err-create-clause-accounts
returns-in-Err-create-clause-accounts g c =
    let e = c.in-Err-create.ensures in
    let r = c.in-Err-create.field-0 in
    let entry = c.in-Ok-seal_entry.ensures in
    let back = back_calm (λ (f : Filled). f.failed) c.in-Ok-seal_entry.sealed r.back e.back.same entry.none_failed in
    let calm = c.give_back.ensures.none_failed back ∙ entry.cause.ok in
    let old = having c.args.seat.now c.args.share.now (g.R.Arm.failed c.args.arm.now) in
    let new = having c.create.new.seat c.create.new.share (g.R.Arm.failed c.give_back.new.arm) in
    let counted = e.turn.1.turn.counted in
    let turn = create_turn_as g.F.Dir.files g.B.Names.given g.B.Room.before g.B.Names.opening g.B.Names.ledgers.parts e.turn.0 c.args.text.now c.in-Ok.schema c.in-Ok.ensures c.args.seat.now c.create.new.seat c.args.share.now c.create.new.share old.arm new.arm c.in-Ok-seal_entry.sealed.failed c.requires.own c.in_ok-table.table c.in_ok-table.ensures _ e.turn.1 in
    accounts_said g.B.Names.opening g.B.Names.ledgers.parts old new Never (omega (arith, calm)) calm c.refused_line.result (IsLineOf 0 c.args.text.now.table r.cause) c.refused_line.ensures.line
    (λ reply is.
    accounts_refused g.B.Names.opening g.B.Names.ledgers.parts old new Never (omega (arith, calm)) 0 c.args.text.now.table r.cause reply is (ap (λ (t : Tally). t.stops) counted.counted)
    (create_counts g.F.Dir.files g.B.Names.given g.B.Room.before g.B.Names.opening g.B.Names.ledgers.parts e.turn.0 c.args.text.now c.in-Ok.schema c.in-Ok.ensures c.args.seat.now c.create.new.seat c.args.share.now c.create.new.share old.arm new.arm c.in-Ok-seal_entry.sealed.failed c.requires.own r turn entry.none_failed reply is))
    (IfErr-weaker c.refused_line.result _ _ (λ _ other. no_rise _ _ _ (Some r.cause) c.args.share.now c.create.new.share counted entry.none_failed (disk_alone r.cause other)) c.refused_line.ensures.disk)

pub returns-in-Err-create-clause-stays : goal.returns-in-Err-create-clause-stays
returns-in-Err-create-clause-stays g c =
    let e = c.in-Err-create.ensures in
    let r = c.in-Err-create.field-0 in
    let entry = c.in-Ok-seal_entry.ensures in
    let back = back_calm (λ (f : Filled). f.failed) c.in-Ok-seal_entry.sealed r.back e.back.same entry.none_failed in
    let calm = c.give_back.ensures.none_failed back ∙ entry.cause.ok in
    let share = c.args.share.now in
    looked_stays g.B.Names.opening g.B.Names.ledgers.parts share c.create.new.share (g.R.Arm.failed c.args.arm.now) (g.R.Arm.failed c.give_back.new.arm) _ _ e.turn.1.turn.counted.rise e.turn.1.turn.counted.counted (omega arith) (omega (arith, calm)) c.args.seat.now c.create.new.seat
    e.turn.0 e.turn.1.seat

-- what a store that was stopped before comes to
pub returns-in-Err-Refused-clause-stopped : goal.returns-in-Err-Refused-clause-stopped
returns-in-Err-Refused-clause-stopped g c =
    let x = having c.args.seat.now c.args.share.now (g.R.Arm.failed c.args.arm.now) in
    still_stopped g.B.Names.opening g.B.Names.ledgers.parts x x Never refl refl c.refused.result (returns-in-Err-Refused-clause-accounts g c)

pub returns-in-Err-clause-stopped : goal.returns-in-Err-clause-stopped
returns-in-Err-clause-stopped g c =
    let seat = c.args.seat.now in
    let share = c.args.share.now in
    still_stopped g.B.Names.opening g.B.Names.ledgers.parts (having seat share (g.R.Arm.failed c.args.arm.now)) (having seat share (g.R.Arm.failed c.seal_entry.new.arm)) Never refl refl c.stage_line.result (returns-in-Err-clause-accounts g c)

pub returns-in-Ok-create-clause-stopped : goal.returns-in-Ok-create-clause-stopped
returns-in-Ok-create-clause-stopped g c = λ some.
    let e = c.in-Ok-create.ensures in
    let t = e.turn.1.turn.turn in
    absurd (create_stopped g.F.Dir.files g.B.Names.given g.B.Room.before g.B.Names.opening e.turn.0 g.B.Names.ledgers.parts c.args.share.now _ t some c.in_ok-table.table t.shows)

pub returns-in-Err-create-clause-stopped : goal.returns-in-Err-create-clause-stopped
returns-in-Err-create-clause-stopped g c = λ some.
    let e = c.in-Err-create.ensures in
    let r = c.in-Err-create.field-0 in
    let t = e.turn.1.turn.turn in
    let no = create_not_failed g.F.Dir.files g.B.Names.given g.B.Room.before g.B.Names.opening e.turn.0 g.B.Names.ledgers.parts c.args.share.now _ t some c.in_ok-table.table r.cause t.shows in
    (e.turn.1.seat.kept, said_stopped 0 c.args.text.now.table r.cause no c.refused_line.result c.refused_line.ensures.line)

-- what it tried
pub returns-in-Err-Refused-clause-tries : goal.returns-in-Err-Refused-clause-tries
returns-in-Err-Refused-clause-tries g c = inl (inl (refl, refl))

pub returns-in-Err-clause-tries : goal.returns-in-Err-clause-tries
returns-in-Err-clause-tries g c = inl (inl (refl, refl))

pub returns-in-Ok-create-clause-tries : goal.returns-in-Ok-create-clause-tries
returns-in-Ok-create-clause-tries g c = inl (inr c.in-Ok-create.ensures.turn.1.seat.0.tried)

pub returns-in-Err-create-clause-tries : goal.returns-in-Err-create-clause-tries
returns-in-Err-create-clause-tries g c =
    let text = c.args.text.now in
    let v = c.args.seat.now in
    let w = c.create.new.seat in
    let e = c.in-Err-create.ensures in
    let r = c.in-Err-create.field-0 in
    let share = c.args.share.now in
    let arm = g.R.Arm.failed c.args.arm.now in
    let later = g.R.Arm.failed c.give_back.new.arm in
    let calls = c.in-Ok-seal_entry.sealed.failed in
    let turn = create_turn_as g.F.Dir.files g.B.Names.given g.B.Room.before g.B.Names.opening g.B.Names.ledgers.parts e.turn.0 text c.in-Ok.schema c.in-Ok.ensures v w share c.create.new.share arm later calls c.requires.own c.in_ok-table.table c.in_ok-table.ensures _ e.turn.1 in
    create_tries g.F.Dir.files g.B.Names.given g.B.Room.before g.B.Names.opening g.B.Names.ledgers.parts e.turn.0 text c.in-Ok.schema c.in-Ok.ensures v w share c.create.new.share arm later calls c.requires.own
    r turn c.in-Ok-seal_entry.sealed e.back c.refused_line.result c.refused_line.ensures.line c.refused_line.ensures.disk
