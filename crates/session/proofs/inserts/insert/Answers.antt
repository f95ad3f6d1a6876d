use Rattle.std.proofs.lemmas.Result.{IfErr-weaker}
use Rattle.std.proofs.lemmas.List.Elements.{All-weaker}
use Rattle.std.proofs.Common.{◌≡◌, ◌<◌, ◌++◌, ℕ, Bool, List, [], Ok, Err, true, false, length, refl, sym, ap, ◌∙◌, subst, arith, append-nil, inl, IfOk}
use Rattle.mt_base.specs.Stops.{Refuses}
use Rattle.block_split.specs.declared.blocks.PartitionBlock.{PartitionBlock}
use Rattle.mt_values.specs.declared.row_fault.DataFault.{DataFault}
use Rattle.mt_values.specs.declared.statement.Statement.TheVariants as statement
use Rattle.mt_values.specs.Engines.{sign_place}
use Rattle.mt_values.specs.Rows.{inserted_rows}
use Rattle.mt_values.specs.Values.{Row}
use Rattle.mt_outside.proofs.Unfailed.{unfailed}
use Rattle.replies.specs.mt_model.declared.refusal.Refusal.TheVariants as refusal
use Rattle.replies.specs.mt_model.Commands.{commands_for, insert_commands}
use Rattle.replies.specs.mt_model.History.{column_types}
use Rattle.replies.specs.mt_model.Refusals.{is_damage, refusal_line, refusal_of_data}
use Rattle.replies.specs.mt_model.Reply.{ok_line}
use Rattle.replies.specs.mt_model.Session.{AddsNothing}
use Rattle.replies.specs.Lines.{IsLineOfStage}
use Rattle.replies.proofs.Causing.{says_failed, says_script}
use Rattle.replies.proofs.Counting.{line_of_stage}
use Rattle.replies.proofs.Meeting.{met_foresees}
use Rattle.replies.proofs.Undamaged.{data_line, stage_line}
use Rattle.merge_workers.specs.shared_store.Handed.{GivesSchema}
use Rattle.session.specs.Lapses.{Never, still}
use Rattle.session.specs.Answers.{AnswersFrom, having, met_by, place_of}
use Rattle.session.proofs.Inserting.{data_is_cause, no_rows, no_such_table, not_empty, parts_come, parts_give, rows_give, rows_refused, rows_signed, some_commands}
use Rattle.session.proofs.Accounting.{accounts_line, accounts_still, never_by}
use Rattle.session.proofs.Answering.{accounts_accepted, accounts_from, accounts_still_at, answers_line, answers_looked, answers_looked_result, looked_then, stays_looked, stays_then}
use Rattle.session.proofs.Commits.{looked_at, looked_end}
use Rattle.session.proofs.TablesKept.{none_given, there_then, whole_then}
use Rattle.session.proofs.Running.{all_of}
use Rattle.session.proofs.OnceStopped.{still_stopped}
use Rattle.session.proofs.Tries.{tries_from_looked}
use Rattle.session.proofs.TurnReplies.{failed_any, refused_before}
use Rattle.session.proofs.Seats.{looked_own}
use Rattle.session.proofs.inserts.insert.Goals as goal

-- a block that is not empty has rows
has_rows : (rows : List Row) (empty : Bool) → empty ≡ false → (rows ≡ [] → empty ≡ true) → 0 < length rows
has_rows rows empty full none = not_empty rows (λ is. let bad : true ≡ false = sym (none is) ∙ full in cc)

-- there is no such table
pub returns-in_default-clause-answers : goal.returns-in_default-clause-answers
returns-in_default-clause-answers g c =
    let text = c.args.text.now in
    let v = c.args.seat.now in
    let w = c.schema.new.seat in
    let arm = g.R.Arm.failed c.args.arm.now in
    let l = c.schema.ensures.looked in
    let gives = subst (GivesSchema g.B.Names.given g.B.Room.before g.B.Names.opening.tables w.list text.table) c.in_default.is c.in_ok-schema.ensures.schema in
    let nothing = looked_at g.B.Room.before w.list v w l c.requires.own in
    answers_line g.B.Names.given g.B.Room.before g.B.Names.opening g.B.Names.ledgers.parts (Ok (statement.Insert text)) (having v c.args.share.now arm) (having w c.args.share.now arm) c.no_table_line.result
    (λ reply. reply ≡ refusal_line (refusal.NoTable text.table)) c.no_table_line.ensures
    (λ reply line told known n a.
    refused_before n (g.B.Room.before ++ w.list) v.number _ _ (looked_end g.B.Room.before w.list v w l) nothing (statement.Insert text) reply (refusal.NoTable text.table)
    (no_such_table text (g.B.Room.before ++ w.list) (none_given g.B.Names.given g.B.Room.before g.B.Names.opening text.table w.list gives told known)) line)
    (inl nothing)

pub returns-in_default-clause-accounts : goal.returns-in_default-clause-accounts
returns-in_default-clause-accounts g c =
    let arm = g.R.Arm.failed c.args.arm.now in
    let why = refusal.NoTable c.args.text.now.table in
    accounts_still_at g.B.Names.opening g.B.Names.ledgers.parts c.args.seat.now c.schema.new.seat c.args.share.now arm arm Never c.no_table_line.result
    (λ opened disk. accounts_still Never opened disk arm c.no_table_line.result (λ reply. reply ≡ refusal_line why) c.no_table_line.ensures
    (λ reply is. says_script opened disk disk arm arm reply why is (inl (omega arith))) (λ reply is. ap is_damage is))

pub returns-in_default-clause-stays : goal.returns-in_default-clause-stays
returns-in_default-clause-stays g c =
    let arm = g.R.Arm.failed c.args.arm.now in
    stays_looked g.B.Names.opening g.B.Names.ledgers.parts c.args.seat.now c.schema.new.seat c.args.share.now arm arm c.schema.ensures.looked (omega arith)

-- memory ran out before its turns
pub returns-in_err-schema-clause-answers : goal.returns-in_err-schema-clause-answers
returns-in_err-schema-clause-answers g c =
    let arm = g.R.Arm.failed c.args.arm.now in
    answers_looked_result g.B.Names.given g.B.Room.before g.B.Names.opening g.B.Names.ledgers.parts (statement.Insert c.args.text.now) c.args.seat.now c.schema.new.seat c.args.share.now arm arm c.schema.ensures.looked c.requires.own c.from_residual.result c.from_residual.ensures.0

pub returns-in-Err-NoMemory-clause-answers : goal.returns-in-Err-NoMemory-clause-answers
returns-in-Err-NoMemory-clause-answers g c =
    let arm = g.R.Arm.failed c.args.arm.now in
    answers_looked g.B.Names.given g.B.Room.before g.B.Names.opening g.B.Names.ledgers.parts (statement.Insert c.args.text.now) c.args.seat.now c.schema.new.seat c.args.share.now arm arm _ c.schema.ensures.looked c.requires.own

pub returns-in_err-unchanged-clause-answers : goal.returns-in_err-unchanged-clause-answers
returns-in_err-unchanged-clause-answers g c =
    let arm = g.R.Arm.failed c.args.arm.now in
    let u = c.schema.new.seat in
    let w = c.look.new.seat in
    let both = looked_then c.args.seat.now u w u.list w.list c.schema.ensures.looked c.look.ensures.looked in
    answers_looked_result g.B.Names.given g.B.Room.before g.B.Names.opening g.B.Names.ledgers.parts (statement.Insert c.args.text.now) c.args.seat.now w c.args.share.now arm arm both c.requires.own c.from_residual-in_err-unchanged.result c.from_residual-in_err-unchanged.ensures.0

pub returns-in_err-failed-clause-answers : goal.returns-in_err-failed-clause-answers
returns-in_err-failed-clause-answers g c =
    let arm = g.R.Arm.failed c.args.arm.now in
    let u = c.schema.new.seat in
    let w = c.look.new.seat in
    let both = looked_then c.args.seat.now u w u.list w.list c.schema.ensures.looked c.look.ensures.looked in
    answers_looked_result g.B.Names.given g.B.Room.before g.B.Names.opening g.B.Names.ledgers.parts (statement.Insert c.args.text.now) c.args.seat.now w c.args.share.now arm arm both c.requires.own c.from_residual-in_err-failed.result c.from_residual-in_err-failed.ensures.0

pub returns-in_err-blocks-clause-answers : goal.returns-in_err-blocks-clause-answers
returns-in_err-blocks-clause-answers g c =
    let arm = g.R.Arm.failed c.args.arm.now in
    let u = c.schema.new.seat in
    let w = c.look.new.seat in
    let both = looked_then c.args.seat.now u w u.list w.list c.schema.ensures.looked c.look.ensures.looked in
    answers_looked_result g.B.Names.given g.B.Room.before g.B.Names.opening g.B.Names.ledgers.parts (statement.Insert c.args.text.now) c.args.seat.now w c.args.share.now arm arm both c.requires.own c.from_residual-in_err-blocks.result c.from_residual-in_err-blocks.ensures.0

-- the data is refused
pub returns-in-Err-Refused-clause-answers : goal.returns-in-Err-Refused-clause-answers
returns-in-Err-Refused-clause-answers g c =
    let text = c.args.text.now in
    let v = c.args.seat.now in
    let w = c.schema.new.seat in
    let arm = g.R.Arm.failed c.args.arm.now in
    let l = c.schema.ensures.looked in
    let schema = c.in-Some.schema in
    let gives = subst (GivesSchema g.B.Names.given g.B.Room.before g.B.Names.opening.tables w.list text.table) c.in-Some.is c.in_ok-schema.ensures.schema in
    let nothing = looked_at g.B.Room.before w.list v w l c.requires.own in
    let read = subst (Refuses (inserted_rows (column_types schema) (sign_place schema.engine) text.lines text.ended)) c.in-Err-Refused.field-0-is c.in-Err-Refused.ensures.refused in
    let fault = c.in-Err-Refused.fault in
    answers_line g.B.Names.given g.B.Room.before g.B.Names.opening g.B.Names.ledgers.parts (Ok (statement.Insert text)) (having v c.args.share.now arm) (having w c.args.share.now arm) c.data_line.result
    (λ reply. reply ≡ refusal_line (refusal_of_data fault)) (subst (λ (f : DataFault). IfOk c.data_line.result (λ line. line ≡ refusal_line (refusal_of_data f))) c.in-Err-Refused.fault-is c.data_line.ensures)
    (λ reply line told known n a.
    refused_before n (g.B.Room.before ++ w.list) v.number _ _ (looked_end g.B.Room.before w.list v w l) nothing (statement.Insert text) reply (refusal_of_data fault)
    (ap (commands_for text) (whole_then g.B.Names.given g.B.Room.before g.B.Names.opening text.table w.list w.list schema gives ([], append-nil w.list) told known) ∙ rows_refused text schema fault read) line)
    (inl nothing)

pub returns-in-Err-Refused-clause-accounts : goal.returns-in-Err-Refused-clause-accounts
returns-in-Err-Refused-clause-accounts g c =
    let text = c.args.text.now in
    let arm = g.R.Arm.failed c.args.arm.now in
    let schema = c.in-Some.schema in
    let read = subst (Refuses (inserted_rows (column_types schema) (sign_place schema.engine) text.lines text.ended)) c.in-Err-Refused.field-0-is c.in-Err-Refused.ensures.refused in
    let fault = c.in-Err-Refused.fault in
    accounts_still_at g.B.Names.opening g.B.Names.ledgers.parts c.args.seat.now c.schema.new.seat c.args.share.now arm arm Never c.data_line.result
    (λ opened disk. accounts_still Never opened disk arm c.data_line.result (λ reply. reply ≡ refusal_line (refusal_of_data fault))
    (subst (λ (f : DataFault). IfOk c.data_line.result (λ line. line ≡ refusal_line (refusal_of_data f))) c.in-Err-Refused.fault-is c.data_line.ensures)
    (λ reply is. says_script opened disk disk arm arm reply (refusal_of_data fault) is (data_is_cause text schema fault read)) (λ reply is. ap is_damage is ∙ data_line fault))

pub returns-in-Err-Refused-clause-stays : goal.returns-in-Err-Refused-clause-stays
returns-in-Err-Refused-clause-stays g c =
    let arm = g.R.Arm.failed c.args.arm.now in
    stays_looked g.B.Names.opening g.B.Names.ledgers.parts c.args.seat.now c.schema.new.seat c.args.share.now arm arm c.schema.ensures.looked (omega arith)

-- there are no rows
pub returns-then-is_empty-clause-answers : goal.returns-then-is_empty-clause-answers
returns-then-is_empty-clause-answers g c = λ told known n a.
    let text = c.args.text.now in
    let v = c.args.seat.now in
    let u = c.schema.new.seat in
    let w = c.look.new.seat in
    let schema = c.in-Some.schema in
    let both = looked_then v u w u.list w.list c.schema.ensures.looked c.look.ensures.looked in
    let gives = subst (GivesSchema g.B.Names.given g.B.Room.before g.B.Names.opening.tables u.list text.table) c.in-Some.is c.in_ok-schema.ensures.schema in
    let none = c.is_empty.ensures.0 c.if-is_empty.true in
    let nothing = looked_at g.B.Room.before w.list v w both c.requires.own in
    all_of g.B.Room.before v.number (statement.Insert text) (place_of g.B.Room.before v) w w ([], append-nil w.list) nothing n [] c.in_ok-unchanged.unchanged
    (ap (commands_for text) (whole_then g.B.Names.given g.B.Room.before g.B.Names.opening text.table u.list w.list schema gives c.look.ensures.looked.begins told known) ∙ no_rows text schema (c.in-Ok.ensures.rows ∙ ap Ok none))
    refl (c.in_ok-unchanged.ensures ∙ ap ok_line c.look.ensures.length)

pub returns-then-is_empty-clause-accounts : goal.returns-then-is_empty-clause-accounts
returns-then-is_empty-clause-accounts g c =
    let arm = g.R.Arm.failed c.args.arm.now in
    let share = c.args.share.now in
    accounts_accepted g.B.Names.opening g.B.Names.ledgers.parts (having c.args.seat.now share arm) (having c.look.new.seat share arm) Never (omega arith) c.in_ok-unchanged.unchanged c.look.result c.in_ok-unchanged.ensures (omega arith) refl refl

pub returns-then-is_empty-clause-stays : goal.returns-then-is_empty-clause-stays
returns-then-is_empty-clause-stays g c =
    let arm = g.R.Arm.failed c.args.arm.now in
    let u = c.schema.new.seat in
    let w = c.look.new.seat in
    stays_looked g.B.Names.opening g.B.Names.ledgers.parts c.args.seat.now w c.args.share.now arm arm (looked_then c.args.seat.now u w u.list w.list c.schema.ensures.looked c.look.ensures.looked) (omega arith)

-- the rows are split
pub split_block-requires-clause-schema : goal.split_block-requires-clause-schema
split_block-requires-clause-schema g c =
    let u = c.schema.new.seat in
    let gives = subst (GivesSchema g.B.Names.given g.B.Room.before g.B.Names.opening.tables u.list c.args.text.now.table) c.in-Some.is c.in_ok-schema.ensures.schema in
    gives.1.sound

pub seal_blocks-requires-clause-schema : goal.seal_blocks-requires-clause-schema
seal_blocks-requires-clause-schema g c κs within =
    let u = c.schema.new.seat in
    let gives = subst (GivesSchema g.B.Names.given g.B.Room.before g.B.Names.opening.tables u.list c.args.text.now.table) c.in-Some.is c.in_ok-schema.ensures.schema in
    gives.1

pub seal_blocks-requires-clause-types : goal.seal_blocks-requires-clause-types
seal_blocks-requires-clause-types g c κs within =
    All-weaker (λ (b : PartitionBlock). b.block.types ≡ c.in-Ok.block.types) (λ (b : PartitionBlock). b.block.types ≡ column_types c.in-Some.schema) (λ b same. same ∙ c.in-Ok.ensures.types) c.in_ok-blocks.blocks.items c.in_ok-blocks.ensures.types

-- its parts were not sealed
pub returns-in-Err-clause-answers : goal.returns-in-Err-clause-answers
returns-in-Err-clause-answers g c =
    let text = c.args.text.now in
    let v = c.args.seat.now in
    let u = c.schema.new.seat in
    let w = c.look.new.seat in
    let arm = g.R.Arm.failed c.seal_blocks.new.arm in
    let old = having v c.args.share.now (g.R.Arm.failed c.args.arm.now) in
    let new = having w c.args.share.now arm in
    let m = met_by g.B.Names.opening g.B.Names.ledgers.parts new in
    let schema = c.in-Some.schema in
    let block = c.in-Ok.block in
    let both = looked_then v u w u.list w.list c.schema.ensures.looked c.look.ensures.looked in
    let gives = subst (GivesSchema g.B.Names.given g.B.Room.before g.B.Names.opening.tables u.list text.table) c.in-Some.is c.in_ok-schema.ensures.schema in
    let nothing = looked_at g.B.Room.before w.list v w both c.requires.own in
    let some = has_rows block.rows c.is_empty.result c.if-is_empty.false c.is_empty.ensures.1 in
    let error = c.in-Err.error in
    answers_line g.B.Names.given g.B.Room.before g.B.Names.opening g.B.Names.ledgers.parts (Ok (statement.Insert text)) old new c.stage_line.result (IsLineOfStage error) c.stage_line.ensures.line
    (λ reply line told known n a.
    failed_any n (g.B.Room.before ++ w.list) v.number _ _ (looked_end g.B.Room.before w.list v w both) nothing (statement.Insert text) reply (insert_commands schema text.table block.rows)
    (ap (commands_for text) (whole_then g.B.Names.given g.B.Room.before g.B.Names.opening text.table u.list w.list schema gives c.look.ensures.looked.begins told known) ∙ rows_give text schema block.rows c.in-Ok.ensures.rows)
    (some_commands schema text.table block.rows some)
    (line_of_stage m.opened m.disk arm (g.R.Arm.failed c.args.arm.now) error reply n line (λ e. c.in-Err.ensures.cause.failed (ap Err e)) (met_foresees m n a)))
    (inl nothing)

pub returns-in-Err-clause-accounts : goal.returns-in-Err-clause-accounts
returns-in-Err-clause-accounts g c =
    let before = g.R.Arm.failed c.args.arm.now in
    let after = g.R.Arm.failed c.seal_blocks.new.arm in
    let cause = c.in-Err.ensures.cause in
    let error = c.in-Err.error in
    accounts_still_at g.B.Names.opening g.B.Names.ledgers.parts c.args.seat.now c.look.new.seat c.args.share.now before after Never c.stage_line.result
    (λ opened disk. accounts_line (still opened disk before after) Never c.stage_line.result (IsLineOfStage error) c.stage_line.ensures.line
    (λ reply is. says_failed opened disk disk before after reply error is (λ e. cause.failed (ap Err e)))
    (λ reply is bad. never_by reply (stage_line error reply is) bad)
    (IfErr-weaker c.stage_line.result _ _ (λ e calm. (refl, unfailed _ _ error (λ is. cause.memory (ap Err is)) calm)) c.stage_line.ensures.fault) cause.later)

pub returns-in-Err-clause-stays : goal.returns-in-Err-clause-stays
returns-in-Err-clause-stays g c =
    let u = c.schema.new.seat in
    let w = c.look.new.seat in
    stays_looked g.B.Names.opening g.B.Names.ledgers.parts c.args.seat.now w c.args.share.now (g.R.Arm.failed c.args.arm.now) (g.R.Arm.failed c.seal_blocks.new.arm) (looked_then c.args.seat.now u w u.list w.list c.schema.ensures.looked c.look.ensures.looked) c.in-Err.ensures.cause.later

-- the turns of its parts
pub commit_parts-requires-clause-own : goal.commit_parts-requires-clause-own
commit_parts-requires-clause-own g c κs within = looked_own [] c.look.new.seat.list c.schema.new.seat c.look.new.seat c.look.ensures.looked

pub commit_parts-requires-clause-ready : goal.commit_parts-requires-clause-ready
commit_parts-requires-clause-ready g c κs within =
    let text = c.args.text.now in
    let u = c.schema.new.seat in
    let w = c.look.new.seat in
    let schema = c.in-Some.schema in
    let gives = subst (GivesSchema g.B.Names.given g.B.Room.before g.B.Names.opening.tables u.list text.table) c.in-Some.is c.in_ok-schema.ensures.schema in
    let signed = rows_signed text schema c.in-Ok.block.rows c.in-Ok.ensures.rows in
    record {
      schema = schema;
      there = there_then g.B.Names.given g.B.Room.before g.B.Names.opening text.table u.list w.list schema gives c.look.ensures.looked.begins;
      rows = parts_come schema text.table c.in-Ok.block.rows c.in_ok-blocks.blocks.items c.in-Ok-seal_blocks.parts.items c.in-Ok-seal_blocks.ensures.blocks (c.in_ok-blocks.ensures.inserts text.table c.in-Ok.ensures.values signed);
      sealed = λ told. c.in-Ok-seal_blocks.ensures.sealed (c.requires.tells told);
      none_failed = c.in-Ok-seal_blocks.ensures.none_failed;
    }

pub commit_parts-requires-clause-unchanged : goal.commit_parts-requires-clause-unchanged
commit_parts-requires-clause-unchanged g c κs within = c.in_ok-unchanged.ensures ∙ ap ok_line c.look.ensures.length

pub returns-clause-answers : goal.returns-clause-answers
returns-clause-answers g c = λ told known n a.
    let text = c.args.text.now in
    let v = c.args.seat.now in
    let u = c.schema.new.seat in
    let w = c.look.new.seat in
    let schema = c.in-Some.schema in
    let block = c.in-Ok.block in
    let blocks = c.in_ok-blocks.blocks.items in
    let parts = c.in-Ok-seal_blocks.parts.items in
    let both = looked_then v u w u.list w.list c.schema.ensures.looked c.look.ensures.looked in
    let gives = subst (GivesSchema g.B.Names.given g.B.Room.before g.B.Names.opening.tables u.list text.table) c.in-Some.is c.in_ok-schema.ensures.schema in
    let types = All-weaker (λ (b : PartitionBlock). b.block.types ≡ block.types) (λ (b : PartitionBlock). b.block.types ≡ column_types schema) (λ b same. same ∙ c.in-Ok.ensures.types) blocks c.in_ok-blocks.ensures.types in
    let same = parts_give schema text.table block.rows blocks parts c.in-Ok-seal_blocks.ensures.blocks c.in_ok-blocks.ensures.blocks types (c.in_ok-blocks.ensures.inserts text.table c.in-Ok.ensures.values (rows_signed text schema block.rows c.in-Ok.ensures.rows)) in
    let there = there_then g.B.Names.given g.B.Room.before g.B.Names.opening text.table u.list w.list schema gives c.look.ensures.looked.begins in
    let whole = whole_then g.B.Names.given g.B.Room.before g.B.Names.opening text.table u.list w.list schema gives c.look.ensures.looked.begins told known in
    let nothing = subst (λ (k : ℕ). AddsNothing (g.B.Room.before ++ w.list) k (place_of g.B.Room.before v) (place_of g.B.Room.before w)) (sym both.number) (looked_at g.B.Room.before w.list v w both c.requires.own) in
    let new = having c.commit_parts.new.seat c.commit_parts.new.share (g.R.Arm.failed c.commit_parts.new.arm) in
    subst (λ (k : ℕ). AnswersFrom g.B.Names.given g.B.Room.before g.B.Names.opening g.B.Names.ledgers.parts (Ok (statement.Insert text)) k (place_of g.B.Room.before v) new c.commit_parts.result) both.number
    (c.commit_parts.ensures.answers schema text (place_of g.B.Room.before v) there (ap (commands_for text) whole ∙ (rows_give text schema block.rows c.in-Ok.ensures.rows ∙ ap Ok (sym same))) nothing) told known n a

pub returns-clause-accounts : goal.returns-clause-accounts
returns-clause-accounts g c =
    let before = g.R.Arm.failed c.args.arm.now in
    let mid = g.R.Arm.failed c.seal_blocks.new.arm in
    let after = g.R.Arm.failed c.commit_parts.new.arm in
    let share = c.args.share.now in
    accounts_from g.B.Names.opening g.B.Names.ledgers.parts (having c.args.seat.now share before) (having c.look.new.seat share mid) c.commit_parts.new.seat c.commit_parts.new.share after after Never refl c.in-Ok-seal_blocks.ensures.cause.ok refl c.commit_parts.result c.commit_parts.ensures.accounts

pub returns-clause-stays : goal.returns-clause-stays
returns-clause-stays g c =
    let v = c.args.seat.now in
    let u = c.schema.new.seat in
    let w = c.look.new.seat in
    let before = g.R.Arm.failed c.args.arm.now in
    let mid = g.R.Arm.failed c.seal_blocks.new.arm in
    let share = c.args.share.now in
    stays_then g.B.Names.opening g.B.Names.ledgers.parts (having v share before) (having w share mid) (having c.commit_parts.new.seat c.commit_parts.new.share (g.R.Arm.failed c.commit_parts.new.arm))
    (stays_looked g.B.Names.opening g.B.Names.ledgers.parts v w share before mid (looked_then v u w u.list w.list c.schema.ensures.looked c.look.ensures.looked) c.in-Ok-seal_blocks.ensures.cause.later) c.commit_parts.ensures.stays

-- what a store that was stopped before comes to
pub returns-in_default-clause-stopped : goal.returns-in_default-clause-stopped
returns-in_default-clause-stopped g c =
    let arm = g.R.Arm.failed c.args.arm.now in
    let share = c.args.share.now in
    still_stopped g.B.Names.opening g.B.Names.ledgers.parts (having c.args.seat.now share arm) (having c.schema.new.seat share arm) Never c.schema.ensures.looked.kept refl c.no_table_line.result (returns-in_default-clause-accounts g c)

pub returns-in-Err-Refused-clause-stopped : goal.returns-in-Err-Refused-clause-stopped
returns-in-Err-Refused-clause-stopped g c =
    let arm = g.R.Arm.failed c.args.arm.now in
    let share = c.args.share.now in
    still_stopped g.B.Names.opening g.B.Names.ledgers.parts (having c.args.seat.now share arm) (having c.schema.new.seat share arm) Never c.schema.ensures.looked.kept refl c.data_line.result (returns-in-Err-Refused-clause-accounts g c)

pub returns-then-is_empty-clause-stopped : goal.returns-then-is_empty-clause-stopped
returns-then-is_empty-clause-stopped g c =
    let arm = g.R.Arm.failed c.args.arm.now in
    let share = c.args.share.now in
    still_stopped g.B.Names.opening g.B.Names.ledgers.parts (having c.args.seat.now share arm) (having c.look.new.seat share arm) Never (c.look.ensures.looked.kept ∙ c.schema.ensures.looked.kept) refl (Ok c.in_ok-unchanged.unchanged) (returns-then-is_empty-clause-accounts g c)

pub returns-in-Err-clause-stopped : goal.returns-in-Err-clause-stopped
returns-in-Err-clause-stopped g c =
    let share = c.args.share.now in
    still_stopped g.B.Names.opening g.B.Names.ledgers.parts (having c.args.seat.now share (g.R.Arm.failed c.args.arm.now)) (having c.look.new.seat share (g.R.Arm.failed c.seal_blocks.new.arm)) Never (c.look.ensures.looked.kept ∙ c.schema.ensures.looked.kept) refl c.stage_line.result
    (returns-in-Err-clause-accounts g c)

pub returns-clause-stopped : goal.returns-clause-stopped
returns-clause-stopped g c = λ some.
    let turns = c.commit_parts.ensures.stopped some in
    (turns.0 ∙ (c.look.ensures.looked.kept ∙ c.schema.ensures.looked.kept), turns.1)

-- what it tried
pub returns-in_default-clause-tries : goal.returns-in_default-clause-tries
returns-in_default-clause-tries g c = inl (inl (c.schema.ensures.looked.tried, c.schema.ensures.looked.kept))

pub returns-in-Err-Refused-clause-tries : goal.returns-in-Err-Refused-clause-tries
returns-in-Err-Refused-clause-tries g c = inl (inl (c.schema.ensures.looked.tried, c.schema.ensures.looked.kept))

pub returns-then-is_empty-clause-tries : goal.returns-then-is_empty-clause-tries
returns-then-is_empty-clause-tries g c = inl (inl (c.look.ensures.looked.tried ∙ c.schema.ensures.looked.tried, c.look.ensures.looked.kept ∙ c.schema.ensures.looked.kept))

pub returns-in-Err-clause-tries : goal.returns-in-Err-clause-tries
returns-in-Err-clause-tries g c = inl (inl (c.look.ensures.looked.tried ∙ c.schema.ensures.looked.tried, c.look.ensures.looked.kept ∙ c.schema.ensures.looked.kept))

pub returns-clause-tries : goal.returns-clause-tries
returns-clause-tries g c =
    let text = c.args.text.now in
    let v = c.args.seat.now in
    let u = c.schema.new.seat in
    let w = c.look.new.seat in
    let schema = c.in-Some.schema in
    let block = c.in-Ok.block in
    let blocks = c.in_ok-blocks.blocks.items in
    let parts = c.in-Ok-seal_blocks.parts.items in
    let both = looked_then v u w u.list w.list c.schema.ensures.looked c.look.ensures.looked in
    let gives = subst (GivesSchema g.B.Names.given g.B.Room.before g.B.Names.opening.tables u.list text.table) c.in-Some.is c.in_ok-schema.ensures.schema in
    let there = there_then g.B.Names.given g.B.Room.before g.B.Names.opening text.table u.list w.list schema gives c.look.ensures.looked.begins in
    let nothing = subst (λ (k : ℕ). AddsNothing (g.B.Room.before ++ w.list) k (place_of g.B.Room.before v) (place_of g.B.Room.before w)) (sym both.number) (looked_at g.B.Room.before w.list v w both c.requires.own) in
    let types = All-weaker (λ (b : PartitionBlock). b.block.types ≡ block.types) (λ (b : PartitionBlock). b.block.types ≡ column_types schema) (λ b same. same ∙ c.in-Ok.ensures.types) blocks c.in_ok-blocks.ensures.types in
    let same = parts_give schema text.table block.rows blocks parts c.in-Ok-seal_blocks.ensures.blocks c.in_ok-blocks.ensures.blocks types (c.in_ok-blocks.ensures.inserts text.table c.in-Ok.ensures.values (rows_signed text schema block.rows c.in-Ok.ensures.rows)) in
    tries_from_looked g.B.Names.given g.B.Room.before (Ok (statement.Insert text)) (place_of g.B.Room.before v) v w c.args.share.now c.args.share.now (g.R.Arm.failed c.args.arm.now) (g.R.Arm.failed c.seal_blocks.new.arm) both
    (having c.commit_parts.new.seat c.commit_parts.new.share (g.R.Arm.failed c.commit_parts.new.arm)) c.commit_parts.result
    (c.commit_parts.ensures.tries schema text (place_of g.B.Room.before v) there
    (λ told known.
    let whole = whole_then g.B.Names.given g.B.Room.before g.B.Names.opening text.table u.list w.list schema gives c.look.ensures.looked.begins told known in
    ap (commands_for text) whole ∙ (rows_give text schema block.rows c.in-Ok.ensures.rows ∙ ap Ok (sym same)))
    nothing)
