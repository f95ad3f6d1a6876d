use Rattle.std.proofs.Common.{◌≡◌, ◌++◌, ℕ, List, Option, Ok, is_some, inl, inr, refl, ap, ◌∙◌, subst, arith}
use Rattle.std.proofs.lemmas.Result.{IfOk-weaker}
use Rattle.mt_values.specs.declared.statement.Statement.TheVariants as statement
use Rattle.replies.specs.mt_model.declared.refusal.Refusal.TheVariants as refusal
use Rattle.replies.specs.mt_model.Refusals.{code_of, is_damage, refusal_line}
use Rattle.replies.specs.mt_model.Reply.{ok_line}
use Rattle.replies.proofs.Causing.{says_script}
use Rattle.session.specs.Answers.{IsNamed, IsThere, MergesAsAsked, MergesAt, TellsOfBusy, TellsOfHanded, having}
use Rattle.session.proofs.Accounting.{accounts_still}
use Rattle.session.proofs.Answering.{accounts_still_at, answers_line, answers_looked_result, looked_then, accounts_looked_result, stays_looked}
use Rattle.session.proofs.Commits.{looked_at, looked_end}
use Rattle.session.proofs.Counting.{other_code}
use Rattle.session.proofs.Optimizing.{ended_accounts_at, gives_none, gives_refusal, merged_accounts, merged_stays, optimize_done_at, optimize_failed_at, optimize_refused_at, stopped_accounts, there_then_at}
use Rattle.session.proofs.OnceStopped.{ended_stopped_at, still_stopped}
use Rattle.session.proofs.optimizes.optimize.Goals as goal

-- there is no such table
pub returns-in_default-clause-answers : goal.returns-in_default-clause-answers
returns-in_default-clause-answers g c =
    let text = c.args.text.now in
    let v = c.args.seat.now in
    let w = c.partitions_there.new.seat in
    let share = c.args.share.now in
    let arm = g.R.Arm.failed c.args.arm.now in
    let l = c.partitions_there.ensures.looked in
    let nothing = looked_at g.B.Room.before w.list v w l c.requires.own in
    let there = subst (λ (x : Option _). IsThere g.B.Names.given g.B.Room.before g.B.Names.opening.tables w.list text.table (is_some x)) c.in_default.is c.in_ok-partitions.ensures.there in
    answers_line g.B.Names.given g.B.Room.before g.B.Names.opening g.B.Names.ledgers.parts (Ok (statement.Optimize text)) (having v share arm) (having w share arm) c.no_table_line.result (λ reply. reply ≡ refusal_line (refusal.NoTable text.table)) c.no_table_line.ensures
    (λ reply line told known n a.
    optimize_refused_at n (g.B.Room.before ++ w.list) v.number _ _ (looked_end g.B.Room.before w.list v w l) nothing text reply (gives_refusal g.B.Names.given g.B.Room.before g.B.Names.opening text w.list there told known) line)
    (inl nothing)

pub returns-in_default-clause-accounts : goal.returns-in_default-clause-accounts
returns-in_default-clause-accounts g c =
    let arm = g.R.Arm.failed c.args.arm.now in
    let why = refusal.NoTable c.args.text.now.table in
    accounts_still_at g.B.Names.opening g.B.Names.ledgers.parts c.args.seat.now c.partitions_there.new.seat c.args.share.now arm arm _ c.no_table_line.result
    (λ opened disk. accounts_still _ opened disk arm c.no_table_line.result (λ reply. reply ≡ refusal_line why) c.no_table_line.ensures
    (λ reply is. says_script opened disk disk arm arm reply why is (inl (omega arith))) (λ reply is. ap is_damage is))

pub returns-in_default-clause-stays : goal.returns-in_default-clause-stays
returns-in_default-clause-stays g c =
    let arm = g.R.Arm.failed c.args.arm.now in
    stays_looked g.B.Names.opening g.B.Names.ledgers.parts c.args.seat.now c.partitions_there.new.seat c.args.share.now arm arm c.partitions_there.ensures.looked (omega arith)

-- memory ran out before any merge
pub returns-in_err-partitions-clause-answers : goal.returns-in_err-partitions-clause-answers
returns-in_err-partitions-clause-answers g c =
    let arm = g.R.Arm.failed c.args.arm.now in
    answers_looked_result g.B.Names.given g.B.Room.before g.B.Names.opening g.B.Names.ledgers.parts (statement.Optimize c.args.text.now) c.args.seat.now c.partitions_there.new.seat c.args.share.now arm arm c.partitions_there.ensures.looked c.requires.own c.from_residual.result c.from_residual.ensures.0

pub returns-in_err-partitions-clause-accounts : goal.returns-in_err-partitions-clause-accounts
returns-in_err-partitions-clause-accounts g c = accounts_looked_result g.B.Names.opening g.B.Names.ledgers.parts c.args.seat.now c.partitions_there.new.seat c.args.share.now (g.R.Arm.failed c.args.arm.now) _ c.from_residual.result c.from_residual.ensures.0

pub returns-in_err-partitions-clause-stays : goal.returns-in_err-partitions-clause-stays
returns-in_err-partitions-clause-stays g c =
    let arm = g.R.Arm.failed c.args.arm.now in
    stays_looked g.B.Names.opening g.B.Names.ledgers.parts c.args.seat.now c.partitions_there.new.seat c.args.share.now arm arm c.partitions_there.ensures.looked (omega arith)

-- all merges were done
pub returns-in-Ok-None-clause-answers : goal.returns-in-Ok-None-clause-answers
returns-in-Ok-None-clause-answers g c =
    let text = c.args.text.now in
    let v = c.args.seat.now in
    let u = c.partitions_there.new.seat in
    let w = c.look.new.seat in
    let both = looked_then v u w u.list w.list c.partitions_there.ensures.looked c.look.ensures.looked in
    let nothing = looked_at g.B.Room.before w.list v w both c.requires.own in
    let there = subst (λ (x : Option _). IsThere g.B.Names.given g.B.Room.before g.B.Names.opening.tables u.list text.table (is_some x)) c.in-Some.is c.in_ok-partitions.ensures.there in
    answers_line g.B.Names.given g.B.Room.before g.B.Names.opening g.B.Names.ledgers.parts (Ok (statement.Optimize text)) (having v c.args.share.now (g.R.Arm.failed c.args.arm.now)) (having w c.merge_as_asked.new.share (g.R.Arm.failed c.merge_as_asked.new.arm)) c.accepted.result
    (λ reply. reply ≡ ok_line c.look.result) c.accepted.ensures
    (λ reply line told known n a.
    optimize_done_at n (g.B.Room.before ++ w.list) v.number _ _ (looked_end g.B.Room.before w.list v w both) nothing text reply
    (there_then_at g.B.Names.given g.B.Room.before g.B.Names.opening text u.list w.list c.look.ensures.looked.begins there told known) (line ∙ ap ok_line c.look.ensures.length))
    (inl nothing)

pub returns-in-Ok-None-clause-accounts : goal.returns-in-Ok-None-clause-accounts
returns-in-Ok-None-clause-accounts g c =
    let m = subst (λ (x : Option (List ℕ)). MergesAt g.B.Names.given g.B.Names.opening g.B.Names.ledgers.parts c.args.share.now c.merge_as_asked.new.share (g.R.Arm.failed c.args.arm.now) (g.R.Arm.failed c.merge_as_asked.new.arm) c.args.text.now.whole (TellsOfHanded g.F.Dir.files g.B.Names.given g.B.Room.before g.B.Names.opening g.B.Names.ledgers.parts (IsNamed c.args.text.now)) (TellsOfBusy g.F.Dir.files g.B.Names.given g.B.Room.before g.B.Names.opening g.B.Names.ledgers.parts (IsNamed c.args.text.now)) (MergesAsAsked g.F.Dir.files g.B.Names.given g.B.Room.before g.B.Names.opening g.B.Names.ledgers.parts c.args.text.now) (Ok x)) c.in-Ok-None.field-0-is c.in-Ok-None.ensures.merges in
    merged_accounts g.B.Names.given g.B.Names.opening g.B.Names.ledgers.parts c.args.share.now c.merge_as_asked.new.share (g.R.Arm.failed c.args.arm.now) (g.R.Arm.failed c.merge_as_asked.new.arm) c.args.text.now.whole _ _ _ c.args.seat.now c.look.new.seat c.accepted.result c.look.result c.accepted.ensures m

pub returns-in-Ok-None-clause-stays : goal.returns-in-Ok-None-clause-stays
returns-in-Ok-None-clause-stays g c =
    let v = c.args.seat.now in
    let u = c.partitions_there.new.seat in
    let w = c.look.new.seat in
    merged_stays g.B.Names.given g.B.Names.opening g.B.Names.ledgers.parts c.args.share.now c.merge_as_asked.new.share (g.R.Arm.failed c.args.arm.now) (g.R.Arm.failed c.merge_as_asked.new.arm) c.args.text.now.whole _ _ _ v w _ c.merge_as_asked.ensures.merges c.merge_as_asked.ensures.out
    (looked_then v u w u.list w.list c.partitions_there.ensures.looked c.look.ensures.looked)

-- one was refused
pub returns-in-Ok-Some-clause-answers : goal.returns-in-Ok-Some-clause-answers
returns-in-Ok-Some-clause-answers g c = λ told known n a.
    let text = c.args.text.now in
    let v = c.args.seat.now in
    let w = c.partitions_there.new.seat in
    let l = c.partitions_there.ensures.looked in
    let nothing = looked_at g.B.Room.before w.list v w l c.requires.own in
    let there = subst (λ (x : Option _). IsThere g.B.Names.given g.B.Room.before g.B.Names.opening.tables w.list text.table (is_some x)) c.in-Some.is c.in_ok-partitions.ensures.there in
    let m = subst (λ (x : Option (List ℕ)). MergesAt g.B.Names.given g.B.Names.opening g.B.Names.ledgers.parts c.args.share.now c.merge_as_asked.new.share (g.R.Arm.failed c.args.arm.now) (g.R.Arm.failed c.merge_as_asked.new.arm) text.whole (TellsOfHanded g.F.Dir.files g.B.Names.given g.B.Room.before g.B.Names.opening g.B.Names.ledgers.parts (IsNamed text)) (TellsOfBusy g.F.Dir.files g.B.Names.given g.B.Room.before g.B.Names.opening g.B.Names.ledgers.parts (IsNamed text)) (MergesAsAsked g.F.Dir.files g.B.Names.given g.B.Room.before g.B.Names.opening g.B.Names.ledgers.parts text) (Ok x)) c.in-Ok-Some.field-0-is c.in-Ok-Some.ensures.merges in
    optimize_failed_at n (g.B.Room.before ++ w.list) v.number _ _ (looked_end g.B.Room.before w.list v w l) nothing text c.in-Ok-Some.reply (gives_none g.B.Names.given g.B.Room.before g.B.Names.opening text w.list there told known) (m.takes told known n a)

pub returns-in-Ok-Some-clause-accounts : goal.returns-in-Ok-Some-clause-accounts
returns-in-Ok-Some-clause-accounts g c =
    let m = subst (λ (x : Option (List ℕ)). MergesAt g.B.Names.given g.B.Names.opening g.B.Names.ledgers.parts c.args.share.now c.merge_as_asked.new.share (g.R.Arm.failed c.args.arm.now) (g.R.Arm.failed c.merge_as_asked.new.arm) c.args.text.now.whole (TellsOfHanded g.F.Dir.files g.B.Names.given g.B.Room.before g.B.Names.opening g.B.Names.ledgers.parts (IsNamed c.args.text.now)) (TellsOfBusy g.F.Dir.files g.B.Names.given g.B.Room.before g.B.Names.opening g.B.Names.ledgers.parts (IsNamed c.args.text.now)) (MergesAsAsked g.F.Dir.files g.B.Names.given g.B.Room.before g.B.Names.opening g.B.Names.ledgers.parts c.args.text.now) (Ok x)) c.in-Ok-Some.field-0-is c.in-Ok-Some.ensures.merges in
    stopped_accounts g.B.Names.given g.B.Names.opening g.B.Names.ledgers.parts c.args.share.now c.merge_as_asked.new.share (g.R.Arm.failed c.args.arm.now) (g.R.Arm.failed c.merge_as_asked.new.arm) c.args.text.now.whole _ _ _ c.args.seat.now c.partitions_there.new.seat c.in-Ok-Some.reply m

pub returns-in-Ok-Some-clause-stays : goal.returns-in-Ok-Some-clause-stays
returns-in-Ok-Some-clause-stays g c =
    merged_stays g.B.Names.given g.B.Names.opening g.B.Names.ledgers.parts c.args.share.now c.merge_as_asked.new.share (g.R.Arm.failed c.args.arm.now) (g.R.Arm.failed c.merge_as_asked.new.arm) c.args.text.now.whole _ _ _ c.args.seat.now c.partitions_there.new.seat _ c.merge_as_asked.ensures.merges c.merge_as_asked.ensures.out c.partitions_there.ensures.looked

-- memory ran out
pub returns-clause-answers : goal.returns-clause-answers
returns-clause-answers g c = λ told known n a. inl (looked_at g.B.Room.before c.partitions_there.new.seat.list c.args.seat.now c.partitions_there.new.seat c.partitions_there.ensures.looked c.requires.own)

pub returns-clause-accounts : goal.returns-clause-accounts
returns-clause-accounts g c =
    ended_accounts_at g.B.Names.given g.B.Names.opening g.B.Names.ledgers.parts c.args.share.now c.merge_as_asked.new.share (g.R.Arm.failed c.args.arm.now) (g.R.Arm.failed c.merge_as_asked.new.arm) c.args.text.now.whole _ _ _ c.args.seat.now c.partitions_there.new.seat c.in-Err.field-0 c.in-Err.ensures.merges

pub returns-clause-stays : goal.returns-clause-stays
returns-clause-stays g c =
    merged_stays g.B.Names.given g.B.Names.opening g.B.Names.ledgers.parts c.args.share.now c.merge_as_asked.new.share (g.R.Arm.failed c.args.arm.now) (g.R.Arm.failed c.merge_as_asked.new.arm) c.args.text.now.whole _ _ _ c.args.seat.now c.partitions_there.new.seat _ c.merge_as_asked.ensures.merges c.merge_as_asked.ensures.out c.partitions_there.ensures.looked

-- what a store that was stopped before comes to
pub returns-in_default-clause-stopped : goal.returns-in_default-clause-stopped
returns-in_default-clause-stopped g c =
    let arm = g.R.Arm.failed c.args.arm.now in
    let share = c.args.share.now in
    still_stopped g.B.Names.opening g.B.Names.ledgers.parts (having c.args.seat.now share arm) (having c.partitions_there.new.seat share arm) _ c.partitions_there.ensures.looked.kept refl c.no_table_line.result (returns-in_default-clause-accounts g c)

pub returns-in_err-partitions-clause-stopped : goal.returns-in_err-partitions-clause-stopped
returns-in_err-partitions-clause-stopped g c =
    let arm = g.R.Arm.failed c.args.arm.now in
    let share = c.args.share.now in
    ended_stopped_at (having c.args.seat.now share arm) (having c.partitions_there.new.seat share arm) c.partitions_there.ensures.looked.kept c.from_residual.result c.from_residual.ensures.0

pub returns-in-Ok-None-clause-stopped : goal.returns-in-Ok-None-clause-stopped
returns-in-Ok-None-clause-stopped g c =
    let m = subst (λ (x : Option (List ℕ)). MergesAt g.B.Names.given g.B.Names.opening g.B.Names.ledgers.parts c.args.share.now c.merge_as_asked.new.share (g.R.Arm.failed c.args.arm.now) (g.R.Arm.failed c.merge_as_asked.new.arm) c.args.text.now.whole (TellsOfHanded g.F.Dir.files g.B.Names.given g.B.Room.before g.B.Names.opening g.B.Names.ledgers.parts (IsNamed c.args.text.now)) (TellsOfBusy g.F.Dir.files g.B.Names.given g.B.Room.before g.B.Names.opening g.B.Names.ledgers.parts (IsNamed c.args.text.now)) (MergesAsAsked g.F.Dir.files g.B.Names.given g.B.Room.before g.B.Names.opening g.B.Names.ledgers.parts c.args.text.now) (Ok x)) c.in-Ok-None.field-0-is c.in-Ok-None.ensures.merges in
    let stops = m.stops in
    still_stopped g.B.Names.opening g.B.Names.ledgers.parts (having c.args.seat.now c.args.share.now (g.R.Arm.failed c.args.arm.now)) (having c.look.new.seat c.merge_as_asked.new.share (g.R.Arm.failed c.merge_as_asked.new.arm)) _ (c.look.ensures.looked.kept ∙ c.partitions_there.ensures.looked.kept)
    (omega (arith, stops)) c.accepted.result (returns-in-Ok-None-clause-accounts g c)

pub returns-in-Ok-Some-clause-stopped : goal.returns-in-Ok-Some-clause-stopped
returns-in-Ok-Some-clause-stopped g c = λ some.
    let m = subst (λ (x : Option (List ℕ)). MergesAt g.B.Names.given g.B.Names.opening g.B.Names.ledgers.parts c.args.share.now c.merge_as_asked.new.share (g.R.Arm.failed c.args.arm.now) (g.R.Arm.failed c.merge_as_asked.new.arm) c.args.text.now.whole (TellsOfHanded g.F.Dir.files g.B.Names.given g.B.Room.before g.B.Names.opening g.B.Names.ledgers.parts (IsNamed c.args.text.now)) (TellsOfBusy g.F.Dir.files g.B.Names.given g.B.Room.before g.B.Names.opening g.B.Names.ledgers.parts (IsNamed c.args.text.now)) (MergesAsAsked g.F.Dir.files g.B.Names.given g.B.Room.before g.B.Names.opening g.B.Names.ledgers.parts c.args.text.now) (Ok x)) c.in-Ok-Some.field-0-is c.in-Ok-Some.ensures.merges in
    (c.partitions_there.ensures.looked.kept, m.stopped some)

pub returns-clause-stopped : goal.returns-clause-stopped
returns-clause-stopped g c = λ some. (c.partitions_there.ensures.looked.kept, tt)

-- what it tried
pub returns-in_default-clause-tries : goal.returns-in_default-clause-tries
returns-in_default-clause-tries g c = inl (inl (c.partitions_there.ensures.looked.tried, c.partitions_there.ensures.looked.kept))

pub returns-in_err-partitions-clause-tries : goal.returns-in_err-partitions-clause-tries
returns-in_err-partitions-clause-tries g c = inl (inl (c.partitions_there.ensures.looked.tried, c.partitions_there.ensures.looked.kept))

pub returns-in-Ok-None-clause-tries : goal.returns-in-Ok-None-clause-tries
returns-in-Ok-None-clause-tries g c = inl (inl (c.look.ensures.looked.tried ∙ c.partitions_there.ensures.looked.tried, c.look.ensures.looked.kept ∙ c.partitions_there.ensures.looked.kept))

pub returns-in-Ok-Some-clause-tries : goal.returns-in-Ok-Some-clause-tries
returns-in-Ok-Some-clause-tries g c = inl (inl (c.partitions_there.ensures.looked.tried, c.partitions_there.ensures.looked.kept))

pub returns-clause-tries : goal.returns-clause-tries
returns-clause-tries g c = inl (inl (c.partitions_there.ensures.looked.tried, c.partitions_there.ensures.looked.kept))

-- what was done
pub returns-in_default-clause-shows : goal.returns-in_default-clause-shows
returns-in_default-clause-shows g c = IfOk-weaker c.no_table_line.result _ _ (λ line is. (λ e. absurd (other_code line 2 14 (ap code_of is) refl e), inl (refusal.NoTable c.args.text.now.table, is))) c.no_table_line.ensures

pub returns-in-Ok-None-clause-shows : goal.returns-in-Ok-None-clause-shows
returns-in-Ok-None-clause-shows g c =
    let m = subst (λ (x : Option (List ℕ)). MergesAt g.B.Names.given g.B.Names.opening g.B.Names.ledgers.parts c.args.share.now c.merge_as_asked.new.share (g.R.Arm.failed c.args.arm.now) (g.R.Arm.failed c.merge_as_asked.new.arm) c.args.text.now.whole (TellsOfHanded g.F.Dir.files g.B.Names.given g.B.Room.before g.B.Names.opening g.B.Names.ledgers.parts (IsNamed c.args.text.now)) (TellsOfBusy g.F.Dir.files g.B.Names.given g.B.Room.before g.B.Names.opening g.B.Names.ledgers.parts (IsNamed c.args.text.now)) (MergesAsAsked g.F.Dir.files g.B.Names.given g.B.Room.before g.B.Names.opening g.B.Names.ledgers.parts c.args.text.now) (Ok x)) c.in-Ok-None.field-0-is c.in-Ok-None.ensures.merges in
    IfOk-weaker c.accepted.result _ _ (λ line is. (λ e. absurd (other_code line 0 14 (ap code_of is) refl e), inr m.done.1)) c.accepted.ensures

pub returns-in-Ok-Some-clause-shows : goal.returns-in-Ok-Some-clause-shows
returns-in-Ok-Some-clause-shows g c =
    let m = subst (λ (x : Option (List ℕ)). MergesAt g.B.Names.given g.B.Names.opening g.B.Names.ledgers.parts c.args.share.now c.merge_as_asked.new.share (g.R.Arm.failed c.args.arm.now) (g.R.Arm.failed c.merge_as_asked.new.arm) c.args.text.now.whole (TellsOfHanded g.F.Dir.files g.B.Names.given g.B.Room.before g.B.Names.opening g.B.Names.ledgers.parts (IsNamed c.args.text.now)) (TellsOfBusy g.F.Dir.files g.B.Names.given g.B.Room.before g.B.Names.opening g.B.Names.ledgers.parts (IsNamed c.args.text.now)) (MergesAsAsked g.F.Dir.files g.B.Names.given g.B.Room.before g.B.Names.opening g.B.Names.ledgers.parts c.args.text.now) (Ok x)) c.in-Ok-Some.field-0-is c.in-Ok-Some.ensures.merges in
    (m.busy, inl m.said)
