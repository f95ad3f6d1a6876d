use Rattle.std.proofs.Common.{◌≡◌, ◌++◌, ℕ, List, Result, inl, refl, IfOk, Err, Ok, sym, ap, ◌∙◌, subst, arith}
use Rattle.mt_base.specs.declared.memory.NoMemory.{NoMemory}
use Rattle.mt_values.specs.declared.statement.Cause.{Cause}
use Rattle.mt_values.specs.declared.statement.Cause.TheVariants as cause
use Rattle.mt_values.specs.Script.{Item}
use Rattle.replies.specs.mt_model.declared.refusal.Refusal.{Refusal}
use Rattle.replies.specs.mt_model.Refusals.{is_damage, refusal_line, refusal_of_cause}
use Rattle.replies.proofs.MtModelCauses.{OfScript}
use Rattle.replies.proofs.Causing.{says_script}
use Rattle.replies.proofs.Undamaged.{cause_line}
use Rattle.session.specs.Lapses.{Never}
use Rattle.session.specs.Answers.{AccountsAt, AnswersAt, ReadsAsIs, SelectsAt, ShowsAt, TellsAt, having, place_of}
use Rattle.session.proofs.Accounting.{accounts_still}
use Rattle.session.proofs.Answering.{accounts_still_at, answers_line, here_nothing, stays_here, stays_looked}
use Rattle.session.proofs.SnapReplies.{explained_result, selected_result}
use Rattle.session.proofs.OnceStopped.{still_stopped}
use Rattle.session.proofs.statements.run_statement.Goals as goal

-- a SELECT
pub returns-in-Ok-Select-clause-answers : goal.returns-in-Ok-Select-clause-answers
returns-in-Ok-Select-clause-answers g c =
    let v = c.args.seat.now in
    let w = c.select.new.seat in
    let share = c.args.share.now in
    let before = g.R.Arm.failed c.args.arm.now in
    let after = g.R.Arm.failed c.select.new.arm in
    subst (λ (st : Item). AnswersAt g.B.Names.given g.B.Room.before g.B.Names.opening g.B.Names.ledgers.parts st (having v share before) (having w share after) c.select.result) (sym (c.in-Ok-Select.is ∙ ap Ok c.in-Ok-Select.field-0-is))
    (selected_result g.B.Names.given g.B.Room.before g.B.Names.opening g.B.Names.ledgers.parts c.in-Ok-Select.text v w share c.select.ensures.looked c.requires.own g.F.Dir.files before after c.select.result c.select.ensures.answers)

pub returns-in-Ok-Select-clause-accounts : goal.returns-in-Ok-Select-clause-accounts
returns-in-Ok-Select-clause-accounts g c =
    let v = c.args.seat.now in
    let w = c.select.new.seat in
    let share = c.args.share.now in
    let before = g.R.Arm.failed c.args.arm.now in
    let after = g.R.Arm.failed c.select.new.arm in
    subst (λ (st : Item). AccountsAt g.B.Names.opening g.B.Names.ledgers.parts (having v share before) (having w share after) (TellsAt g.F.Dir.files g.B.Names.given g.B.Room.before g.B.Names.opening g.B.Names.ledgers.parts w.list st) c.select.result) (sym (c.in-Ok-Select.is ∙ ap Ok c.in-Ok-Select.field-0-is))
    (accounts_still_at g.B.Names.opening g.B.Names.ledgers.parts v w share before after _ c.select.result c.select.ensures.accounts)

pub returns-in-Ok-Select-clause-stays : goal.returns-in-Ok-Select-clause-stays
returns-in-Ok-Select-clause-stays g c =
    let later = (c.select.ensures.accounts 0 0).later in
    stays_looked g.B.Names.opening g.B.Names.ledgers.parts c.args.seat.now c.select.new.seat c.args.share.now (g.R.Arm.failed c.args.arm.now) (g.R.Arm.failed c.select.new.arm) c.select.ensures.looked later

pub returns-in-Ok-Select-clause-stopped : goal.returns-in-Ok-Select-clause-stopped
returns-in-Ok-Select-clause-stopped g c =
    let v = c.args.seat.now in
    let w = c.select.new.seat in
    let share = c.args.share.now in
    let before = g.R.Arm.failed c.args.arm.now in
    let after = g.R.Arm.failed c.select.new.arm in
    still_stopped g.B.Names.opening g.B.Names.ledgers.parts (having v share before) (having w share after) _ c.select.ensures.looked.kept refl c.select.result (accounts_still_at g.B.Names.opening g.B.Names.ledgers.parts v w share before after _ c.select.result c.select.ensures.accounts)

-- an EXPLAIN
pub returns-in-Ok-Explain-clause-answers : goal.returns-in-Ok-Explain-clause-answers
returns-in-Ok-Explain-clause-answers g c =
    let v = c.args.seat.now in
    let w = c.explain.new.seat in
    let share = c.args.share.now in
    let arm = g.R.Arm.failed c.args.arm.now in
    subst (λ (st : Item). AnswersAt g.B.Names.given g.B.Room.before g.B.Names.opening g.B.Names.ledgers.parts st (having v share arm) (having w share arm) c.explain.result) (sym (c.in-Ok-Explain.is ∙ ap Ok c.in-Ok-Explain.field-0-is))
    (explained_result g.B.Names.given g.B.Room.before g.B.Names.opening g.B.Names.ledgers.parts c.in-Ok-Explain.text v w share c.explain.ensures.looked c.requires.own arm c.explain.result c.explain.ensures.answers)

pub returns-in-Ok-Explain-clause-accounts : goal.returns-in-Ok-Explain-clause-accounts
returns-in-Ok-Explain-clause-accounts g c =
    let v = c.args.seat.now in
    let w = c.explain.new.seat in
    let share = c.args.share.now in
    let arm = g.R.Arm.failed c.args.arm.now in
    subst (λ (st : Item). AccountsAt g.B.Names.opening g.B.Names.ledgers.parts (having v share arm) (having w share arm) (TellsAt g.F.Dir.files g.B.Names.given g.B.Room.before g.B.Names.opening g.B.Names.ledgers.parts w.list st) c.explain.result) (sym (c.in-Ok-Explain.is ∙ ap Ok c.in-Ok-Explain.field-0-is))
    (accounts_still_at g.B.Names.opening g.B.Names.ledgers.parts v w share arm arm Never c.explain.result (λ opened disk. c.explain.ensures.accounts opened disk arm))

pub returns-in-Ok-Explain-clause-stays : goal.returns-in-Ok-Explain-clause-stays
returns-in-Ok-Explain-clause-stays g c =
    let arm = g.R.Arm.failed c.args.arm.now in
    stays_looked g.B.Names.opening g.B.Names.ledgers.parts c.args.seat.now c.explain.new.seat c.args.share.now arm arm c.explain.ensures.looked (omega arith)

pub returns-in-Ok-Explain-clause-stopped : goal.returns-in-Ok-Explain-clause-stopped
returns-in-Ok-Explain-clause-stopped g c =
    let v = c.args.seat.now in
    let w = c.explain.new.seat in
    let share = c.args.share.now in
    let arm = g.R.Arm.failed c.args.arm.now in
    still_stopped g.B.Names.opening g.B.Names.ledgers.parts (having v share arm) (having w share arm) _ c.explain.ensures.looked.kept refl c.explain.result (accounts_still_at g.B.Names.opening g.B.Names.ledgers.parts v w share arm arm Never c.explain.result (λ opened disk. c.explain.ensures.accounts opened disk arm))

-- a text that is no statement
pub returns-in-Err-clause-answers : goal.returns-in-Err-clause-answers
returns-in-Err-clause-answers g c =
    let v = c.args.seat.now in
    let x = having v c.args.share.now (g.R.Arm.failed c.args.arm.now) in
    let why = refusal_of_cause c.in-Err.cause in
    let nothing = here_nothing g.B.Room.before v in
    let line = subst (λ (w : Refusal). IfOk c.refused.result (λ line. line ≡ refusal_line w)) c.of_cause.ensures c.refused.ensures in
    subst (λ (st : Item). AnswersAt g.B.Names.given g.B.Room.before g.B.Names.opening g.B.Names.ledgers.parts st x x c.refused.result) (sym c.in-Err.is)
    (answers_line g.B.Names.given g.B.Room.before g.B.Names.opening g.B.Names.ledgers.parts (Err c.in-Err.cause) x x c.refused.result (λ reply. reply ≡ refusal_line why) line (λ reply is told known n a. record { line = is; nothing = nothing }) (inl nothing))

pub returns-in-Err-clause-accounts : goal.returns-in-Err-clause-accounts
returns-in-Err-clause-accounts g c =
    let cause = c.in-Err.cause in
    let v = c.args.seat.now in
    let share = c.args.share.now in
    let arm = g.R.Arm.failed c.args.arm.now in
    let why = refusal_of_cause cause in
    let line = subst (λ (w : Refusal). IfOk c.refused.result (λ line. line ≡ refusal_line w)) c.of_cause.ensures c.refused.ensures in
    accounts_still_at g.B.Names.opening g.B.Names.ledgers.parts v v share arm arm _ c.refused.result
    (λ opened disk. accounts_still _ opened disk arm c.refused.result (λ reply. reply ≡ refusal_line why) line (λ reply is. says_script opened disk disk arm arm reply why is (text_code cause)) (λ reply is. ap is_damage is ∙ cause_line cause))
  where
    text_code : (cause : Cause) → OfScript (refusal_of_cause cause)
    text_code (cause.Grammar place) = inl (omega arith)
    text_code cause.LongStatement = inl (omega arith)
    text_code cause.LongName = inl (omega arith)
    text_code cause.TooDeep = inl (omega arith)

pub returns-in-Err-clause-stays : goal.returns-in-Err-clause-stays
returns-in-Err-clause-stays g c = stays_here g.B.Names.opening g.B.Names.ledgers.parts c.args.seat.now c.args.share.now (g.R.Arm.failed c.args.arm.now) c.requires.session c.requires.own

pub returns-in-Err-clause-stopped : goal.returns-in-Err-clause-stopped
returns-in-Err-clause-stopped g c =
    let x = having c.args.seat.now c.args.share.now (g.R.Arm.failed c.args.arm.now) in
    still_stopped g.B.Names.opening g.B.Names.ledgers.parts x x _ refl refl c.refused.result (returns-in-Err-clause-accounts g c)

-- what it tried
pub returns-in-Ok-Select-clause-tries : goal.returns-in-Ok-Select-clause-tries
returns-in-Ok-Select-clause-tries g c = inl (inl (c.select.ensures.looked.tried, c.select.ensures.looked.kept))

pub returns-in-Ok-Explain-clause-tries : goal.returns-in-Ok-Explain-clause-tries
returns-in-Ok-Explain-clause-tries g c = inl (inl (c.explain.ensures.looked.tried, c.explain.ensures.looked.kept))

pub returns-in-Err-clause-tries : goal.returns-in-Err-clause-tries
returns-in-Err-clause-tries g c = inl (inl (refl, refl))

-- what a reply shows
shows_none : (line : Result (List ℕ) NoMemory) → IfOk line (λ _. Unit {0})
shows_none (Ok reply) = tt
shows_none (Err e) = tt

shows_by : {P Q : Type 0} (line : Result (List ℕ) NoMemory) (Is Says : List ℕ → Type 0) → (P → Q → IfOk line Is) → ((reply : List ℕ) → Is reply → Says reply) → IfOk line (λ reply. P → Q → Says reply)
shows_by (Ok reply) Is Says is says = λ p q. says reply (is p q)
shows_by (Err e) Is Says is says = tt

pub returns-in-Ok-Select-clause-shows : goal.returns-in-Ok-Select-clause-shows
returns-in-Ok-Select-clause-shows g c =
    let v = c.args.seat.now in
    let w = c.select.new.seat in
    let text = c.in-Ok-Select.text in
    let h = g.B.Room.before ++ w.list in
    subst (λ (st : Item). IfOk c.select.result (ShowsAt g.F.Dir.files g.B.Names.given g.B.Room.before g.B.Names.opening g.B.Names.ledgers.parts w.list st)) (sym (c.in-Ok-Select.is ∙ ap Ok c.in-Ok-Select.field-0-is))
    (shows_by c.select.result (SelectsAt g.F.Dir.files h v.number (place_of g.B.Room.before v) (place_of g.B.Room.before w) text (g.R.Arm.failed c.select.new.arm)) (ReadsAsIs g.F.Dir.files h text) c.select.ensures.answers (λ reply has. has.plain))

pub returns-in-Ok-Explain-clause-shows : goal.returns-in-Ok-Explain-clause-shows
returns-in-Ok-Explain-clause-shows g c =
    subst (λ (st : Item). IfOk c.explain.result (ShowsAt g.F.Dir.files g.B.Names.given g.B.Room.before g.B.Names.opening g.B.Names.ledgers.parts c.explain.new.seat.list st)) (sym (c.in-Ok-Explain.is ∙ ap Ok c.in-Ok-Explain.field-0-is)) c.explain.ensures.counts

pub returns-in-Err-clause-shows : goal.returns-in-Err-clause-shows
returns-in-Err-clause-shows g c =
    subst (λ (st : Item). IfOk c.refused.result (ShowsAt g.F.Dir.files g.B.Names.given g.B.Room.before g.B.Names.opening g.B.Names.ledgers.parts c.args.seat.now.list st)) (sym c.in-Err.is) (shows_none c.refused.result)
