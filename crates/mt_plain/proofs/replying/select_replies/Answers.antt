use Rattle.std.proofs.Common.{◌≡◌, List, ℕ, None, ap, sym, ◌∙◌, ◌∷◌, []}
use Rattle.part_history.specs.mt_model.declared.refusal.Refusal.TheVariants as refusal
use Rattle.part_history.specs.mt_model.History.{schema_of}
use Rattle.part_history.specs.mt_model.Refusals.{refusal_line}
use Rattle.mt_plain.proofs.Answering.{answered_exactly, no_table_only, refused_only}
use Rattle.mt_plain.proofs.Steps.{when_ok}
use Rattle.mt_plain.proofs.replying.select_replies.Goals as goal

pub returns-in_default : goal.returns-in_default
returns-in_default c =
    let h = c.args.history.now in
    let t = c.args.select.now in
    let none : schema_of t.table h ≡ None = sym c.in_default.ensures in
    let named = ap (λ (n : List ℕ). refusal_line (refusal.NoTable n) ∷ []) c.in_ok-twin.ensures in
    when_ok c.only_refused.result (λ replies. replies.items ≡ refusal_line (refusal.NoTable c.in_ok-twin.field-0) ∷ []) _ (λ replies is. no_table_only h t replies.items none (is ∙ named)) c.only_refused.ensures

pub returns-in-Ok : goal.returns-in-Ok
returns-in-Ok c =
    let asked = c.in-Ok.ensures.asked in
    answered_exactly c.args.history.now c.args.select.now c.in-Some.schema.now asked.0 c.in-Ok.replies.items (sym c.in-Some.ensures) asked.1 c.in-Ok.ensures.given

pub returns-in-Err-Refused : goal.returns-in-Err-Refused
returns-in-Err-Refused c =
    let why = c.in-Err-Refused.refusal in
    let asked = rw c.in-Err-Refused.field-0-is at c.in-Err-Refused.ensures.refused in
    when_ok c.only_refused-in-Err-Refused.result (λ replies. replies.items ≡ refusal_line why ∷ []) _ (λ replies is. refused_only c.args.history.now c.args.select.now c.in-Some.schema.now why replies.items (sym c.in-Some.ensures) asked is) c.only_refused-in-Err-Refused.ensures
