use Rattle.std.proofs.Common.{◌≡◌, List, ℕ, length, sym, subst, ◌∷◌, []}
use Rattle.mt_values.specs.declared.statement.Statement.TheVariants as statement
use Rattle.part_history.specs.mt_model.History.{History}
use Rattle.part_history.specs.mt_model.Session.{TakesStatement}
use Rattle.mt_plain.specs.Outcomes.{AreExactly}
use Rattle.mt_plain.specs.Plain.{calm}
use Rattle.mt_plain.proofs.AllReplies.{select_all, select_each, step_all}
use Rattle.mt_plain.proofs.Steps.{when_ok}
use Rattle.mt_plain.proofs.replying.replies_after.Goals as goal

pub returns-in-Some-clause-each : goal.returns-in-Some-clause-each
returns-in-Some-clause-each c =
    let h = c.args.history.now.items in
    let t = c.in-Some.select.now in
    let here : List (List ℕ) → History → Type 0 = λ replies x. AreExactly replies (λ reply. TakesStatement calm x 0 (statement.Select t) (length x) (length x) reply) in
    when_ok c.select_replies.result (λ replies. here replies.items c.deref.result.now) _
    (λ replies are. select_each h c.args.statement.now t replies.items (sym c.in-Some.ensures) (subst (here replies.items) c.deref.ensures.value are)) c.select_replies.ensures

pub returns-in-Some-clause-all : goal.returns-in-Some-clause-all
returns-in-Some-clause-all c =
    let h = c.args.history.now.items in
    let t = c.in-Some.select.now in
    let here : List (List ℕ) → History → Type 0 = λ replies x. AreExactly replies (λ reply. TakesStatement calm x 0 (statement.Select t) (length x) (length x) reply) in
    when_ok c.select_replies.result (λ replies. here replies.items c.deref.result.now) _
    (λ replies are other. select_all h c.args.statement.now t replies.items (sym c.in-Some.ensures) (subst (here replies.items) c.deref.ensures.value are)) c.select_replies.ensures

pub returns-in_ok-reply_to-in-None-clause-all : goal.returns-in_ok-reply_to-in-None-clause-all
returns-in_ok-reply_to-in-None-clause-all c =
    let r = c.in_ok-reply_to-in-None.field-0.items in
    when_ok c.only_text.result (λ replies. replies.items ≡ r ∷ []) _
    (λ replies only. step_all c.args.history.now.items c.reply_to.new.history.items c.args.statement.now r replies.items only c.in_ok-reply_to-in-None.ensures.takes (sym c.in-None.ensures) c.in_ok-reply_to-in-None.ensures.grows) c.only_text.ensures
