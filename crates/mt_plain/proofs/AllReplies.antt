-- Every reply that a statement may have, and the history that it comes to.
use Rattle.std.proofs.Common.{◌≡◌, ℕ, List, [], ◌∷◌, All, Some, None, Result, Ok, Err, drop, length, take, refl, sym, ap, ◌∙◌, subst, inl, inr, arith}
use Rattle.std.specs.List.{Contains}
use Rattle.std.proofs.lemmas.List.{drop_at}
use Rattle.mt_values.specs.declared.command.Entry.{Entry}
use Rattle.mt_values.specs.declared.statement.Cause.{Cause}
use Rattle.mt_values.specs.declared.statement.Statement.{Statement}
use Rattle.mt_values.specs.declared.statement.Statement.TheVariants as statement
use Rattle.mt_values.specs.declared.statement.SelectText.{SelectText}
use Rattle.part_history.specs.mt_model.Answer.{Answer}
use Rattle.part_history.specs.mt_model.History.{History, schema_of}
use Rattle.part_history.specs.mt_model.Queries.{query_of_select}
use Rattle.part_history.specs.mt_model.Reply.{rows_reply}
use Rattle.part_history.specs.mt_model.Script.{IsNoExplain, OwnEntries}
use Rattle.part_history.specs.mt_model.Session.{Takes, TakesStatement}
use Rattle.part_history.proofs.MtModelOneWay.{IsNoQuery, never_failed, same_step, stays_there}
use Rattle.mt_plain.specs.Outcomes.{AreExactly}
use Rattle.mt_plain.specs.Plain.{Grows, IsRepliedIn, calm, select_of}
use Rattle.mt_plain.proofs.Answering.{calm_is}
use Rattle.mt_plain.proofs.Exactly.{contains_first, exactly_itself}
use Rattle.mt_plain.proofs.Steps.{answer_takes, unselected_takes}
use Rattle.mt_plain.proofs.Turning.{front_of, whole}

-- ---- a SELECT

is_select : (st : Result Statement Cause) (t : SelectText) → select_of st ≡ Some t → st ≡ Ok (statement.Select t)
is_select (Ok (statement.Create c)) t is = cc
is_select (Ok (statement.Insert i)) t is = cc
is_select (Ok (statement.Select s)) t is = let same : s ≡ t = cc in ap (λ (u : SelectText). Ok (statement.Select u)) same
is_select (Ok (statement.Explain s)) t is = cc
is_select (Ok (statement.Optimize o)) t is = cc
is_select (Err why) t is = cc

-- what is asked of the entries up to a place is asked of these alone
back_to : (g old : History) (t : SelectText) (to : ℕ) (reply : List ℕ) → to ≡ length old → take to g ≡ old → TakesStatement calm g 0 (statement.Select t) (length old) to reply → TakesStatement calm old 0 (statement.Select t) (length old) (length old) reply
back_to g old t to reply place front (inl (r, a)) =
    answer_takes old r.schema t r.lines reply (subst (λ (x : History). schema_of t.table x ≡ Some r.schema) front r.there) (subst (λ (x : History). Answer x r.schema t r.lines) front r.answer) (r.reply_is ∙ ap (rows_reply r.lines) place)
back_to g old t to reply place front (inr (inl (why, is, r))) = unselected_takes old t why reply (subst (λ (x : History). query_of_select t x ≡ Err why) front is) r.line
back_to g old t to reply place front (inr (inr (query, is, a, failed))) = absurd (never_failed calm reply calm_is failed)

-- it adds nothing
stays_select : (g old : History) (t : SelectText) (to : ℕ) (reply : List ℕ) → OwnEntries g (length old) → TakesStatement calm g 0 (statement.Select t) (length old) to reply → to ≡ length old
stays_select g old t to reply own (inl (r, a)) = stays_there g (length old) (length old) to own (omega arith) a
stays_select g old t to reply own (inr (inl (why, is, r))) = stays_there g (length old) (length old) to own (omega arith) r.nothing
stays_select g old t to reply own (inr (inr (query, is, a, failed))) = absurd (never_failed calm reply calm_is failed)

module _ (old : History) (st : Result Statement Cause) (t : SelectText) (replies : List (List ℕ)) (is : select_of st ≡ Some t) (are : AreExactly replies (λ reply. TakesStatement calm old 0 (statement.Select t) (length old) (length old) reply)) where
  pub select_each : (reply : List ℕ) → Contains replies reply → Takes calm old 0 st (length old) (length old) reply
  select_each reply own = subst (λ (s : Result Statement Cause). Takes calm old 0 s (length old) (length old) reply) (sym (is_select st t is)) ((are reply).0 own)

  pub select_all : (g : History) (to : ℕ) (reply : List ℕ) → IsRepliedIn g old st to reply → Contains replies reply × (take to g ≡ old)
  select_all g to reply r =
      let takes : TakesStatement calm g 0 (statement.Select t) (length old) to reply = subst (λ (s : Result Statement Cause). Takes calm g 0 s (length old) to reply) (is_select st t is) r.takes in
      let place : to ≡ length old = stays_select g old t to reply r.own takes in
      let front : take to g ≡ old = ap (λ (n : ℕ). take n g) place ∙ r.goes_on in
      ((are reply).1 (back_to g old t to reply place front takes), front)

-- ---- any other statement

no_query : (st : Result Statement Cause) → select_of st ≡ None → IsNoExplain st → IsNoQuery st
no_query (Ok (statement.Create c)) none other = tt
no_query (Ok (statement.Insert i)) none other = tt
no_query (Ok (statement.Select s)) none other = cc
no_query (Ok (statement.Explain s)) none other = absurd other
no_query (Ok (statement.Optimize o)) none other = tt
no_query (Err why) none other = tt

-- what was added is session 0's
own_added : (old new : History) → Grows old new → OwnEntries new (length old)
own_added old new grows = subst (All (λ (e : Entry). e.session ≡ 0)) (sym (ap (drop (length old)) grows.is ∙ drop_at old grows.more (length old) refl)) grows.own

module _ (old new : History) (st : Result Statement Cause) (r : List ℕ) (replies : List (List ℕ)) (only : replies ≡ r ∷ []) (takes : Takes calm new 0 st (length old) (length new) r) where
  pub step_each : (reply : List ℕ) → Contains replies reply → Takes calm new 0 st (length old) (length new) reply
  step_each reply own = subst (Takes calm new 0 st (length old) (length new)) (sym ((exactly_itself replies r only reply).0 own)) takes

  pub step_all : select_of st ≡ None → Grows old new → IsNoExplain st → (g : History) (to : ℕ) (reply : List ℕ) → IsRepliedIn g old st to reply → Contains replies reply × (take to g ≡ new)
  step_all none grows other g to reply in_g =
      let fronts : take (length old) g ≡ take (length old) new = in_g.goes_on ∙ sym (front_of old grows.more new grows.is) in
      let same = same_step calm calm_is g new (length old) to (length new) st reply r (no_query st none other) in_g.few in_g.own (own_added old new grows) fronts in_g.takes takes in
      (subst (λ (zs : List (List ℕ)). Contains zs reply) (sym only) (subst (Contains (r ∷ [])) (sym same.0) (contains_first r [])), same.1 ∙ whole new)
