-- Statements that meet no cause are not refused, where no count rose.
use Rattle.std.proofs.Common.{◌≡◌, ℕ, ◌-◌, ◌<◌, ◌≤◌, ◌^◌, false, List, [], ◌∷◌, ◌++◌, Option, Some, None, Result, Ok, Err, length, take, refl, sym, ap, ◌∙◌, subst, append-nil, inl, inr, arith}
use Rattle.std.specs.List.{list_any}
use Rattle.mt_values.specs.declared.command.Command.{Command}
use Rattle.mt_values.specs.declared.schema.Schema.{Schema}
use Rattle.mt_values.specs.declared.statement.Cause.{Cause}
use Rattle.mt_values.specs.declared.statement.Statement.{Statement}
use Rattle.mt_values.specs.declared.statement.Statement.TheVariants as statement
use Rattle.mt_model.specs.Causes.{MeetsCause, NoneMeetsCause, commands_or_none, given}
use Rattle.mt_model.specs.Commands.{commands_of, no_commands, none_on}
use Rattle.mt_model.specs.declared.refusal.Refusal.{Refusal}
use Rattle.mt_model.specs.History.{History, entered, schema_of}
use Rattle.mt_model.specs.Outside.{Outside}
use Rattle.mt_model.specs.Refusals.{code_of, is_refusal}
use Rattle.mt_model.specs.Queries.{query_of_select}
use Rattle.mt_model.specs.declared.query.Query.{Query}
use Rattle.mt_model.specs.Script.{OwnEntries, ScriptReplies}
use Rattle.mt_model.specs.Session.{Accepts, AddsNothing, SessionReplies, TurnRefuses, TakesCommands, Takes}
use Rattle.mt_model.proofs.OneWay.{IsCalm, all_entered, never_failed, never_in_turn, never_merging, stays_there}
use Rattle.mt_model.proofs.Places.{stops_places, takes_places}

-- a reply without a number refuses nothing
not_refused : (reply is : List ℕ) → reply ≡ is → code_of is ≡ 0 → is_refusal reply ≡ false
not_refused reply is same none = let e : code_of reply ≡ 0 = ap code_of same ∙ none in rw e refl

module _ (n : Outside) (calm : IsCalm n) (h : History) (base from to : ℕ) (own : OwnEntries h base) (past : base ≤ from) where
  here : {X : Type 0} (f : History → X) (x : X) → AddsNothing h 0 from to → f (take to h) ≡ x → f (take from h) ≡ x
  here f x a is = ap (λ (k : ℕ). f (take k h)) (sym (stays_there h base from to own past a)) ∙ is

  -- who adds nothing goes on after no command
  stays : (cs : List Command) → cs ≡ [] → AddsNothing h 0 from to → take to h ≡ entered (take from h) 0 cs
  stays cs none a = ap (λ (k : ℕ). take k h) (stays_there h base from to own past a) ∙ (sym (append-nil (take from h)) ∙ ap (entered (take from h) 0) (sym none))

  -- a statement that meets no cause is taken to the place after its commands
  commands_go : (st : Statement) (reply : List ℕ) → TakesCommands n h 0 st from to reply → (MeetsCause (take from h) (Ok st) → ⊥) → (take to h ≡ entered (take from h) 0 (given (take from h) (Ok st))) × (is_refusal reply ≡ false)
  commands_go st reply (inl (is, a)) none =
      let seen : a.seen ≡ from = stays_there h base from a.seen own past a.nothing in
      let gives : commands_of (take from h) st ≡ Ok a.commands = subst (λ (k : ℕ). commands_of (take k h) st ≡ Ok a.commands) seen a.gives in
      let accepted : Accepts h 0 a.commands from to = subst (λ (k : ℕ). Accepts h 0 a.commands k to) seen a.accepted in
      (all_entered h base from to a.commands own past accepted ∙ ap (entered (take from h) 0) (sym (ap commands_or_none gives)), not_refused reply _ is refl)
  commands_go st reply (inr (inl (why, is, r))) none = absurd (none (inl (why, here (λ x. commands_of x st) (Err why) r.nothing is)))
  commands_go st reply (inr (inr (inl (commands, is, some, a, failed)))) none = absurd (never_failed n reply calm failed)
  commands_go st reply (inr (inr (inr (done, next, rest, a, inl (why, turn, line))))) none =
      let cs = done ++ next ∷ rest in
      let seen : a.seen ≡ from = stays_there h base from a.seen own past a.nothing in
      let gives : commands_of (take from h) st ≡ Ok cs = subst (λ (k : ℕ). commands_of (take k h) st ≡ Ok cs) seen a.gives in
      let accepted : Accepts h 0 done from a.place = subst (λ (k : ℕ). Accepts h 0 done k a.place) seen a.accepted in
      let between = stops_places h 0 st from to done (next ∷ rest) a in
      let place : to ≡ a.place = stays_there h base a.place to own (omega (arith, past, between.first, between.later)) a.no_more in
      let grown : take to h ≡ entered (take from h) 0 done = ap (λ (k : ℕ). take k h) place ∙ all_entered h base from a.place done own past accepted in
      absurd (none (inr (done, next, rest, why, gives, subst (λ (x : History). TurnRefuses x (length done) next why) grown turn)))
  commands_go st reply (inr (inr (inr (done, next, rest, a, inr (allows, failed))))) none = absurd (never_in_turn n (length done) reply calm failed)

  no_more : (r : Result Query Refusal) → commands_or_none (no_commands r) ≡ []
  no_more (Ok query) = refl
  no_more (Err why) = refl

  none_more : (table : List ℕ) (o : Option Schema) → commands_or_none (none_on table o) ≡ []
  none_more table None = refl
  none_more table (Some schema) = refl

  goes_on : (st : Result Statement Cause) (reply : List ℕ) → Takes n h 0 st from to reply → (MeetsCause (take from h) st → ⊥) → (take to h ≡ entered (take from h) 0 (given (take from h) st)) × (is_refusal reply ≡ false)
  goes_on (Ok (statement.Create c)) reply t none = commands_go (statement.Create c) reply t none
  goes_on (Ok (statement.Insert i)) reply t none = commands_go (statement.Insert i) reply t none
  goes_on (Ok (statement.Select t)) reply (inl (r, a)) none = (stays _ (no_more (query_of_select t (take from h))) a, not_refused reply _ r.reply_is refl)
  goes_on (Ok (statement.Select t)) reply (inr (inl (why, is, r))) none = absurd (none (inl (why, ap no_commands (here (query_of_select t) (Err why) r.nothing is))))
  goes_on (Ok (statement.Select t)) reply (inr (inr (query, is, a, failed))) none = absurd (never_failed n reply calm failed)
  goes_on (Ok (statement.Explain t)) reply (inl (r, a)) none = (stays _ (no_more (query_of_select t (take from h))) a, not_refused reply _ r.reply_is refl)
  goes_on (Ok (statement.Explain t)) reply (inr (why, is, r)) none = absurd (none (inl (why, ap no_commands (here (query_of_select t) (Err why) r.nothing is))))
  goes_on (Ok (statement.Optimize o)) reply (inl (is, a, inl ok)) none = (stays _ (none_more o.table (schema_of o.table (take from h))) a, not_refused reply _ ok refl)
  goes_on (Ok (statement.Optimize o)) reply (inl (is, a, inr failed)) none = absurd (never_merging n o reply calm failed)
  goes_on (Ok (statement.Optimize o)) reply (inr (why, is, r)) none = absurd (none (inl (why, here (λ x. commands_of x (statement.Optimize o)) (Err why) r.nothing is)))
  goes_on (Err why) reply r none = absurd (none tt)

-- so no reply of the script refuses
none_in : (n : Outside) (calm : IsCalm n) (h : History) (base : ℕ) (own : OwnEntries h base) (ss : List (Result Statement Cause)) (from to : ℕ) (replies : List (List ℕ)) → base ≤ from → SessionReplies n h 0 ss from to replies → NoneMeetsCause (take from h) ss
    → list_any is_refusal replies ≡ false
none_in n calm h base own [] from to [] past run none = refl
none_in n calm h base own [] from to (reply ∷ replies) past run none = absurd run
none_in n calm h base own (s ∷ ss) from to [] past run none = absurd run
none_in n calm h base own (s ∷ ss) from to (reply ∷ replies) past run none =
    let step = goes_on n calm h base from run.0 own past s reply run.1 none.0 in
    let places = takes_places n h 0 s from run.0 reply run.1 in
    let later : base ≤ run.0 = omega (arith, past, places.0) in
    let rest = none_in n calm h base own ss run.0 to replies later run.2 (subst (λ (x : History). NoneMeetsCause x ss) (sym step.0) none.1) in
    rw step.1 rest

pub none_refused : (n : Outside) (script : List (Result Statement Cause)) (h : History) (base : ℕ) (replies : List (List ℕ)) → n.ended ≡ n.opened → n.ended < 2 ^ 64 - 1 → n.full ≡ false → n.company ≡ false → ScriptReplies n script h base replies → NoneMeetsCause (take base h) script
    → list_any is_refusal replies ≡ false
none_refused n script h base replies still below room alone each none = none_in n (record { still = still; below = below; room = room; alone = alone }) h base each.sessions script base each.last replies (omega arith) each.run none
