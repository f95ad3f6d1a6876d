-- What a refused statement's reply is.
use Rattle.std.proofs.Common.{◌≡◌, ℕ, ◌<◌, List, [], ◌∷◌, length, refl, sym, ap, ◌∙◌, subst, inl, inr, arith, Ok, Err}
use Rattle.mt_values.specs.declared.command.Command.{Command}
use Rattle.mt_values.specs.declared.statement.Cause.{Cause}
use Rattle.mt_values.specs.declared.statement.OptimizeText.{OptimizeText}
use Rattle.mt_values.specs.declared.statement.SelectText.{SelectText}
use Rattle.mt_values.specs.declared.statement.Statement.{Statement}
use Rattle.mt_values.specs.declared.statement.Statement.TheVariants as statement
use Rattle.mt_values.specs.Annals.{Told}
use Rattle.mt_model.specs.Commands.{commands_of}
use Rattle.mt_model.specs.declared.refusal.Refusal.{Refusal}
use Rattle.mt_model.specs.Explain.{Explains}
use Rattle.mt_model.specs.History.{History}
use Rattle.mt_model.specs.Outside.{Outside, ReadOrStageFailed, TurnFailed}
use Rattle.mt_model.specs.Refusals.{refusal_line, refusal_of_cause}
use Rattle.mt_model.specs.Queries.{query_of_select}
use Rattle.mt_model.specs.Reply.{ok_line}
use Rattle.mt_model.specs.declared.query.Query.{Query}
use Rattle.mt_model.specs.Session.{AddsNothing, MergeFailed, RefusedAs, RefusedInTurn, StopsAfter, Takes, TakesCommands, TakesOptimize, TurnAllows, TurnRefuses}
use Rattle.replies.specs.Foreseen.{history}
use Rattle.replies.proofs.Ends.{added_nothing, adds_nothing, all_front, whole_front}

-- a statement that stops before its first command, at the end of what the annals list
pub stops_first : (kept : Told) (s : Statement) (next : Command) (rest : List Command) → commands_of (history kept) s ≡ Ok (next ∷ rest)
    → StopsAfter (history kept) 0 s (length kept.list) (length kept.list) [] (next ∷ rest)
stops_first kept s next rest is = record {
  seen = length kept.list;
  place = length kept.list;
  nothing = added_nothing kept;
  gives = ap (λ (h : History). commands_of h s) (whole_front kept) ∙ is;
  accepted = refl;
  no_more = added_nothing kept;
}

-- at the end of what the annals list
module _ (n : Outside) (kept : Told) (reply : List ℕ) where
  refused : (why : Refusal) → reply ≡ refusal_line why → RefusedAs (history kept) 0 (length kept.list) (length kept.list) why reply
  refused why is = record { line = is; nothing = added_nothing kept }

  -- a CREATE or an INSERT
  module _ (s : Statement) where
    abbrev Replied : Type 0
    Replied = TakesCommands n (history kept) 0 s (length kept.list) (length kept.list) reply

    pub command_refused : (why : Refusal) → commands_of (history kept) s ≡ Err why → reply ≡ refusal_line why → Replied
    command_refused why is line = inr (inl (why, ap (λ (h : History). commands_of h s) (whole_front kept) ∙ is, refused why line))

    -- its first command
    module _ (next : Command) (rest : List Command) (is : commands_of (history kept) s ≡ Ok (next ∷ rest)) where
      pub command_failed : ReadOrStageFailed n reply → Replied
      command_failed failed = inr (inr (inl (next ∷ rest, ap (λ (h : History). commands_of h s) (whole_front kept) ∙ is, some, added_nothing kept, failed)))
        where
          some : 0 < length (next ∷ rest)
          some = omega arith

      at_turn : RefusedInTurn n (history kept) 0 next reply → Replied
      at_turn turn =
          inr (inr (inr ([], next, rest, stops_first kept s next rest is, subst (λ (h : History). RefusedInTurn n h 0 next reply) (sym (whole_front kept)) turn)))

      pub command_full : (why : Refusal) → TurnRefuses (history kept) 0 next why → reply ≡ refusal_line why → Replied
      command_full why turn line = at_turn (inl (why, turn, line))

      pub command_unsettled : TurnAllows (history kept) next → TurnFailed n 0 reply → Replied
      command_unsettled turn failed = at_turn (inr (turn, failed))

  -- an OPTIMIZE
  module _ (o : OptimizeText) where
    abbrev Optimized : Type 0
    Optimized = TakesOptimize n (history kept) 0 o (length kept.list) (length kept.list) reply

    pub optimize_refused : (why : Refusal) → commands_of (history kept) (statement.Optimize o) ≡ Err why → reply ≡ refusal_line why → Optimized
    optimize_refused why is line = inr (why, ap (λ (h : History). commands_of h (statement.Optimize o)) (whole_front kept) ∙ is, refused why line)

    -- its table is there
    module _ (there : commands_of (history kept) (statement.Optimize o) ≡ Ok []) where
      pub optimize_done : reply ≡ ok_line (length kept.list) → Optimized
      optimize_done line = inl (ap (λ (h : History). commands_of h (statement.Optimize o)) (whole_front kept) ∙ there, added_nothing kept, inl line)

      pub optimize_failed : MergeFailed n o reply → Optimized
      optimize_failed failed = inl (ap (λ (h : History). commands_of h (statement.Optimize o)) (whole_front kept) ∙ there, added_nothing kept, inr failed)

  -- a text that is no statement
  pub text_refused : (why : Cause) → reply ≡ refusal_line (refusal_of_cause why) → Takes n (history kept) 0 (Err why) (length kept.list) (length kept.list) reply
  text_refused why is = refused (refusal_of_cause why) is

-- a SELECT or an EXPLAIN at the end of a history, of any session
module _ (n : Outside) (h : History) (session : ℕ) (s : SelectText) (reply : List ℕ) where
  read_refused : (why : Refusal) → reply ≡ refusal_line why → RefusedAs h session (length h) (length h) why reply
  read_refused why is = record { line = is; nothing = adds_nothing h session }

  pub select_refused : (why : Refusal) → query_of_select s h ≡ Err why → reply ≡ refusal_line why → Takes n h session (Ok (statement.Select s)) (length h) (length h) reply
  select_refused why asked is = inr (inl (why, ap (query_of_select s) (all_front h) ∙ asked, read_refused why is))

  pub select_failed : (query : Query) → query_of_select s h ≡ Ok query → ReadOrStageFailed n reply → Takes n h session (Ok (statement.Select s)) (length h) (length h) reply
  select_failed query is failed = inr (inr (query, ap (query_of_select s) (all_front h) ∙ is, adds_nothing h session, failed))

  pub explain_refused : (why : Refusal) → query_of_select s h ≡ Err why → reply ≡ refusal_line why → Takes n h session (Ok (statement.Explain s)) (length h) (length h) reply
  explain_refused why asked is = inr (why, ap (query_of_select s) (all_front h) ∙ asked, read_refused why is)

  pub explains_all : Explains h s (length h) reply → Takes n h session (Ok (statement.Explain s)) (length h) (length h) reply
  explains_all explains = inl (subst (λ (x : History). Explains x s (length h) reply) (sym (all_front h)) explains, adds_nothing h session)

  -- who added nothing since may have begun before
  module _ (from : ℕ) (nothing : AddsNothing h session from (length h)) where
    pub select_from : Takes n h session (Ok (statement.Select s)) (length h) (length h) reply → Takes n h session (Ok (statement.Select s)) from (length h) reply
    select_from (inl (selects, none)) = inl (selects, nothing)
    select_from (inr (inl (why, asked, r))) = inr (inl (why, asked, record { line = r.line; nothing = nothing }))
    select_from (inr (inr (query, asked, none, failed))) = inr (inr (query, asked, nothing, failed))

    pub explain_from : Takes n h session (Ok (statement.Explain s)) (length h) (length h) reply → Takes n h session (Ok (statement.Explain s)) from (length h) reply
    explain_from (inl (explains, none)) = inl (explains, nothing)
    explain_from (inr (why, asked, r)) = inr (why, asked, record { line = r.line; nothing = nothing })
