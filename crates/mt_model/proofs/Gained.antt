-- What statements gave, from one place of a history to another.
use Rattle.std.proofs.Common.{ℕ, List, [], ◌∷◌, ◌++◌, Result, Ok, Err, refl, sym, ap, ◌∙◌, subst, append-nil, inl, inr}
use Rattle.mt_values.specs.declared.command.Command.{Command}
use Rattle.mt_values.specs.declared.statement.Cause.{Cause}
use Rattle.mt_values.specs.declared.statement.Statement.{Statement}
use Rattle.mt_values.specs.declared.statement.Statement.TheVariants as statement
use Rattle.mt_model.specs.History.{History}
use Rattle.mt_model.specs.Outside.{Outside}
use Rattle.mt_model.specs.Session.{IsNextCommand, SessionGives, SessionReplies, Takes, TakesCommands, Unanswered}
use Rattle.mt_model.proofs.Growing.{nothing_more, stays, stops_more}
use Rattle.mt_model.proofs.Places.{all_places}

commands_give : (n : Outside) (h : History) (s : ℕ) (st : Statement) (from to : ℕ) (reply : List ℕ) → TakesCommands n h s st from to reply → Unanswered h s (Ok st) from to
commands_give n h s st from to reply (inl (is, a)) =
    let places = all_places h s st from to a in
    inr (
      a.commands,
      [],
      record { seen = a.seen; place = to; nothing = a.nothing; gives = a.gives ∙ ap Ok (sym (append-nil a.commands)); accepted = a.accepted; no_more = stays h s to places.there },
    )
commands_give n h s st from to reply (inr (inl (why, is, r))) = inl r.nothing
commands_give n h s st from to reply (inr (inr (inl (commands, is, some, a, failed)))) = inl a
commands_give n h s st from to reply (inr (inr (inr (done, next, rest, stops, r)))) = inr (done, next ∷ rest, stops)

-- a statement that has a reply gave the first of its commands, or none
pub takes_give : (n : Outside) (h : History) (s : ℕ) (st : Result Statement Cause) (from to : ℕ) (reply : List ℕ) → Takes n h s st from to reply → Unanswered h s st from to
takes_give n h s (Ok (statement.Create c)) from to reply t = commands_give n h s (statement.Create c) from to reply t
takes_give n h s (Ok (statement.Insert i)) from to reply t = commands_give n h s (statement.Insert i) from to reply t
takes_give n h s (Ok (statement.Select t)) from to reply (inl (is, a)) = inl a
takes_give n h s (Ok (statement.Select t)) from to reply (inr (inl (why, is, r))) = inl r.nothing
takes_give n h s (Ok (statement.Select t)) from to reply (inr (inr (columns, is, a, failed))) = inl a
takes_give n h s (Ok (statement.Explain t)) from to reply (inl (is, a)) = inl a
takes_give n h s (Ok (statement.Explain t)) from to reply (inr (why, is, r)) = inl r.nothing
takes_give n h s (Ok (statement.Optimize o)) from to reply (inl (is, a, r)) = inl a
takes_give n h s (Ok (statement.Optimize o)) from to reply (inr (why, is, r)) = inl r.nothing
takes_give n h s (Err why) from to reply r = r.nothing

pub replies_give : (n : Outside) (h : History) (s : ℕ) (ss : List (Result Statement Cause)) (from to : ℕ) (replies : List (List ℕ)) → SessionReplies n h s ss from to replies → SessionGives h s ss from to
replies_give n h s [] from to [] r = r
replies_give n h s [] from to (x ∷ xs) r = absurd r
replies_give n h s (st ∷ ss) from to [] r = absurd r
replies_give n h s (st ∷ ss) from to (x ∷ xs) r = (r.0, takes_give n h s st from r.0 x r.1, replies_give n h s ss r.0 to xs r.2)

-- what was given stays so as the history grows
pub unanswered_more : (h more : History) (s : ℕ) (st : Result Statement Cause) (from to : ℕ) → Unanswered h s st from to → Unanswered (h ++ more) s st from to
unanswered_more h more s (Ok st) from to (inl a) = inl (nothing_more h more s from to a)
unanswered_more h more s (Ok st) from to (inr (done, rest, stops)) = inr (done, rest, stops_more h more s st from to done rest stops)
unanswered_more h more s (Err why) from to a = nothing_more h more s from to a

pub gives_more : (h more : History) (s : ℕ) (ss : List (Result Statement Cause)) (from to : ℕ) → SessionGives h s ss from to → SessionGives (h ++ more) s ss from to
gives_more h more s [] from to g = g
gives_more h more s (st ∷ ss) from to g = (g.0, unanswered_more h more s st from g.0 g.1, gives_more h more s ss g.0 to g.2)

-- one statement more at the end
pub gives_append : (h : History) (s : ℕ) (ss : List (Result Statement Cause)) (st : Result Statement Cause) (from mid to : ℕ) → SessionGives h s ss from mid → Unanswered h s st mid to → SessionGives h s (ss ++ st ∷ []) from to
gives_append h s [] st from mid to g u = (to, subst (λ (p : ℕ). Unanswered h s st p to) (sym g) u, refl)
gives_append h s (x ∷ ss) st from mid to g u = (g.0, g.1, gives_append h s ss st g.0 mid to g.2 u)

-- a statement whose next command was not accepted gave those before it
pub next_gives : (h : History) (s : ℕ) (st : Result Statement Cause) (from to : ℕ) (c : Command) → IsNextCommand h s st from to c → Unanswered h s st from to
next_gives h s (Ok st) from to c (done, rest, stops) = inr (done, c ∷ rest, stops)
next_gives h s (Err why) from to c next = absurd next

pub next_more : (h more : History) (s : ℕ) (st : Result Statement Cause) (from to : ℕ) (c : Command) → IsNextCommand h s st from to c → IsNextCommand (h ++ more) s st from to c
next_more h more s (Ok st) from to c (done, rest, stops) = (done, rest, stops_more h more s st from to done (c ∷ rest) stops)
next_more h more s (Err why) from to c next = absurd next
