-- A run stays one as the history grows, one more statement joins it at its end, and what one more entry adds.
use Rattle.std.proofs.Common.{◌≡◌, ℕ, ◌+◌, ◌-◌, ◌≤◌, List, [], ◌∷◌, ◌++◌, length, take, drop, refl, sym, ap, ◌∙◌, inl, inr, append_assoc, arith, Some, Result, Ok, Err, slice_get, subst, length-append, length-drop, append-nil, zero, suc}
use Rattle.std.proofs.lemmas.List.{take-append-le, drop-append-le}
use Rattle.mt_values.specs.declared.command.Entry.{Entry}
use Rattle.mt_values.specs.declared.command.Command.{Command}
use Rattle.mt_values.specs.declared.statement.Cause.{Cause}
use Rattle.mt_values.specs.declared.statement.Statement.{Statement}
use Rattle.mt_values.specs.declared.statement.Statement.TheVariants as statement
use Rattle.mt_values.specs.declared.statement.OptimizeText.{OptimizeText}
use Rattle.mt_values.specs.declared.statement.SelectText.{SelectText}
use Rattle.mt_model.specs.Commands.{commands_of}
use Rattle.mt_model.specs.History.{History, own, schema_of}
use Rattle.mt_model.specs.declared.refusal.Refusal.{Refusal}
use Rattle.mt_model.specs.Outside.{Outside}
use Rattle.mt_model.specs.Queries.{query_of_select}
use Rattle.mt_model.specs.Answer.{Answer}
use Rattle.mt_model.specs.Explain.{Explains}
use Rattle.mt_model.specs.Session.{AddsNothing, Adds, TurnAllows, Accepts, AcceptsAll, StopsAfter, Selects, RefusedAs, RefusedInTurn, CommandRefused, SelectRefused, ExplainRefused, TakesCommands, TakesOptimize, Takes, SessionRun}

-- what stands below a place stays there
same_part : (h more : History) (from to : ℕ) → from ≤ to → to ≤ length h → take (to - from) (drop from (h ++ more)) ≡ take (to - from) (drop from h)
same_part h more from to later le =
    let low : from ≤ length h = omega arith in
    let high : to - from ≤ length (drop from h) = omega (arith, length-drop from h) in
    rw (drop-append-le from h more low) (take-append-le (to - from) (drop from h) more high)

get_more : (h more : History) (i : ℕ) (e : Entry) → slice_get h i ≡ Some e → slice_get (h ++ more) i ≡ Some e
get_more [] more i e is = cc
get_more (x ∷ h) more zero e is = is
get_more (x ∷ h) more (suc i) e is = get_more h more i e is

-- the first entries stay the first ones
same_front : (h more : History) (n : ℕ) → n ≤ length h → take n h ≡ take n (h ++ more)
same_front h more n le = sym (take-append-le n h more le)

pub nothing_more : (h more : History) (s from to : ℕ) → AddsNothing h s from to → AddsNothing (h ++ more) s from to
nothing_more h more s from to a = record {
  later = a.later;
  there = omega (arith, a.there, length-append h more);
  none = ap (own s) (same_part h more from to a.later a.there) ∙ a.none;
}

pub adds_more : (h more : History) (s : ℕ) (c : Command) (from to : ℕ) → Adds h s c from to → Adds (h ++ more) s c from to
adds_more h more s c from to a = record {
  later = a.later;
  before = nothing_more h more s from (to - 1) a.before;
  there = get_more h more (to - 1) _ a.there;
}

pub accepts_more : (h more : History) (s : ℕ) (cs : List Command) (from to : ℕ) → Accepts h s cs from to → Accepts (h ++ more) s cs from to
accepts_more h more s [] from to a = a
accepts_more h more s (c ∷ cs) from to a =
    (a.0, subst (λ (x : History). TurnAllows x c) (same_front h more (a.0 - 1) a.2.before.there) a.1, adds_more h more s c from a.0 a.2, accepts_more h more s cs a.0 to a.3)

gives_more : (h more : History) (st : Statement) (n : ℕ) (r : Result (List Command) Refusal) → n ≤ length h → commands_of (take n h) st ≡ r → commands_of (take n (h ++ more)) st ≡ r
gives_more h more st n r le is = subst (λ (x : History). commands_of x st ≡ r) (same_front h more n le) is

pub all_more : (h more : History) (s : ℕ) (st : Statement) (from to : ℕ) → AcceptsAll h s st from to → AcceptsAll (h ++ more) s st from to
all_more h more s st from to a = record {
  seen = a.seen;
  commands = a.commands;
  nothing = nothing_more h more s from a.seen a.nothing;
  gives = gives_more h more st a.seen (Ok a.commands) a.nothing.there a.gives;
  accepted = accepts_more h more s a.commands a.seen to a.accepted;
}

pub stops_more : (h more : History) (s : ℕ) (st : Statement) (from to : ℕ) (done rest : List Command) → StopsAfter h s st from to done rest → StopsAfter (h ++ more) s st from to done rest
stops_more h more s st from to done rest a = record {
  seen = a.seen;
  place = a.place;
  nothing = nothing_more h more s from a.seen a.nothing;
  gives = gives_more h more st a.seen (Ok (done ++ rest)) a.nothing.there a.gives;
  accepted = accepts_more h more s done a.seen a.place a.accepted;
  no_more = nothing_more h more s a.place to a.no_more;
}

pub selects_more : (h more : History) (t : SelectText) (to : ℕ) (reply : List ℕ) → to ≤ length h → Selects h t to reply → Selects (h ++ more) t to reply
selects_more h more t to reply le r = record {
  schema = r.schema;
  lines = r.lines;
  there = subst (λ (x : History). schema_of t.table x ≡ Some r.schema) (same_front h more to le) r.there;
  answer = subst (λ (x : History). Answer x r.schema t r.lines) (same_front h more to le) r.answer;
  reply_is = r.reply_is;
}

-- ---- refusals stay

refused_more : (h more : History) (s from to : ℕ) (why : Refusal) (reply : List ℕ) → RefusedAs h s from to why reply → RefusedAs (h ++ more) s from to why reply
refused_more h more s from to why reply r = record { line = r.line; nothing = nothing_more h more s from to r.nothing }

in_turn_more : (n : Outside) (h more : History) (to accepted : ℕ) (next : Command) (reply : List ℕ) → to ≤ length h → RefusedInTurn n (take to h) accepted next reply → RefusedInTurn n (take to (h ++ more)) accepted next reply
in_turn_more n h more to accepted next reply le r = subst (λ (x : History). RefusedInTurn n x accepted next reply) (same_front h more to le) r

command_refused_more : (n : Outside) (h more : History) (s : ℕ) (st : Statement) (from to : ℕ) (reply : List ℕ) → CommandRefused n h s st from to reply → CommandRefused n (h ++ more) s st from to reply
command_refused_more n h more s st from to reply (inl (why, is, r)) =
    inl (why, gives_more h more st to (Err why) r.nothing.there is, refused_more h more s from to why reply r)
command_refused_more n h more s st from to reply (inr (inl (commands, is, some, a, failed))) =
    inr (inl (commands, gives_more h more st to (Ok commands) a.there is, some, nothing_more h more s from to a, failed))
command_refused_more n h more s st from to reply (inr (inr (done, next, rest, stops, r))) =
    inr (inr (done, next, rest, stops_more h more s st from to done (next ∷ rest) stops, in_turn_more n h more to (length done) next reply stops.no_more.there r))

select_refused_more : (n : Outside) (h more : History) (s : ℕ) (t : SelectText) (from to : ℕ) (reply : List ℕ) → SelectRefused n h s t from to reply → SelectRefused n (h ++ more) s t from to reply
select_refused_more n h more s t from to reply (inl (why, is, r)) =
    inl (why, subst (λ (x : History). query_of_select t x ≡ Err why) (same_front h more to r.nothing.there) is, refused_more h more s from to why reply r)
select_refused_more n h more s t from to reply (inr (query, is, a, failed)) =
    inr (query, subst (λ (x : History). query_of_select t x ≡ Ok query) (same_front h more to a.there) is, nothing_more h more s from to a, failed)

explain_refused_more : (h more : History) (s : ℕ) (t : SelectText) (from to : ℕ) (reply : List ℕ) → ExplainRefused h s t from to reply → ExplainRefused (h ++ more) s t from to reply
explain_refused_more h more s t from to reply (why, is, r) =
    (why, subst (λ (x : History). query_of_select t x ≡ Err why) (same_front h more to r.nothing.there) is, refused_more h more s from to why reply r)

-- ---- runs

commands_more : (n : Outside) (h more : History) (s : ℕ) (st : Statement) (from to : ℕ) (reply : List ℕ) → TakesCommands n h s st from to reply → TakesCommands n (h ++ more) s st from to reply
commands_more n h more s st from to reply (inl (is, a)) = inl (is, all_more h more s st from to a)
commands_more n h more s st from to reply (inr r) = inr (command_refused_more n h more s st from to reply r)

optimize_more : (n : Outside) (h more : History) (s : ℕ) (o : OptimizeText) (from to : ℕ) (reply : List ℕ) → TakesOptimize n h s o from to reply → TakesOptimize n (h ++ more) s o from to reply
optimize_more n h more s o from to reply (inl (is, a, r)) = inl (gives_more h more (statement.Optimize o) to (Ok []) a.there is, nothing_more h more s from to a, r)
optimize_more n h more s o from to reply (inr (why, is, r)) =
    inr (why, gives_more h more (statement.Optimize o) to (Err why) r.nothing.there is, refused_more h more s from to why reply r)

pub takes_more : (n : Outside) (h more : History) (s : ℕ) (st : Result Statement Cause) (from to : ℕ) (reply : List ℕ) → Takes n h s st from to reply → Takes n (h ++ more) s st from to reply
takes_more n h more s (Ok (statement.Create c)) from to reply t = commands_more n h more s (statement.Create c) from to reply t
takes_more n h more s (Ok (statement.Insert i)) from to reply t = commands_more n h more s (statement.Insert i) from to reply t
takes_more n h more s (Ok (statement.Select t)) from to reply (inl (is, a)) = inl (selects_more h more t to reply a.there is, nothing_more h more s from to a)
takes_more n h more s (Ok (statement.Select t)) from to reply (inr r) = inr (select_refused_more n h more s t from to reply r)
takes_more n h more s (Ok (statement.Explain t)) from to reply (inl (is, a)) =
    inl (subst (λ (x : History). Explains x t to reply) (same_front h more to a.there) is, nothing_more h more s from to a)
takes_more n h more s (Ok (statement.Explain t)) from to reply (inr r) = inr (explain_refused_more h more s t from to reply r)
takes_more n h more s (Ok (statement.Optimize o)) from to reply t = optimize_more n h more s o from to reply t
takes_more n h more s (Err why) from to reply r = refused_more h more s from to _ reply r

-- a run stays one as the history grows
pub run_more : (n : Outside) (h more : History) (s : ℕ) (ss : List (Result Statement Cause)) (from to : ℕ) (out : List ℕ) → SessionRun n h s ss from to out → SessionRun n (h ++ more) s ss from to out
run_more n h more s [] from to out r = r
run_more n h more s (st ∷ ss) from to out r =
    (r.0, r.1, r.2, takes_more n h more s st from r.0 r.1 r.3, run_more n h more s ss r.0 to r.2 r.4, r.5)

-- one statement more at the end of a run
pub run_append : (n : Outside) (h : History) (s : ℕ) (ss : List (Result Statement Cause)) (st : Result Statement Cause) (from mid to : ℕ) (out reply : List ℕ) → SessionRun n h s ss from mid out → Takes n h s st mid to reply → SessionRun n h s (ss ++ st ∷ []) from to (out ++ reply)
run_append n h s [] st from mid to out reply r t =
    (to, reply, [], subst (λ (p : ℕ). Takes n h s st p to reply) (sym r.0) t, (refl, refl), ap (λ zs. zs ++ reply) r.1 ∙ sym (append-nil reply))
run_append n h s (x ∷ ss) st from mid to out reply r t =
    (r.0, r.1, r.2 ++ reply, r.3, run_append n h s ss st r.0 mid to r.2 reply r.4 t, ap (λ zs. zs ++ reply) r.5 ∙ append_assoc r.1 r.2 reply)

no_part : (n : ℕ) (h : History) → take (n - n) (drop n h) ≡ []
no_part n h = let e : n - n ≡ 0 = omega arith in rw e refl

-- a session that stays where it is accepts nothing
pub stays : (h : History) (s n : ℕ) → n ≤ length h → AddsNothing h s n n
stays h s n le = record { later = omega arith; there = le; none = ap (own s) (no_part n h) }

get_last : (h : History) (e : Entry) → slice_get (h ++ e ∷ []) (length h) ≡ Some e
get_last [] e = refl
get_last (x ∷ h) e = get_last h e

-- an entry at the end is the one command that its session accepted from there on
pub adds_last : (h : History) (e : Entry) (s : ℕ) → e.session ≡ s → Adds (h ++ e ∷ []) s e.command (length h) (length h + 1)
adds_last h e s is =
    let back : length h + 1 - 1 ≡ length h = omega arith in
    let nothing : AddsNothing (h ++ e ∷ []) s (length h) (length h) = stays (h ++ e ∷ []) s (length h) (omega (arith, length-append h (e ∷ []))) in
    record {
      later = omega arith;
      before = rw back nothing;
      there = rw back (get_last h e ∙ ap Some (ap (λ (n : ℕ). record { session = n; command = e.command }) is));
    }
