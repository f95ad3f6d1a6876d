-- What a session adds from one place to another, and that a refused statement adds the commands that its line counts.
use Rattle.std.proofs.Common.{◌≡◌, ℕ, ◌+◌, ◌-◌, ◌<◌, ◌≤◌, Bool, true, false, cond, ◌==◌, List, [], ◌∷◌, ◌++◌, Some, Result, Ok, Err, length, take, drop, slice_get, refl, sym, ap, ◌∙◌, subst, append-nil, arith, inl, inr, zero, suc}
use Rattle.std.proofs.Math.Seq.{take-add}
use Rattle.std.proofs.lemmas.Bool.Decides.{Decides-eqb}
use Rattle.std.proofs.lemmas.List.{drop-drop}
use Rattle.mt_values.specs.declared.command.Command.{Command}
use Rattle.mt_values.specs.declared.command.Entry.{Entry}
use Rattle.mt_values.specs.declared.statement.Cause.{Cause}
use Rattle.mt_values.specs.declared.statement.OptimizeText.{OptimizeText}
use Rattle.mt_values.specs.declared.statement.Statement.{Statement}
use Rattle.mt_values.specs.declared.statement.Statement.TheVariants as statement
use Rattle.mt_model.specs.declared.refusal.Bound.TheVariants as bound
use Rattle.mt_model.specs.declared.refusal.Refusal.{Refusal}
use Rattle.mt_model.specs.declared.refusal.Refusal.TheVariants as refusal
use Rattle.mt_model.specs.History.{History, own}
use Rattle.mt_model.specs.Outside.{Outside, TurnFailed}
use Rattle.mt_model.specs.Refusals.{accepted_by, code_of, refusal_line, refusal_of_cause}
use Rattle.mt_model.specs.Session.{Accepts, Adds, AddsNothing, AddsOnly, MergeFailed, StopsAfter, TakesCommands, Takes}
use Rattle.mt_model.proofs.Causes.{cause_tells, select_is_cause, commands_are_cause}
use Rattle.mt_model.proofs.Commands.{insert_or_first, turn_counts}
use Rattle.mt_model.proofs.Growing.{stays}
use Rattle.mt_model.proofs.Places.{get_below}

-- ---- what a session adds

own_append : (s : ℕ) (h more : History) → own s (h ++ more) ≡ own s h ++ own s more
own_append s [] more = refl
own_append s (e ∷ h) more = by (e.session == s) (own_append s h more)
  where
    by : (b : Bool) → own s (h ++ more) ≡ own s h ++ own s more → cond b (e.command ∷ own s (h ++ more)) (own s (h ++ more)) ≡ cond b (e.command ∷ own s h) (own s h) ++ own s more
    by true rest = ap (λ (cs : List Command). e.command ∷ cs) rest
    by false rest = rest

pub adds_none : (h : History) (s from to : ℕ) → AddsNothing h s from to → AddsOnly h s [] from to
adds_none h s from to a = record { later = a.later; there = a.there; are = a.none }

-- from one place to another, and on to a third
pub adds_join : (h : History) (s : ℕ) (cs ds : List Command) (from mid to : ℕ) → AddsOnly h s cs from mid → AddsOnly h s ds mid to → AddsOnly h s (cs ++ ds) from to
adds_join h s cs ds from mid to a b =
    let low : from ≤ mid = a.later in
    let high : mid ≤ to = b.later in
    let size : to - from ≡ (mid - from) + (to - mid) = omega arith in
    let back : from + (mid - from) ≡ mid = omega arith in
    let split : take (to - from) (drop from h) ≡ take (mid - from) (drop from h) ++ take (to - mid) (drop mid h) =
    ap (λ (n : ℕ). take n (drop from h)) size
    ∙ (take-add (mid - from) (to - mid) (drop from h)
    ∙ ap (λ (x : History). take (mid - from) (drop from h) ++ take (to - mid) x) (drop-drop (mid - from) from h ∙ ap (λ (n : ℕ). drop n h) back)) in
    record {
      later = omega arith;
      there = b.there;
      are = ap (own s) split ∙ (own_append s (take (mid - from) (drop from h)) (take (to - mid) (drop mid h))
          ∙ (ap (λ (xs : List Command). xs ++ own s (take (to - mid) (drop mid h))) a.are ∙ ap (λ (xs : List Command). cs ++ xs) b.are));
    }

take_one : (h : History) (i : ℕ) (e : Entry) → slice_get h i ≡ Some e → take 1 (drop i h) ≡ e ∷ []
take_one [] i e is = cc
take_one (x ∷ h) zero e is = let same : x ≡ e = cc in ap (λ (y : Entry). y ∷ []) same
take_one (x ∷ h) (suc i) e is = take_one h i e is

adds_one : (h : History) (s : ℕ) (c : Command) (from to : ℕ) → Adds h s c from to → AddsOnly h s (c ∷ []) from to
adds_one h s c from to a =
    let e : Entry = record { session = s; command = c } in
    let below : to - 1 < length h = get_below h (to - 1) e a.there in
    let one : to - (to - 1) ≡ 1 = omega (arith, a.later) in
    let mine : (s == s) ≡ true = (Decides-eqb s s).1 refl in
    let last : AddsOnly h s (c ∷ []) (to - 1) to = record {
      later = omega (arith, a.later);
      there = omega (arith, a.later, below);
      are = ap (λ (n : ℕ). own s (take n (drop (to - 1) h))) one ∙ (ap (own s) (take_one h (to - 1) e a.there) ∙ ap (λ (b : Bool). cond b (c ∷ []) []) mine);
    } in
    adds_join h s [] (c ∷ []) from (to - 1) to (adds_none h s from (to - 1) a.before) last

-- a session that accepts commands adds these
pub accepts_adds : (h : History) (s : ℕ) (cs : List Command) (from to : ℕ) → from ≤ length h → Accepts h s cs from to → AddsOnly h s cs from to
accepts_adds h s [] from to le a = subst (λ (n : ℕ). AddsOnly h s [] from n) a (adds_none h s from from (stays h s from le))
accepts_adds h s (c ∷ cs) from to le a =
    let one = adds_one h s c from a.0 a.2 in
    adds_join h s (c ∷ []) cs from a.0 to one (accepts_adds h s cs a.0 to one.there a.3)

-- where it stops, it added those that were accepted
pub stops_adds : (h : History) (s : ℕ) (st : Statement) (from to : ℕ) (done rest : List Command) → StopsAfter h s st from to done rest → AddsOnly h s done from to
stops_adds h s st from to done rest a =
    let some = accepts_adds h s done a.seen a.place a.nothing.there a.accepted in
    let first = adds_join h s [] done from a.seen a.place (adds_none h s from a.seen a.nothing) some in
    subst (λ (cs : List Command). AddsOnly h s cs from to) (append-nil done) (adds_join h s done [] from a.place to first (adds_none h s a.place to a.no_more))

-- ---- what a refused statement adds

-- the reply is that of a refusal, which counts the commands that were added
abbrev Counted : History → ℕ → ℕ → ℕ → List ℕ → Type 0
Counted h s from to reply = (why : Refusal) × (done : List Command) × (reply ≡ refusal_line why) × (length done ≡ accepted_by why) × AddsOnly h s done from to

no_number : (reply is : List ℕ) → reply ≡ is → code_of is ≡ 0 → 0 < code_of reply → ⊥
no_number reply is same none some = let e = ap code_of same ∙ none in omega (arith, e, some)

turn_failed : (n : Outside) (h : History) (s : ℕ) (done : List Command) (from to : ℕ) (reply : List ℕ) → AddsOnly h s done from to → TurnFailed n (length done) reply → Counted h s from to reply
turn_failed n h s done from to reply a (inl failed) = (refusal.Unsettled (length done), done, failed.0, refl, a)
turn_failed n h s done from to reply a (inr (now, low, ended, rose, is)) = (refusal.Stopped n.opened now (length done), done, is, refl, a)

merge_counted : (n : Outside) (h : History) (s : ℕ) (o : OptimizeText) (from to : ℕ) (reply : List ℕ) → AddsNothing h s from to → MergeFailed n o reply → Counted h s from to reply
merge_counted n h s o from to reply a (inl failed) = (refusal.Failed, [], failed.0, refl, adds_none h s from to a)
merge_counted n h s o from to reply a (inr (inl (whole, inl failed))) = (refusal.Past bound.Levels, [], failed.0, refl, adds_none h s from to a)
merge_counted n h s o from to reply a (inr (inl (whole, inr busy))) = (refusal.Busy busy.1, [], busy.2, refl, adds_none h s from to a)
merge_counted n h s o from to reply a (inr (inr failed)) = turn_failed n h s [] from to reply (adds_none h s from to a) failed

commands_counted : (n : Outside) (h : History) (s : ℕ) (st : Statement) (from to : ℕ) (reply : List ℕ) → TakesCommands n h s st from to reply → 0 < code_of reply → Counted h s from to reply
commands_counted n h s st from to reply (inl (is, a)) some = absurd (no_number reply _ is refl some)
commands_counted n h s st from to reply (inr (inl (why, is, r))) some =
    (why, [], r.line, sym (commands_are_cause (take to h) st why is).1, adds_none h s from to r.nothing)
commands_counted n h s st from to reply (inr (inr (inl (commands, is, any, a, failed)))) some = (refusal.Failed, [], failed.0, refl, adds_none h s from to a)
commands_counted n h s st from to reply (inr (inr (inr (done, next, rest, stops, inl (why, turn, line))))) some =
    (why, done, line, sym (turn_counts (take to h) done next why (insert_or_first (take stops.seen h) st done rest next stops.gives) turn), stops_adds h s st from to done (next ∷ rest) stops)
commands_counted n h s st from to reply (inr (inr (inr (done, next, rest, stops, inr (allows, failed))))) some =
    turn_failed n h s done from to reply (stops_adds h s st from to done (next ∷ rest) stops) failed

pub refused_counts : (n : Outside) (h : History) (s : ℕ) (st : Result Statement Cause) (from to : ℕ) (reply : List ℕ) → Takes n h s st from to reply → 0 < code_of reply
    → (why : Refusal) × (done : List Command) × (reply ≡ refusal_line why) × (length done ≡ accepted_by why) × AddsOnly h s done from to
refused_counts n h s (Ok (statement.Create c)) from to reply t some = commands_counted n h s (statement.Create c) from to reply t some
refused_counts n h s (Ok (statement.Insert i)) from to reply t some = commands_counted n h s (statement.Insert i) from to reply t some
refused_counts n h s (Ok (statement.Select t)) from to reply (inl (r, a)) some = absurd (no_number reply _ r.reply_is refl some)
refused_counts n h s (Ok (statement.Select t)) from to reply (inr (inl (why, is, r))) some =
    (why, [], r.line, sym (select_is_cause (take to h) t why is).1, adds_none h s from to r.nothing)
refused_counts n h s (Ok (statement.Select t)) from to reply (inr (inr (query, is, a, failed))) some = (refusal.Failed, [], failed.0, refl, adds_none h s from to a)
refused_counts n h s (Ok (statement.Explain t)) from to reply (inl (r, a)) some = absurd (no_number reply _ r.reply_is refl some)
refused_counts n h s (Ok (statement.Explain t)) from to reply (inr (why, is, r)) some =
    (why, [], r.line, sym (select_is_cause (take to h) t why is).1, adds_none h s from to r.nothing)
refused_counts n h s (Ok (statement.Optimize o)) from to reply (inl (is, a, inl ok)) some = absurd (no_number reply _ ok refl some)
refused_counts n h s (Ok (statement.Optimize o)) from to reply (inl (is, a, inr failed)) some = merge_counted n h s o from to reply a failed
refused_counts n h s (Ok (statement.Optimize o)) from to reply (inr (why, is, r)) some =
    (why, [], r.line, sym (commands_are_cause (take to h) (statement.Optimize o) why is).1, adds_none h s from to r.nothing)
refused_counts n h s (Err why) from to reply r some = (refusal_of_cause why, [], r.line, sym (cause_tells why).1, adds_none h s from to r.nothing)
