-- The places of a run rise, and none is above the length of the history.
use Rattle.std.proofs.Common.{◌≡◌, ℕ, ◌-◌, ◌<◌, ◌≤◌, List, [], ◌∷◌, length, inl, inr, arith, zero, suc, Some, Result, Ok, Err, slice_get}
use Rattle.mt_values.specs.declared.command.Entry.{Entry}
use Rattle.mt_values.specs.declared.command.Command.{Command}
use Rattle.mt_values.specs.declared.statement.Cause.{Cause}
use Rattle.mt_values.specs.declared.statement.Statement.{Statement}
use Rattle.mt_values.specs.declared.statement.Statement.TheVariants as statement
use Rattle.mt_values.specs.declared.statement.SelectText.{SelectText}
use Rattle.mt_model.specs.History.{History}
use Rattle.mt_model.specs.Outside.{Outside}
use Rattle.mt_model.specs.Session.{AddsNothing, Adds, Accepts, AcceptsAll, StopsAfter, SelectRefused, TakesCommands, Takes, SessionRun}

pub get_below : (h : History) (i : ℕ) (e : Entry) → slice_get h i ≡ Some e → i < length h
get_below [] i e is = cc
get_below (x ∷ h) zero e is = omega arith
get_below (x ∷ h) (suc i) e is = let below : i < length h = get_below h i e is in omega arith

adds_places : (h : History) (s : ℕ) (c : Command) (from to : ℕ) → Adds h s c from to → (from ≤ to) × (to ≤ length h)
adds_places h s c from to a =
    let below : to - 1 < length h = get_below h (to - 1) _ a.there in
    (omega (arith, a.later, a.before.later), omega (arith, a.later))

nothing_places : (h : History) (s from to : ℕ) → AddsNothing h s from to → (from ≤ to) × (to ≤ length h)
nothing_places h s from to a = (a.later, a.there)

-- so do those of its commands
pub accepts_places : (h : History) (s : ℕ) (cs : List Command) (from to : ℕ) → from ≤ length h → Accepts h s cs from to → (from ≤ to) × (to ≤ length h)
accepts_places h s [] from to le a = let e : from ≡ to = a in (omega arith, omega arith)
accepts_places h s (c ∷ cs) from to le a =
    let one = adds_places h s c from a.0 a.2 in
    let rest = accepts_places h s cs a.0 to one.1 a.3 in
    (omega (arith, one.0, rest.0), rest.1)

-- the places at which a statement's commands are found, and at which the last of them was accepted
pub record Between (h : History) (from seen place to : ℕ) : Type 0 where
  pub first : from ≤ seen
  pub begun : seen ≤ length h
  pub later : seen ≤ place
  pub last : place ≤ to
  pub there : to ≤ length h

pub all_places : (h : History) (s : ℕ) (st : Statement) (from to : ℕ) (a : AcceptsAll h s st from to) → Between h from a.seen to to
all_places h s st from to a =
    let rest = accepts_places h s a.commands a.seen to a.nothing.there a.accepted in
    record { first = a.nothing.later; begun = a.nothing.there; later = rest.0; last = omega arith; there = rest.1 }

pub stops_places : (h : History) (s : ℕ) (st : Statement) (from to : ℕ) (done rest : List Command) (a : StopsAfter h s st from to done rest) → Between h from a.seen a.place to
stops_places h s st from to done rest a =
    let more = accepts_places h s done a.seen a.place a.nothing.there a.accepted in
    record { first = a.nothing.later; begun = a.nothing.there; later = more.0; last = a.no_more.later; there = a.no_more.there }

commands_places : (n : Outside) (h : History) (s : ℕ) (st : Statement) (from to : ℕ) (reply : List ℕ) → TakesCommands n h s st from to reply → (from ≤ to) × (to ≤ length h)
commands_places n h s st from to reply (inl (is, a)) = let b = all_places h s st from to a in (omega (arith, b.first, b.later), b.there)
commands_places n h s st from to reply (inr (inl (why, is, r))) = nothing_places h s from to r.nothing
commands_places n h s st from to reply (inr (inr (inl (cs, is, some, a, failed)))) = nothing_places h s from to a
commands_places n h s st from to reply (inr (inr (inr (done, next, rest, stops, r)))) =
    let b = stops_places h s st from to done (next ∷ rest) stops in (omega (arith, b.first, b.later, b.last), b.there)

select_places : (n : Outside) (h : History) (s : ℕ) (t : SelectText) (from to : ℕ) (reply : List ℕ) → SelectRefused n h s t from to reply → (from ≤ to) × (to ≤ length h)
select_places n h s t from to reply (inl (why, is, r)) = nothing_places h s from to r.nothing
select_places n h s t from to reply (inr (columns, is, a, failed)) = nothing_places h s from to a

-- a statement's place is not below that of the statement before it, nor above the length of the history
pub takes_places : (n : Outside) (h : History) (s : ℕ) (st : Result Statement Cause) (from to : ℕ) (reply : List ℕ) → Takes n h s st from to reply → (from ≤ to) × (to ≤ length h)
takes_places n h s (Ok (statement.Create c)) from to reply t = commands_places n h s (statement.Create c) from to reply t
takes_places n h s (Ok (statement.Insert i)) from to reply t = commands_places n h s (statement.Insert i) from to reply t
takes_places n h s (Ok (statement.Select t)) from to reply (inl (is, a)) = nothing_places h s from to a
takes_places n h s (Ok (statement.Select t)) from to reply (inr r) = select_places n h s t from to reply r
takes_places n h s (Ok (statement.Explain t)) from to reply (inl (is, a)) = nothing_places h s from to a
takes_places n h s (Ok (statement.Explain t)) from to reply (inr (why, is, r)) = nothing_places h s from to r.nothing
takes_places n h s (Ok (statement.Optimize o)) from to reply (inl (is, a, r)) = nothing_places h s from to a
takes_places n h s (Ok (statement.Optimize o)) from to reply (inr (why, is, r)) = nothing_places h s from to r.nothing
takes_places n h s (Err why) from to reply r = nothing_places h s from to r.nothing

pub run_places : (n : Outside) (h : History) (s : ℕ) (ss : List (Result Statement Cause)) (from to : ℕ) (out : List ℕ) → SessionRun n h s ss from to out → from ≤ length h → (from ≤ to) × (to ≤ length h)
run_places n h s [] from to out r there = let e : from ≡ to = r.0 in (omega arith, omega arith)
run_places n h s (st ∷ ss) from to out r there =
    let one = takes_places n h s st from r.0 r.1 r.3 in
    let rest = run_places n h s ss r.0 to r.2 r.4 one.1 in
    (omega (arith, one.0, rest.0), rest.1)
