-- Runs of events.
use Rattle.std.proofs.Common.{◌≡◌, ℕ, ◌+◌, ◌-◌, ◌≤◌, true, false, List, [], ◌∷◌, ◌++◌, Some, length, take, slice_get, refl, sym, ap, ◌∙◌, subst, append_assoc, append-nil, length-append, arith, zero, suc, inl, inr, ◌⊎◌}
use Rattle.std.proofs.lemmas.List.{take-append-le}
use Rattle.std.proofs.lemmas.Option.{get_or_from_slice_get, slice_get_within}
use Rattle.mt_values.specs.declared.command.Command.{Command}
use Rattle.mt_values.specs.declared.command.Command.TheVariants as command
use Rattle.mt_values.specs.declared.command.Entry.{Entry}
use Rattle.mt_values.specs.declared.schema.Schema.{Schema}
use Rattle.mt_values.specs.Values.{Row}
use Rattle.part_history.specs.mt_model.History.{History, schema_of}
use Rattle.part_history.specs.mt_model.Live.{live}
use Rattle.part_history.specs.mt_model.Partial.{Partly}
use Rattle.table_core.specs.declared.event.Crash.{Crash}
use Rattle.table_core.specs.declared.event.Crash.TheVariants as crash
use Rattle.table_core.specs.declared.event.Event.{Event}
use Rattle.table_core.specs.declared.event.Event.TheVariants as event
use Rattle.table_core.specs.declared.event.Guard.{Guard}
use Rattle.table_core.specs.declared.event.Guard.TheVariants as guard
use Rattle.table_core.specs.declared.event.Outcome.{Outcome}
use Rattle.table_core.specs.declared.event.Outcome.TheVariants as outcome
use Rattle.table_core.specs.declared.event.Put.{Put}
use Rattle.table_core.specs.declared.snapshot.Snapshot.{Snapshot}
use Rattle.table_core.specs.Core.{Core, IsCore, IsSnapshot}
use Rattle.table_core.specs.Runs.{AddsEntries, Comes, HasEntries, IsFrontOf, IsNoCrash, KeepsAccepted, KeepsHistory, KnowsSnapshots, MayRun, NoCrash, ReadsLeft, Runs, TakenAt, TellsLeft, TellsSnapshots}
use Rattle.table_core.specs.Steps.{AcceptGives, AreLeftOf, CrashMeets, GivesOutcome, MayCome, PutGives, snapshot_of, without_snapshots}
use Rattle.part_history.proofs.Growing.{slice_last, slice_left}
use Rattle.table_core.proofs.Stepping.{gives_core, reads_left}

-- ---- one event

-- an accept adds its entry, and tells the new length
record Accepts (old : Core) (e : Entry) (given : Outcome) (new : Core) : Type 0 where
  given_is : given ≡ outcome.Accepted (length old.history + 1)
  history : new.history ≡ old.history ++ e ∷ []
  snapshots : new.snapshots ≡ old.snapshots

-- or nothing
record Refuses (old : Core) (given : Outcome) (new : Core) : Type 0 where
  guard : Guard
  given_is : given ≡ outcome.Refused guard
  new_is : new ≡ old

accepts_or_not : (old new : Core) (session : ℕ) (c : Command) (given : Outcome) → AcceptGives old session c given new → Accepts old (record { session = session; command = c }) given new ⊎ Refuses old given new
accepts_or_not old new session (command.Create c) (outcome.Accepted place) g =
    inl (record { given_is = ap outcome.Accepted g.2; history = ap (λ (x : Core). x.history) g.3; snapshots = ap (λ (x : Core). x.snapshots) g.3 })
accepts_or_not old new session (command.Create c) (outcome.Refused guard.TableExists) g = inr (record { guard = guard.TableExists; given_is = refl; new_is = g.1 })
accepts_or_not old new session (command.Create c) (outcome.Refused guard.Creates) g = inr (record { guard = guard.Creates; given_is = refl; new_is = g.2 })
accepts_or_not old new session (command.Insert i) (outcome.Accepted place) g =
    inl (record { given_is = ap outcome.Accepted g.place_is; history = g.history; snapshots = g.snapshots })
accepts_or_not old new session (command.Insert i) (outcome.Refused guard.NoTable) g = inr (record { guard = guard.NoTable; given_is = refl; new_is = g.1 })
accepts_or_not old new session (command.Insert i) (outcome.Refused guard.Numbers) g = inr (record { guard = guard.Numbers; given_is = refl; new_is = g.2 })
accepts_or_not old new session (command.Alter a) (outcome.Accepted place) g =
    inl (record { given_is = ap outcome.Accepted g.2; history = ap (λ (x : Core). x.history) g.3; snapshots = ap (λ (x : Core). x.snapshots) g.3 })
accepts_or_not old new session (command.Alter a) (outcome.Refused guard.NoTable) g = inr (record { guard = guard.NoTable; given_is = refl; new_is = g.1 })
accepts_or_not old new session (command.Alter a) (outcome.Refused guard.Numbers) g = inr (record { guard = guard.Numbers; given_is = refl; new_is = g.2 })
accepts_or_not old new session (command.Alter a) given g = absurd g
accepts_or_not old new session (command.Create c) given g = absurd g
accepts_or_not old new session (command.Insert i) given g = absurd g

-- a put leaves the history and the snapshots
record Stays (old new : Core) : Type 0 where
  history : new.history ≡ old.history
  snapshots : new.snapshots ≡ old.snapshots

same_stays : (old new : Core) → new ≡ old → Stays old new
same_stays old new same = record { history = ap (λ (x : Core). x.history) same; snapshots = ap (λ (x : Core). x.snapshots) same }

put_stays : (old new : Core) (m : Put) (given : Outcome) → PutGives old m given new → Stays old new
put_stays old new m (outcome.Put name) g = record { history = g.history; snapshots = g.snapshots }
put_stays old new m (outcome.Refused guard.NoTable) g = same_stays old new g.1
put_stays old new m (outcome.Refused guard.NotNeighbours) g = same_stays old new g.2
put_stays old new m (outcome.Refused guard.Parted) g = same_stays old new g.2
put_stays old new m (outcome.Refused guard.Levels) g = same_stays old new g.2
put_stays old new m given g = absurd g

-- an event adds entries after the history
record Longer (old : Core) (e : Event) (given : Outcome) (new : Core) : Type 0 where
  entries : History
  adds : AddsEntries e given entries
  history : new.history ≡ old.history ++ entries

same_longer : (old new : Core) (e : Event) (given : Outcome) → AddsEntries e given [] → new ≡ old → Longer old e given new
same_longer old new e given none same = record { entries = []; adds = none; history = ap (λ (x : Core). x.history) same ∙ sym (append-nil old.history) }

stays_longer : (old new : Core) (e : Event) (given : Outcome) → AddsEntries e given [] → Stays old new → Longer old e given new
stays_longer old new e given none stays = record { entries = []; adds = none; history = stays.history ∙ sym (append-nil old.history) }

accept_longer : (old new : Core) (e : Entry) (given : Outcome) → Accepts old e given new ⊎ Refuses old given new → Longer old (event.Accept e) given new
accept_longer old new e given (inl done) = record {
  entries = e ∷ [];
  adds = subst (λ o. AddsEntries (event.Accept e) o (e ∷ [])) (sym done.given_is) refl;
  history = done.history;
}
accept_longer old new e given (inr refused) = same_longer old new (event.Accept e) given (subst (λ o. AddsEntries (event.Accept e) o []) (sym refused.given_is) refl) refused.new_is

-- a crash within an accept that was done adds the entry of the accept or none
done_longer : (old met : Core) (e : Entry) (given : Outcome) → Accepts old e given met ⊎ Refuses old given met → Longer old (event.Crash (crash.Within e true)) outcome.Restarted met
done_longer old met e given (inl done) = record { entries = e ∷ []; adds = inl refl; history = done.history }
done_longer old met e given (inr refused) = same_longer old met (event.Crash (crash.Within e true)) outcome.Restarted (inr refl) refused.new_is

meets_longer : (old met : Core) (c : Crash) → CrashMeets old c met → Longer old (event.Crash c) outcome.Restarted met
meets_longer old met crash.Between m = same_longer old met (event.Crash crash.Between) outcome.Restarted refl m
meets_longer old met (crash.Within e false) m = same_longer old met (event.Crash (crash.Within e false)) outcome.Restarted refl m
meets_longer old met (crash.Within e true) m = done_longer old met e m.0 (accepts_or_not old met e.session e.command m.0 m.1)
meets_longer old met (crash.WithinPut p false) m = same_longer old met (event.Crash (crash.WithinPut p false)) outcome.Restarted refl m
meets_longer old met (crash.WithinPut p true) m = stays_longer old met (event.Crash (crash.WithinPut p true)) outcome.Restarted refl (put_stays old met p m.0 m.1)

crash_longer : (old met new : Core) (c : Crash) → Longer old (event.Crash c) outcome.Restarted met → new ≡ without_snapshots met → Longer old (event.Crash c) outcome.Restarted new
crash_longer old met new c m same = record { entries = m.entries; adds = m.adds; history = ap (λ (x : Core). x.history) same ∙ m.history }

gives_longer : (old new : Core) (e : Event) (given : Outcome) → GivesOutcome old e given new → Longer old e given new
gives_longer old new (event.Accept e) given g = accept_longer old new e given (accepts_or_not old new e.session e.command given g)
gives_longer old new (event.Put m) given g = stays_longer old new (event.Put m) given refl (put_stays old new m given g)
gives_longer old new (event.TakeSnapshot table) (outcome.Taken number) g = record { entries = []; adds = refl; history = ap (λ (x : Core). x.history) g.2 ∙ sym (append-nil old.history) }
gives_longer old new (event.TakeSnapshot table) (outcome.Refused guard.NoTable) g = same_longer old new (event.TakeSnapshot table) (outcome.Refused guard.NoTable) refl g.1
gives_longer old new (event.ReadSnapshot number) (outcome.Rows rows place) g = same_longer old new (event.ReadSnapshot number) (outcome.Rows rows place) refl g.4
gives_longer old new (event.ReadSnapshot number) (outcome.Refused guard.NoSnapshot) g = same_longer old new (event.ReadSnapshot number) (outcome.Refused guard.NoSnapshot) refl g.1
gives_longer old new (event.Crash c) outcome.Restarted g = crash_longer old g.0 new c (meets_longer old g.0 c g.1) g.2
gives_longer old new (event.TakeSnapshot table) given g = absurd g
gives_longer old new (event.ReadSnapshot number) given g = absurd g
gives_longer old new (event.Crash c) given g = absurd g

-- what an event does to the snapshots: they stay, or one more is taken of the state that it meets, or a crash leaves none
record Takes (old : Core) (e : Event) (given : Outcome) (new : Core) : Type 0 where
  table : List ℕ
  event_is : e ≡ event.TakeSnapshot table
  given_is : given ≡ outcome.Taken (length old.snapshots)
  snapshots : new.snapshots ≡ old.snapshots ++ snapshot_of table old ∷ []

data Holds (old : Core) (e : Event) (given : Outcome) (new : Core) : Type 0 where
  Stay : IsNoCrash e → new.snapshots ≡ old.snapshots → Holds old e given new
  More : Takes old e given new → Holds old e given new
  Gone : (IsNoCrash e → ⊥) → new.snapshots ≡ [] → Holds old e given new

accept_holds : (old new : Core) (e : Entry) (given : Outcome) → Accepts old e given new ⊎ Refuses old given new → Holds old (event.Accept e) given new
accept_holds old new e given (inl done) = Stay tt done.snapshots
accept_holds old new e given (inr refused) = Stay tt (ap (λ (x : Core). x.snapshots) refused.new_is)

gives_holds : (old new : Core) (e : Event) (given : Outcome) → GivesOutcome old e given new → Holds old e given new
gives_holds old new (event.Accept e) given g = accept_holds old new e given (accepts_or_not old new e.session e.command given g)
gives_holds old new (event.Put m) given g = Stay tt (put_stays old new m given g).snapshots
gives_holds old new (event.TakeSnapshot table) (outcome.Taken number) g =
    More (record { table = table; event_is = refl; given_is = ap outcome.Taken g.1; snapshots = ap (λ (x : Core). x.snapshots) g.2 })
gives_holds old new (event.TakeSnapshot table) (outcome.Refused guard.NoTable) g = Stay tt (ap (λ (x : Core). x.snapshots) g.1)
gives_holds old new (event.ReadSnapshot number) (outcome.Rows rows place) g = Stay tt (ap (λ (x : Core). x.snapshots) g.4)
gives_holds old new (event.ReadSnapshot number) (outcome.Refused guard.NoSnapshot) g = Stay tt (ap (λ (x : Core). x.snapshots) g.1)
gives_holds old new (event.Crash c) outcome.Restarted g = Gone (λ calm. calm) (ap (λ (x : Core). x.snapshots) g.2)
gives_holds old new (event.TakeSnapshot table) given g = absurd g
gives_holds old new (event.ReadSnapshot number) given g = absurd g
gives_holds old new (event.Crash c) given g = absurd g

-- without a crash a snapshot keeps its number
still_there : (old new : Core) (e : Event) (given : Outcome) → Holds old e given new → IsNoCrash e → (number : ℕ) (s : Snapshot) → slice_get old.snapshots number ≡ Some s → slice_get new.snapshots number ≡ Some s
still_there old new e given (Stay none same) calm number s at = ap (λ (ss : List Snapshot). slice_get ss number) same ∙ at
still_there old new e given (More t) calm number s at =
    ap (λ (ss : List Snapshot). slice_get ss number) t.snapshots ∙ (slice_left old.snapshots (snapshot_of t.table old ∷ []) number (slice_get_within old.snapshots number s at) ∙ at)
still_there old new e given (Gone crashed none) calm number s at = absurd (crashed calm)

one_of : {X : Type 0} (xs : List X) (y x : X) (n : ℕ) → slice_get (xs ++ y ∷ []) n ≡ Some x → (slice_get xs n ≡ Some x) ⊎ (n ≡ length xs) × (y ≡ x)
one_of [] y x zero at = inr (refl, cc)
one_of [] y x (suc n) at = cc
one_of (z ∷ xs) y x zero at = inl at
one_of (z ∷ xs) y x (suc n) at = behind (one_of xs y x n at)
  where
    behind : (slice_get xs n ≡ Some x) ⊎ (n ≡ length xs) × (y ≡ x) → (slice_get (z ∷ xs) (suc n) ≡ Some x) ⊎ (suc n ≡ length (z ∷ xs)) × (y ≡ x)
    behind (inl there) = inl there
    behind (inr last) = inr (ap suc last.0, last.1)

-- ---- runs

-- the core is kept over a run
pub run_core : (events : List Event) (outcomes : List Outcome) (old new : Core) → IsCore old → MayRun old events → Runs old events outcomes new → IsCore new
run_core [] [] old new is may r = subst IsCore (sym r) is
run_core [] (o ∷ os) old new is may r = absurd r
run_core (e ∷ es) [] old new is may r = absurd r
run_core (e ∷ es) (o ∷ os) old new is may r = run_core es os r.0 new (gives_core old r.0 e o is may.0 r.1) (may.1 o r.0 r.1) r.2

-- one event more
pub run_push : (events : List Event) (outcomes : List Outcome) (old mid new : Core) (e : Event) (given : Outcome) → Runs old events outcomes mid → GivesOutcome mid e given new → Runs old (events ++ e ∷ []) (outcomes ++ given ∷ []) new
run_push [] [] old mid new e given r g = (new, subst (λ (c : Core). GivesOutcome c e given new) r g, refl)
run_push [] (o ∷ os) old mid new e given r g = absurd r
run_push (x ∷ es) [] old mid new e given r g = absurd r
run_push (x ∷ es) (o ∷ os) old mid new e given r g = (r.0, r.1, run_push es os r.0 mid new e given r.2 g)

-- the event after those that ran may come
pub may_come : (events : List Event) (outcomes : List Outcome) (old mid : Core) (e : Event) (rest : List Event) → MayRun old (events ++ e ∷ rest) → Runs old events outcomes mid → MayCome mid e
may_come [] [] old mid e rest may r = subst (λ (c : Core). MayCome c e) (sym r) may.0
may_come [] (o ∷ os) old mid e rest may r = absurd r
may_come (x ∷ es) [] old mid e rest may r = absurd r
may_come (x ∷ es) (o ∷ os) old mid e rest may r = may_come es os r.0 mid e rest (may.1 o r.0 r.1) r.2

-- ---- the history

pub run_entries : (events : List Event) (outcomes : List Outcome) (old new : Core) → Runs old events outcomes new → HasEntries old events outcomes new
run_entries [] [] old new r = ([], refl, ap (λ (x : Core). x.history) r ∙ sym (append-nil old.history))
run_entries [] (o ∷ os) old new r = absurd r
run_entries (e ∷ es) [] old new r = absurd r
run_entries (e ∷ es) (o ∷ os) old new r =
    let one = gives_longer old r.0 e o r.1 in
    let rest = run_entries es os r.0 new r.2 in (
      one.entries ++ rest.0,
      (one.entries, rest.0, one.adds, rest.1, refl),
      rest.2 ∙ (ap (λ (h : History). h ++ rest.0) one.history ∙ append_assoc old.history one.entries rest.0),
    )

run_front : (events : List Event) (outcomes : List Outcome) (old new : Core) → Runs old events outcomes new → IsFrontOf old.history new.history
run_front events outcomes old new r = let all = run_entries events outcomes old new r in (all.0, all.2)

pub run_history : (events : List Event) (outcomes : List Outcome) (old new : Core) → Runs old events outcomes new → KeepsHistory old events outcomes new
run_history events outcomes old new r zero = (old, refl, r, run_front events outcomes old new r)
run_history [] [] old new r (suc k) = (old, refl, r, run_front [] [] old new r)
run_history [] (o ∷ os) old new r (suc k) = absurd r
run_history (e ∷ es) [] old new r (suc k) = absurd r
run_history (e ∷ es) (o ∷ os) old new r (suc k) = let later = run_history es os r.0 new r.2 k in (later.0, (r.0, r.1, later.1), later.2, later.3)

-- the entry that an accept added is there to the end
entry_stays : (old mid new : Core) (e : Entry) (given : Outcome) (place : ℕ) → Accepts old e given mid ⊎ Refuses old given mid → given ≡ outcome.Accepted place → IsFrontOf mid.history new.history
    → (1 ≤ place) × (slice_get new.history (place - 1) ≡ Some (e))
entry_stays old mid new e given place (inl done) told front =
    let both : outcome.Accepted place ≡ outcome.Accepted (length old.history + 1) = sym told ∙ done.given_is in
    let place_is : place ≡ length old.history + 1 = cc in
    let back : place - 1 ≡ length old.history = omega (arith, place_is) in
    let count = length-append old.history (e ∷ []) in (
      omega (arith, place_is),
      ap (slice_get new.history) back
          ∙ (ap (λ (h : History). slice_get h (length old.history)) (front.1 ∙ ap (λ (h : History). h ++ front.0) done.history)
          ∙ (slice_left (old.history ++ e ∷ []) front.0 (length old.history) (omega (arith, count)) ∙ slice_last old.history (e))),
    )
entry_stays old mid new e given place (inr refused) told front =
    let both : outcome.Accepted place ≡ outcome.Refused refused.guard = sym told ∙ refused.given_is in
    cc

pub run_accepted : (events : List Event) (outcomes : List Outcome) (old new : Core) → Runs old events outcomes new → KeepsAccepted events outcomes new
run_accepted [] os old new r k place e at given = cc
run_accepted (x ∷ xs) [] old new r k place e at given = absurd r
run_accepted (x ∷ xs) (o ∷ os) old new r zero place e at given =
    let event_is : x ≡ event.Accept e = cc in
    let told : o ≡ outcome.Accepted place = cc in
    let gives : AcceptGives old e.session e.command o r.0 = subst (λ y. GivesOutcome old y o r.0) event_is r.1 in
    entry_stays old r.0 new e o place (accepts_or_not old r.0 e.session e.command o gives) told (run_front xs os r.0 new r.2)
run_accepted (x ∷ xs) (o ∷ os) old new r (suc k) place e at given = run_accepted xs os r.0 new r.2 k place e at given

-- ---- the snapshots

-- without a crash a snapshot keeps its number over a run
run_stays : (events : List Event) (outcomes : List Outcome) (old new : Core) → Runs old events outcomes new → NoCrash events
    → (number : ℕ) (s : Snapshot) → slice_get old.snapshots number ≡ Some s → slice_get new.snapshots number ≡ Some s
run_stays [] [] old new r calm number s at = ap (λ (x : Core). slice_get x.snapshots number) r ∙ at
run_stays [] (o ∷ os) old new r calm number s at = absurd r
run_stays (e ∷ es) [] old new r calm number s at = absurd r
run_stays (e ∷ es) (o ∷ os) old new r calm number s at =
    run_stays es os r.0 new r.2 calm.1 number s (still_there old r.0 e o (gives_holds old r.0 e o r.1) calm.0 number s at)

-- one event before a run
module _ (old next : Core) (e : Event) (given : Outcome) (g : GivesOutcome old e given next) (es : List Event) (os : List Outcome) (number : ℕ) (s : Snapshot) where
  taken_later : (k : ℕ) → TakenAt next es os number s k → TakenAt old (e ∷ es) (given ∷ os) number s (suc k)
  taken_later k t = record { event_is = t.event_is; told = t.told; met = t.met; ran = (next, g, t.ran); snapshot_is = t.snapshot_is; since = t.since }

  taken_first : (t : Takes old e given next) → number ≡ length old.snapshots → snapshot_of t.table old ≡ s → NoCrash es → TakenAt old (e ∷ es) (given ∷ os) number s 0
  taken_first t last is calm =
      let table_is : t.table ≡ s.table = ap (λ (x : Snapshot). x.table) is in
      record {
        event_is = ap Some (t.event_is ∙ ap event.TakeSnapshot table_is);
        told = ap Some (t.given_is ∙ ap outcome.Taken (sym last));
        met = old;
        ran = refl;
        snapshot_is = sym is ∙ ap (λ (x : List ℕ). snapshot_of x old) table_is;
        since = (subst IsNoCrash (sym t.event_is) tt, calm);
      }

  -- a snapshot that is known after the event was known before, or the event took it
  comes_here : Holds old e given next → slice_get next.snapshots number ≡ Some s → NoCrash es → Comes old (e ∷ es) (given ∷ os) number s
  comes_here (Stay here same) at calm = inl (ap (λ (ss : List Snapshot). slice_get ss number) (sym same) ∙ at, (here, calm))
  comes_here (More t) at calm = by (one_of old.snapshots (snapshot_of t.table old) s number (ap (λ (ss : List Snapshot). slice_get ss number) (sym t.snapshots) ∙ at))
    where
      by : (slice_get old.snapshots number ≡ Some s) ⊎ (number ≡ length old.snapshots) × (snapshot_of t.table old ≡ s) → Comes old (e ∷ es) (given ∷ os) number s
      by (inl there) = inl (there, (subst IsNoCrash (sym t.event_is) tt, calm))
      by (inr last) = inr (0, taken_first t last.0 last.1 calm)
  comes_here (Gone crashed none) at calm = let found : slice_get [] number ≡ Some s = ap (λ (ss : List Snapshot). slice_get ss number) (sym none) ∙ at in cc

  comes_later : Comes next es os number s → Comes old (e ∷ es) (given ∷ os) number s
  comes_later (inl there) = comes_here (gives_holds old next e given g) there.0 there.1
  comes_later (inr taken) = inr (suc taken.0, taken_later taken.0 taken.1)

pub run_known : (events : List Event) (outcomes : List Outcome) (old new : Core) → Runs old events outcomes new → KnowsSnapshots old events outcomes new
run_known [] [] old new r number s at = inl (ap (λ (x : Core). slice_get x.snapshots number) (sym r) ∙ at, tt)
run_known [] (o ∷ os) old new r number s at = absurd r
run_known (e ∷ es) [] old new r number s at = absurd r
run_known (e ∷ es) (o ∷ os) old new r number s at = comes_later old r.0 e o r.1 es os number s (run_known es os r.0 new r.2 number s at)

-- the number that was told of a snapshot stays its number to the next crash
pub run_tells_snapshots : (events : List Event) (outcomes : List Outcome) (old new : Core) → Runs old events outcomes new → TellsSnapshots old events outcomes new
run_tells_snapshots [] os old new r k number table at given calm = cc
run_tells_snapshots (e ∷ es) [] old new r k number table at given calm = absurd r
run_tells_snapshots (e ∷ es) (o ∷ os) old new r zero number table at given calm =
    let event_is : e ≡ event.TakeSnapshot table = cc in
    let outcome_is : o ≡ outcome.Taken number = cc in
    let gives : GivesOutcome old (event.TakeSnapshot table) (outcome.Taken number) r.0 =
    subst (λ x. GivesOutcome old x (outcome.Taken number) r.0) event_is (subst (λ x. GivesOutcome old e x r.0) outcome_is r.1) in
    let there : slice_get r.0.snapshots number ≡ Some (snapshot_of table old) =
    ap (λ (c : Core). slice_get c.snapshots number) gives.2 ∙ (ap (slice_get (old.snapshots ++ snapshot_of table old ∷ [])) gives.1 ∙ slice_last old.snapshots (snapshot_of table old)) in (
      snapshot_of table old,
      run_stays es os r.0 new r.2 calm.1 number (snapshot_of table old) there,
      record { event_is = at; told = given; met = old; ran = refl; snapshot_is = refl; since = calm },
    )
run_tells_snapshots (e ∷ es) (o ∷ os) old new r (suc k) number table at given calm =
    let later = run_tells_snapshots es os r.0 new r.2 k number table at given calm in
    (later.0, later.1, taken_later old r.0 e o r.1 es os number later.0 k later.2)

-- ---- what was read

left_stays : (old new : Core) (number : ℕ) (s : Snapshot) (rows : List Row) → IsCore old → IsFrontOf old.history new.history → slice_get old.snapshots number ≡ Some s
    → AreLeftOf s.table s.length old.history rows → AreLeftOf s.table s.length new.history rows
left_stays old new number s rows is front at left =
    let below = slice_get_within old.snapshots number s at in
    let one : IsSnapshot old.history s = subst (IsSnapshot old.history) (get_or_from_slice_get old.snapshots number s s at) (is.snapshots number s below) in
    let same : take s.length new.history ≡ take s.length old.history =
    ap (take s.length) front.1 ∙ take-append-le s.length old.history front.0 one.within in
    subst (λ (x : History). (schema : Schema) → schema_of s.table x ≡ Some schema → Partly schema (live s.table schema x) rows) (sym same) left

-- what is read of a snapshot
read_now : (old next : Core) (number place : ℕ) (rows : List Row) → IsCore old → (g : GivesOutcome old (event.ReadSnapshot number) (outcome.Rows rows place) next) → AreLeftOf g.0.table g.0.length old.history rows
read_now old next number place rows is g = subst (λ (rs : List Row). AreLeftOf g.0.table g.0.length old.history rs) (sym g.2) (reads_left old number g.0 is g.1)

-- what was read stays so to the end of a run
pub run_tells_left : (events : List Event) (outcomes : List Outcome) (old new : Core) → IsCore old → MayRun old events → Runs old events outcomes new → TellsLeft old events outcomes new
run_tells_left [] os old new is may r k number place rows at given = cc
run_tells_left (e ∷ es) [] old new is may r k number place rows at given = absurd r
run_tells_left (e ∷ es) (o ∷ os) old new is may r zero number place rows at given =
    let event_is : e ≡ event.ReadSnapshot number = cc in
    let outcome_is : o ≡ outcome.Rows rows place = cc in
    let gives : GivesOutcome old (event.ReadSnapshot number) (outcome.Rows rows place) r.0 =
    subst (λ x. GivesOutcome old x (outcome.Rows rows place) r.0) event_is (subst (λ x. GivesOutcome old e x r.0) outcome_is r.1) in
    let s : Snapshot = gives.0 in
    record {
      snapshot = s;
      comes = inl (gives.1, tt);
      rows_are = gives.2;
      place_is = gives.3;
      left = subst (λ n. AreLeftOf s.table n new.history rows) (sym gives.3)
          (left_stays old new number s rows is (run_front (e ∷ es) (o ∷ os) old new r) gives.1 (read_now old r.0 number place rows is gives));
      stays = λ calm. run_stays (e ∷ es) (o ∷ os) old new r calm number s gives.1;
    }
run_tells_left (e ∷ es) (o ∷ os) old new is may r (suc k) number place rows at given =
    let later = run_tells_left es os r.0 new (gives_core old r.0 e o is may.0 r.1) (may.1 o r.0 r.1) r.2 k number place rows at given in
    record {
      snapshot = later.snapshot;
      comes = comes_later old r.0 e o r.1 (take k es) (take k os) number later.snapshot later.comes;
      rows_are = later.rows_are;
      place_is = later.place_is;
      left = later.left;
      stays = later.stays;
    }

reads_rows : (old new : Core) (number place : ℕ) (rows : List Row) → IsCore old → GivesOutcome old (event.ReadSnapshot number) (outcome.Rows rows place) new → ReadsLeft new (event.ReadSnapshot number) (outcome.Rows rows place)
reads_rows old new number place rows is g =
    subst (λ (c : Core). ReadsLeft c (event.ReadSnapshot number) (outcome.Rows rows place)) (sym g.4)
    (g.0, g.1, g.3, subst (λ n. AreLeftOf g.0.table n old.history rows) (sym g.3) (read_now old new number place rows is g))

-- what an event reads
pub gives_reads : (old new : Core) (e : Event) (given : Outcome) → IsCore old → GivesOutcome old e given new → ReadsLeft new e given
gives_reads old new (event.ReadSnapshot number) (outcome.Rows rows place) is g = reads_rows old new number place rows is g
gives_reads old new (event.ReadSnapshot number) given is g = tt
gives_reads old new (event.Accept e) given is g = tt
gives_reads old new (event.Put m) given is g = tt
gives_reads old new (event.TakeSnapshot table) given is g = tt
gives_reads old new (event.Crash c) given is g = tt
