-- Runs of events (docs/definitions.md, "The core").
use Rattle.std.specs.Prelude.{◌≡◌, ◌⊎◌, ◌-◌, ◌≤◌, ℕ, true, List, [], ◌∷◌, ◌++◌, Some, drop, slice_get, take}
use Rattle.std.specs.List.{AllByRecursion}
use Rattle.mt_values.specs.declared.command.Entry.{Entry}
use Rattle.mt_values.specs.Values.{Row}
use Rattle.part_history.specs.mt_model.History.{History}
use Rattle.table_core.specs.declared.event.Crash.TheVariants as crash
use Rattle.table_core.specs.declared.event.Event.{Event}
use Rattle.table_core.specs.declared.event.Event.TheVariants as event
use Rattle.table_core.specs.declared.event.Outcome.{Outcome}
use Rattle.table_core.specs.declared.event.Outcome.TheVariants as outcome
use Rattle.table_core.specs.declared.snapshot.Snapshot.{Snapshot}
use Rattle.table_core.specs.Core.{Core}
use Rattle.table_core.specs.Steps.{AreLeftOf, GivesOutcome, MayCome, rows_of_snapshot, snapshot_of}

-- each event gives the outcome at its place, from the state that those before it left (docs/definitions.md, "The core")
abbrev pub Runs : Core → List Event → List Outcome → Core → Type 0
Runs old [] [] new = new ≡ old
Runs old (e ∷ events) (given ∷ outcomes) new = (next : Core) × GivesOutcome old e given next × Runs next events outcomes new
Runs old [] (given ∷ outcomes) new = ⊥
Runs old (e ∷ events) [] new = ⊥

-- each event may come after those before it, whatever state they left (docs/definitions.md, "The core")
abbrev pub MayRun : Core → List Event → Type 0
MayRun core [] = Unit {0}
MayRun core (e ∷ events) = MayCome core e × ((given : Outcome) (next : Core) → GivesOutcome core e given next → MayRun next events)

-- an event is no crash (docs/definitions.md, "The core")
abbrev pub IsNoCrash : Event → Type 0
IsNoCrash (event.Crash c) = ⊥
IsNoCrash e = Unit {0}

-- no crash comes among events (docs/definitions.md, "The core")
abbrev pub NoCrash : List Event → Type 0
NoCrash events = AllByRecursion IsNoCrash events

-- the event at the place k took the snapshot of the state that it met, and told its number, and no crash came since (docs/definitions.md, "The core")
pub record TakenAt (old : Core) (events : List Event) (outcomes : List Outcome) (number : ℕ) (snapshot : Snapshot) (k : ℕ) : Type 0 where
  pub event_is : slice_get events k ≡ Some (event.TakeSnapshot snapshot.table)
  pub told : slice_get outcomes k ≡ Some (outcome.Taken number)
  pub met : Core
  pub ran : Runs old (take k events) (take k outcomes) met
  pub snapshot_is : snapshot ≡ snapshot_of snapshot.table met
  pub since : NoCrash (drop k events)

-- where a snapshot comes from that is known by the number after events: it was known before them and no crash came, or one of them took it and no crash came since (docs/definitions.md, "The core")
abbrev pub Comes : Core → List Event → List Outcome → ℕ → Snapshot → Type 0
Comes old events outcomes number snapshot =
    ((slice_get old.snapshots number ≡ Some snapshot) × NoCrash events) ⊎ ((k : ℕ) × TakenAt old events outcomes number snapshot k)

-- each snapshot that is known at the end comes from the run: none is known by a number that was told before the last crash (docs/definitions.md, "The core")
abbrev pub KnowsSnapshots : Core → List Event → List Outcome → Core → Type 0
KnowsSnapshots old events outcomes new = (number : ℕ) (s : Snapshot) → slice_get new.snapshots number ≡ Some s → Comes old events outcomes number s

-- the number that was told of a snapshot stays its number as long as no crash comes (docs/definitions.md, "The core")
abbrev pub TellsSnapshots : Core → List Event → List Outcome → Core → Type 0
TellsSnapshots old events outcomes new =
    (k number : ℕ) (table : List ℕ) → slice_get events k ≡ Some (event.TakeSnapshot table) → slice_get outcomes k ≡ Some (outcome.Taken number) → NoCrash (drop k events)
    → (s : Snapshot) × (slice_get new.snapshots number ≡ Some s) × TakenAt old events outcomes number s k

-- rows that were read after events are of a snapshot that comes from these; at the end they are what merges may have left of the live rows of its front of the history, and it keeps its number as long as no crash comes (docs/definitions.md, "The core")
pub record IsReadOf (old : Core) (events : List Event) (outcomes : List Outcome) (number : ℕ) (rows : List Row) (place : ℕ) (behind : List Event) (new : Core) : Type 0 where
  pub snapshot : Snapshot
  pub comes : Comes old events outcomes number snapshot
  pub rows_are : rows ≡ rows_of_snapshot snapshot
  pub place_is : place ≡ snapshot.length
  pub left : AreLeftOf snapshot.table place new.history rows
  pub stays : NoCrash behind → slice_get new.snapshots number ≡ Some snapshot

-- rows that were read stay what merges may have left of the live rows of their front of the history, whatever is accepted and whatever crash comes later (docs/definitions.md, "The core")
abbrev pub TellsLeft : Core → List Event → List Outcome → Core → Type 0
TellsLeft old events outcomes new =
    (k number place : ℕ) (rows : List Row) → slice_get events k ≡ Some (event.ReadSnapshot number) → slice_get outcomes k ≡ Some (outcome.Rows rows place)
    → IsReadOf old (take k events) (take k outcomes) number rows place (drop k events) new

-- the longer history begins with the other (docs/definitions.md, "The core")
abbrev pub IsFrontOf : History → History → Type 0
IsFrontOf h longer = (more : History) × (longer ≡ h ++ more)

-- no entry is lost: at each place of the run the history is a front of that at the end (docs/definitions.md, "The core")
abbrev pub KeepsHistory : Core → List Event → List Outcome → Core → Type 0
KeepsHistory old events outcomes new =
    (k : ℕ) → (met : Core) × Runs old (take k events) (take k outcomes) met × Runs met (drop k events) (drop k outcomes) new × IsFrontOf met.history new.history

-- the entry of each accept that was accepted is in the history, at the place that was told (docs/definitions.md, "The core")
abbrev pub KeepsAccepted : List Event → List Outcome → Core → Type 0
KeepsAccepted events outcomes new =
    (k place : ℕ) (e : Entry) → slice_get events k ≡ Some (event.Accept e) → slice_get outcomes k ≡ Some (outcome.Accepted place)
    → (1 ≤ place) × (slice_get new.history (place - 1) ≡ Some e)

-- the entries that an event may add: an accept that was accepted its own, a crash within an accept that was done the entry of the accept or none, all others none (docs/definitions.md, "The core")
abbrev pub AddsEntries : Event → Outcome → History → Type 0
AddsEntries (event.Accept e) (outcome.Accepted place) entries = entries ≡ e ∷ []
AddsEntries (event.Crash (crash.Within e true)) given entries = (entries ≡ e ∷ []) ⊎ (entries ≡ [])
AddsEntries e given entries = entries ≡ []

-- the entries that events add, one after another (docs/definitions.md, "The core")
abbrev pub AddAll : List Event → List Outcome → History → Type 0
AddAll [] outcomes entries = entries ≡ []
AddAll (e ∷ events) [] entries = ⊥
AddAll (e ∷ events) (given ∷ outcomes) entries = (first rest : History) × AddsEntries e given first × AddAll events outcomes rest × (entries ≡ first ++ rest)

-- nothing else is in the history: it is the old one with the entries that the events add (docs/definitions.md, "The core")
abbrev pub HasEntries : Core → List Event → List Outcome → Core → Type 0
HasEntries old events outcomes new = (entries : History) × AddAll events outcomes entries × (new.history ≡ old.history ++ entries)

-- rows that an event read are what merges may have left of the live rows at the snapshot's length of the history (docs/definitions.md, "The core")
abbrev pub ReadsLeft : Core → Event → Outcome → Type 0
ReadsLeft core (event.ReadSnapshot number) (outcome.Rows rows place) =
    (s : Snapshot) × (slice_get core.snapshots number ≡ Some s) × (place ≡ s.length) × AreLeftOf s.table place core.history rows
ReadsLeft core e given = Unit {0}
