-- What each event gives, and the state that it leaves (docs/definitions.md, "The core").
use Rattle.std.specs.Prelude.{◌≡◌, ◌+◌, ◌<◌, ◌≤◌, ℕ, true, false, List, [], ◌∷◌, ◌++◌, Option, Some, None, IsSome, drop, length, slice_get, take}
use Rattle.mt_base.specs.Limits.{level_limit, number_limit, root_table_limit}
use Rattle.mt_values.specs.declared.command.Alter.{Alter}
use Rattle.mt_values.specs.declared.command.Command.{Command}
use Rattle.mt_values.specs.declared.command.Command.TheVariants as command
use Rattle.mt_values.specs.declared.command.Create.{Create}
use Rattle.mt_values.specs.declared.command.Insert.{Insert}
use Rattle.mt_values.specs.declared.mutation.Mutation.{Mutation}
use Rattle.mt_values.specs.declared.schema.Schema.{Schema}
use Rattle.mt_values.specs.Grammar.{same_bytes}
use Rattle.mt_values.specs.Values.{Row}
use Rattle.part_history.specs.mt_model.History.{History, IsInsertInto, IsTableSchema, creates, entered, schema_of}
use Rattle.part_history.specs.mt_model.Live.{live}
use Rattle.part_history.specs.mt_model.Mutations.{IsChangeOf}
use Rattle.part_history.specs.mt_model.Numbers.{mutations_in}
use Rattle.part_history.specs.mt_model.Partial.{Partly}
use Rattle.part_history.specs.part_name.Pending.{NoneParted}
use Rattle.table_core.specs.declared.event.Crash.{Crash}
use Rattle.table_core.specs.declared.event.Crash.TheVariants as crash
use Rattle.table_core.specs.declared.event.Event.{Event}
use Rattle.table_core.specs.declared.event.Event.TheVariants as event
use Rattle.table_core.specs.declared.event.Guard.TheVariants as guard
use Rattle.table_core.specs.declared.event.Outcome.{Outcome}
use Rattle.table_core.specs.declared.event.Outcome.TheVariants as outcome
use Rattle.table_core.specs.declared.event.Put.{Put}
use Rattle.table_core.specs.declared.event.Sources.{Sources}
use Rattle.table_core.specs.declared.event.Task.{Task}
use Rattle.table_core.specs.declared.event.Task.TheVariants as task
use Rattle.part_history.specs.part_name.declared.part.PartName.{PartName}
use Rattle.part_history.specs.part_name.Merged.{merged_of, rewritten}
use Rattle.part_history.specs.declared.part.CorePart.{CorePart}
use Rattle.table_core.specs.declared.snapshot.Snapshot.{Snapshot}
use Rattle.table_core.specs.Core.{Core}
use Rattle.part_history.specs.Entered.{next_number, part_of_insert}
use Rattle.part_history.specs.Merges.{MergeLeaves, RewriteLeaves, names_of}
use Rattle.part_history.specs.Parts.{AreInBlockOrder, core_parts_of, parts_in, rows_seen_of}

-- the accept of a command may come: a CREATE has a schema that a table may have, an INSERT has rows of its table and a mutation is one that these may
-- have, where the table is there (docs/definitions.md, "The core")
abbrev pub MayAccept : History → Command → Type 0
MayAccept h (command.Create c) = IsTableSchema c.schema
MayAccept h (command.Insert i) = (schema : Schema) → schema_of i.table h ≡ Some schema → IsInsertInto schema i
MayAccept h (command.Alter a) = (schema : Schema) → schema_of a.table h ≡ Some schema → IsChangeOf schema a.change

-- the parts of the table of sources, in block order (docs/definitions.md, "The core")
abbrev pub beside : Core → Sources → List CorePart
beside core s = core_parts_of s.table core.parts

-- the sources among the parts of their table: that many of their partition, from the first on (docs/definitions.md, "The core")
abbrev pub sources_among : List CorePart → Sources → List CorePart
sources_among parts s = take s.count (drop s.first (parts_in s.partition parts))

-- the sources are neighbours: at least one part, and their partition has them all (docs/definitions.md, "The core")
pub record HasNeighbours (parts : List CorePart) (s : Sources) : Type 0 where
  pub some : 0 < s.count
  pub within : s.first + s.count ≤ length (parts_in s.partition parts)

-- rows are what was done with sources: what one merge may leave of rows with which they stand, or what the first of the mutations for which the one source waits leave of such rows (docs/definitions.md, "The core")
abbrev pub AreMade : History → Schema → List CorePart → Task → List Row → Type 0
AreMade h schema sources task.Merge rows = MergeLeaves h schema sources rows
AreMade h schema sources (task.Rewrite upto) rows = (source : CorePart) × (sources ≡ source ∷ []) × RewriteLeaves h source upto rows

-- a put may come: its rows are what was done with its sources, where there are the table and these (docs/definitions.md, "The core")
abbrev pub MayPut : Core → Put → Type 0
MayPut core m =
    (schema : Schema) → schema_of m.sources.table core.history ≡ Some schema → HasNeighbours (beside core m.sources) m.sources
    → AreMade core.history schema (sources_among (beside core m.sources) m.sources) m.task m.rows

-- a crash may come: within an accept or a put, where that may (docs/definitions.md, "The core")
abbrev pub MayCrash : Core → Crash → Type 0
MayCrash core crash.Between = Unit {0}
MayCrash core (crash.Within e done) = MayAccept core.history e.command
MayCrash core (crash.WithinPut m done) = MayPut core m

-- an event may come: an accept or a put, or a crash within one, where that may; all others always (docs/definitions.md, "The core")
abbrev pub MayCome : Core → Event → Type 0
MayCome core (event.Accept e) = MayAccept core.history e.command
MayCome core (event.Put m) = MayPut core m
MayCome core (event.TakeSnapshot table) = Unit {0}
MayCome core (event.ReadSnapshot number) = Unit {0}
MayCome core (event.Crash c) = MayCrash core c

-- one part more, in its place in block order among those of its table; the others stay as they were (docs/definitions.md, "The core")
pub record AddsPart (part : CorePart) (old new : List CorePart) : Type 0 where
  pub front : List CorePart
  pub behind : List CorePart
  pub old_is : old ≡ front ++ behind
  pub new_is : new ≡ front ++ part ∷ behind
  pub order : AreInBlockOrder (core_parts_of part.table new)

-- a CREATE: accepted, or refused since there is the table, or else since there are 65,536 (docs/definitions.md, "The core")
abbrev pub CreateGives : Core → ℕ → Create → Outcome → Core → Type 0
CreateGives old session c (outcome.Accepted place) new =
    (schema_of c.table old.history ≡ None) × (creates old.history < root_table_limit) × (place ≡ length old.history + 1)
    × (new ≡ record { parts = old.parts; history = entered old.history session (command.Create c ∷ []); snapshots = old.snapshots })
CreateGives old session c (outcome.Refused guard.TableExists) new = IsSome (schema_of c.table old.history) × (new ≡ old)
CreateGives old session c (outcome.Refused guard.Creates) new = (schema_of c.table old.history ≡ None) × (root_table_limit ≤ creates old.history) × (new ≡ old)
CreateGives old session c given new = ⊥

-- an INSERT that is accepted: its entry comes after the others, and its part in its place among those of its table
pub record AcceptsInsert (old : Core) (session : ℕ) (i : Insert) (place : ℕ) (new : Core) : Type 0 where
  pub schema : Schema
  pub there : schema_of i.table old.history ≡ Some schema
  pub room : next_number i.table old.history ≤ number_limit
  pub place_is : place ≡ length old.history + 1
  pub parts : AddsPart (part_of_insert schema (next_number i.table old.history) i) old.parts new.parts
  pub history : new.history ≡ entered old.history session (command.Insert i ∷ [])
  pub snapshots : new.snapshots ≡ old.snapshots

-- an INSERT: accepted, or refused since there is no such table, or else since no number is left (docs/definitions.md, "The core")
abbrev pub InsertGives : Core → ℕ → Insert → Outcome → Core → Type 0
InsertGives old session i (outcome.Accepted place) new = AcceptsInsert old session i place new
InsertGives old session i (outcome.Refused guard.NoTable) new = (schema_of i.table old.history ≡ None) × (new ≡ old)
InsertGives old session i (outcome.Refused guard.Numbers) new = IsSome (schema_of i.table old.history) × (number_limit < next_number i.table old.history) × (new ≡ old)
InsertGives old session i given new = ⊥

-- a mutation: accepted, which adds its entry and leaves the parts, or refused since there is no such table, or else since no number is left (docs/definitions.md, "The core")
abbrev pub AlterGives : Core → ℕ → Alter → Outcome → Core → Type 0
AlterGives old session a (outcome.Accepted place) new =
    IsSome (schema_of a.table old.history) × (next_number a.table old.history ≤ number_limit) × (place ≡ length old.history + 1)
    × (new ≡ record { parts = old.parts; history = entered old.history session (command.Alter a ∷ []); snapshots = old.snapshots })
AlterGives old session a (outcome.Refused guard.NoTable) new = (schema_of a.table old.history ≡ None) × (new ≡ old)
AlterGives old session a (outcome.Refused guard.Numbers) new = IsSome (schema_of a.table old.history) × (number_limit < next_number a.table old.history) × (new ≡ old)
AlterGives old session a given new = ⊥

-- the accept of a command of a session: what the CREATE, the INSERT or the mutation gives (docs/definitions.md, "The core")
abbrev pub AcceptGives : Core → ℕ → Command → Outcome → Core → Type 0
AcceptGives old session (command.Create c) given new = CreateGives old session c given new
AcceptGives old session (command.Insert i) given new = InsertGives old session i given new
AcceptGives old session (command.Alter a) given new = AlterGives old session a given new

-- one part of a table in place of neighbours; its other parts and those of other tables stay as they were (docs/definitions.md, "The core")
pub record SwapsParts (sources : List CorePart) (part : CorePart) (old new : List CorePart) : Type 0 where
  pub front : List CorePart
  pub behind : List CorePart
  pub old_is : core_parts_of part.table old ≡ front ++ (sources ++ behind)
  pub new_is : core_parts_of part.table new ≡ front ++ part ∷ behind
  pub others : (table : List ℕ) → same_bytes part.table table ≡ false → core_parts_of table new ≡ core_parts_of table old

-- the part that a put makes, under a name
abbrev pub part_of_put : Put → PartName → CorePart
part_of_put m name = record { table = m.sources.table; name = name; rows = m.rows }

-- the names of the sources of a put
abbrev pub names_put : Core → Put → List PartName
names_put core m = names_of (sources_among (beside core m.sources) m.sources)

-- no mutation keeps a put from its parts: of a merge none parts two that follow each other (docs/definitions.md, "The core")
abbrev pub MayJoin : List Mutation → Task → List PartName → Type 0
MayJoin mutations task.Merge names = NoneParted mutations names
MayJoin mutations (task.Rewrite upto) names = Unit {0}

-- the same of the sources of a put, with the table's mutations
abbrev pub MayJoinHere : Core → Put → Type 0
MayJoinHere core m = MayJoin (mutations_in m.sources.table core.history) m.task (names_put core m)

-- the name of the part that a put makes: a merge's, or that of the one part with the last of the mutations (docs/formats.md, "Names of parts")
abbrev pub name_made : Task → List PartName → Option PartName
name_made task.Merge names = merged_of names
name_made (task.Rewrite upto) (name ∷ []) = Some (rewritten name upto)
name_made (task.Rewrite upto) names = None

-- the level of the part is one that a part may have; a rewrite leaves it as it is
abbrev pub FitsLevel : Task → PartName → Type 0
FitsLevel task.Merge name = name.level ≤ level_limit
FitsLevel (task.Rewrite upto) name = Unit {0}

-- a put that is done: the part is there in place of its sources, and nothing else changes
pub record PutsPart (old : Core) (m : Put) (name : PartName) (new : Core) : Type 0 where
  pub there : IsSome (schema_of m.sources.table old.history)
  pub neighbours : HasNeighbours (beside old m.sources) m.sources
  pub unparted : MayJoinHere old m
  pub named : name_made m.task (names_put old m) ≡ Some name
  pub room : FitsLevel m.task name
  pub parts : SwapsParts (sources_among (beside old m.sources) m.sources) (part_of_put m name) old.parts new.parts
  pub history : new.history ≡ old.history
  pub snapshots : new.snapshots ≡ old.snapshots

-- a mutation parts two of the sources of a merge (docs/definitions.md, "The core")
pub record IsParted (core : Core) (m : Put) : Type 0 where
  pub neighbours : HasNeighbours (beside core m.sources) m.sources
  pub parted : MayJoinHere core m → ⊥

-- the name that a put would make passes the greatest level
pub record PassesLevels (core : Core) (m : Put) : Type 0 where
  pub neighbours : HasNeighbours (beside core m.sources) m.sources
  pub unparted : MayJoinHere core m
  pub name : PartName
  pub named : name_made m.task (names_put core m) ≡ Some name
  pub past : FitsLevel m.task name → ⊥

-- a put: done, or refused since there is no such table, or else no such neighbours, or else since a mutation parts two of them, or else since the level is too great (docs/definitions.md, "The core")
abbrev pub PutGives : Core → Put → Outcome → Core → Type 0
PutGives old m (outcome.Put name) new = PutsPart old m name new
PutGives old m (outcome.Refused guard.NoTable) new = (schema_of m.sources.table old.history ≡ None) × (new ≡ old)
PutGives old m (outcome.Refused guard.NotNeighbours) new =
    IsSome (schema_of m.sources.table old.history) × (HasNeighbours (beside old m.sources) m.sources → ⊥) × (new ≡ old)
PutGives old m (outcome.Refused guard.Parted) new = IsSome (schema_of m.sources.table old.history) × IsParted old m × (new ≡ old)
PutGives old m (outcome.Refused guard.Levels) new = IsSome (schema_of m.sources.table old.history) × PassesLevels old m × (new ≡ old)
PutGives old m given new = ⊥

-- the snapshot of a table as it is now
abbrev pub snapshot_of : List ℕ → Core → Snapshot
snapshot_of table core = record {
  table = table;
  parts = core_parts_of table core.parts;
  mutations = mutations_in table core.history;
  length = length core.history;
}

-- the taking of a snapshot: one more, or refused since there is no such table (docs/definitions.md, "The core")
abbrev pub TakeGives : Core → List ℕ → Outcome → Core → Type 0
TakeGives old table (outcome.Taken number) new =
    IsSome (schema_of table old.history) × (number ≡ length old.snapshots)
    × (new ≡ record { parts = old.parts; history = old.history; snapshots = old.snapshots ++ snapshot_of table old ∷ [] })
TakeGives old table (outcome.Refused guard.NoTable) new = (schema_of table old.history ≡ None) × (new ≡ old)
TakeGives old table given new = ⊥

-- the rows of the parts of a snapshot, each part's after the mutations of the snapshot for which it waits (docs/definitions.md, "The core")
abbrev pub rows_of_snapshot : Snapshot → List Row
rows_of_snapshot s = rows_seen_of s.mutations s.parts

-- the reading of a snapshot: the rows of its parts after the mutations for which each waits, one part after another, or refused since there is no such snapshot (docs/definitions.md, "The core")
abbrev pub ReadGives : Core → ℕ → Outcome → Core → Type 0
ReadGives old number (outcome.Rows rows place) new =
    (s : Snapshot) × (slice_get old.snapshots number ≡ Some s) × (rows ≡ rows_of_snapshot s) × (place ≡ s.length) × (new ≡ old)
ReadGives old number (outcome.Refused guard.NoSnapshot) new = (slice_get old.snapshots number ≡ None) × (new ≡ old)
ReadGives old number given new = ⊥

-- the state without its snapshots (docs/definitions.md, "The core")
abbrev pub without_snapshots : Core → Core
without_snapshots core = record { parts = core.parts; history = core.history; snapshots = [] }

-- the state that a crash meets: the one before it, or that which an accept or a put gives, where it came within that and this was done (docs/definitions.md, "The core")
abbrev pub CrashMeets : Core → Crash → Core → Type 0
CrashMeets old crash.Between met = met ≡ old
CrashMeets old (crash.Within e false) met = met ≡ old
CrashMeets old (crash.Within e true) met = (given : Outcome) × AcceptGives old e.session e.command given met
CrashMeets old (crash.WithinPut m false) met = met ≡ old
CrashMeets old (crash.WithinPut m true) met = (given : Outcome) × PutGives old m given met

-- a crash: the state that it meets is left without its snapshots (docs/definitions.md, "The core")
abbrev pub CrashGives : Core → Crash → Outcome → Core → Type 0
CrashGives old c outcome.Restarted new = (met : Core) × CrashMeets old c met × (new ≡ without_snapshots met)
CrashGives old c given new = ⊥

-- what an event gives, and the state after it (docs/definitions.md, "The core")
abbrev pub GivesOutcome : Core → Event → Outcome → Core → Type 0
GivesOutcome old (event.Accept e) given new = AcceptGives old e.session e.command given new
GivesOutcome old (event.Put m) given new = PutGives old m given new
GivesOutcome old (event.TakeSnapshot table) given new = TakeGives old table given new
GivesOutcome old (event.ReadSnapshot number) given new = ReadGives old number given new
GivesOutcome old (event.Crash c) given new = CrashGives old c given new

-- rows are what merges may have left of a table's live rows after as many entries of a history as the place says (docs/definitions.md, "The core")
abbrev pub AreLeftOf : List ℕ → ℕ → History → List Row → Type 0
AreLeftOf table place h rows = (schema : Schema) → schema_of table (take place h) ≡ Some schema → Partly schema (live table schema (take place h)) rows
