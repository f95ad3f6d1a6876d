-- What is taken up to be merged, and what becomes of it (docs/architecture.md, "The open root").
use Rattle.std.specs.Prelude.{◌≡◌, ◌≢◌, ◌==◌, ℕ, true, false, List, Option, None, Some, Result, Ok, Err, All, if◌then◌else◌, map}
use Rattle.std.specs.List.{Contains as HasItem}
use Rattle.std.specs.Option.{MatchOption}
use Rattle.std.specs.Result.{MatchResult}
use Rattle.mt_base.specs.declared.memory.NoMemory.{NoMemory}
use Rattle.mt_base.specs.declared.partition.Partition.{Partition}
use Rattle.mt_base.specs.declared.policy.Policy.{Policy}
use Rattle.mt_outside.specs.Files.{Files}
use Rattle.root_commits.specs.mt_model.History.{History}
use Rattle.merge_select.specs.declared.found.Pick.{Pick}
use Rattle.root_commits.specs.mutation_queue.declared.scope.Scope.{Scope}
use Rattle.merge_select.specs.declared.whole.Busy.{Busy}
use Rattle.merge_select.specs.Picks.{Choice, IsPick, NoneIn}
use Rattle.merge_select.specs.Whole.{PicksAll}
use Rattle.root_commits.specs.durable_commit.declared.causes.Limit.TheVariants as limit
use Rattle.root_commits.specs.durable_commit.declared.causes.Refused.TheVariants as refused
use Rattle.root_commits.specs.mutation_queue.Queue.{mutations_of}
use Rattle.root_commits.specs.part_name.declared.part.PartName.{PartName}
use Rattle.root_commits.specs.part_reader.declared.reading.Part.{Part}
use Rattle.root_commits.specs.part_set.declared.kept.Kept.{Kept}
use Rattle.root_commits.specs.part_set.declared.run.Run.{Run}
use Rattle.root_commits.specs.part_set.Parts.{IsInBlockOrder, kept_in}
use Rattle.root_commits.specs.part_set.Runs.{IsBusyRun, IsMarked, IsMissing, IsRun, cleared, names_of_parts, parts_of_run, with_mark}
use Rattle.root_commits.specs.part_set.Sets.{parts_of}
use Rattle.root_commits.specs.part_writer.declared.loaded.Loaded.{Loaded}
use Rattle.root_commits.specs.stage_dir.Stages.{Filled}
use Rattle.root_commits.specs.table_core.Core.{Core}
use Rattle.root_commits.specs.root_store.declared.store.CoreStore.{CoreStore}
use Rattle.root_commits.specs.root_store.declared.store.Table.{Table}
use Rattle.root_commits.specs.root_store.Cores.{ShowsCore}
use Rattle.root_commits.specs.root_store.Soundness.{HasSoundParts}
use Rattle.root_commits.specs.root_store.Stores.{CoreStands, table_at}
use Rattle.root_commits.specs.declared.commits.Returned.{Returned}
use Rattle.root_commits.specs.Images.{LeavesOne}
use Rattle.root_commits.specs.Merges.{Merging, merging, name_of_merge, sources_of, within_levels}
use Rattle.root_commits.specs.Turns.{CommitsMerge, Root}
use Rattle.shared_store.specs.declared.work.Put.{Put}
use Rattle.shared_store.specs.declared.work.Put.TheVariants as put
use Rattle.shared_store.specs.declared.work.TakeFault.{TakeFault}
use Rattle.shared_store.specs.declared.work.TakeFault.TheVariants as fault
use Rattle.shared_store.specs.declared.work.Work.{Work}
use Rattle.shared_store.specs.Engines.{GoesThroughCrashes, Opened, choice_by, choice_of, root_in}

-- ---- where the parts of a work are

-- the parts of a table's partition that a store keeps
abbrev pub parts_beside : {F : Type 0} → CoreStore F → Work F → List (Kept (Part F))
parts_beside store work = kept_in work.partition (parts_of store.set work.table)

-- the names of a work's sources, in block order
abbrev pub names_of_work : {F : Type 0} → Work F → List PartName
names_of_work work = names_of_parts work.sources.items

-- the sources of a work stand in this run: under their names, and with marks
abbrev pub SourcesStand : {F : Type 0} → CoreStore F → Work F → Run → Type 0
SourcesStand store work run = IsBusyRun run (names_of_work work) (parts_beside store work)

-- a work stands: its sources do, and its table is there with the schema that the work has
pub record WorkStands {F : Type 0} (store : CoreStore F) (work : Work F) (run : Run) : Type 0 where
  pub sources : SourcesStand store work run
  pub made : Table
  pub there : table_at store work.table ≡ Some made
  pub schema_is : work.schema ≡ made.schema

-- two works of one table have no source in common, by the sources' names
abbrev pub AreApart : {F : Type 0} → Work F → Work F → Type 0
AreApart work other = work.table ≡ other.table → (name : PartName) → HasItem (names_of_work work) name → HasItem (names_of_work other) name → ⊥

-- the parts of a run of a work's partition bear a mark now, and nothing else changes
pub record Marks {F : Type 0} (work : Work F) (run : Run) (old new : CoreStore F) : Type 0 where
  pub marked : IsMarked work.partition run true (parts_of old.set work.table) (parts_of new.set work.table)
  pub ordered : IsInBlockOrder (parts_of new.set work.table)
  pub others : (u : List ℕ) → u ≢ work.table → parts_of new.set u ≡ parts_of old.set u
  pub tables : new.tables.entries ≡ old.tables.entries
  pub mutations_are : new.mutations ≡ old.mutations
  pub length_is : new.length ≡ old.length
  pub opened_is : new.opened ≡ old.opened

-- The parts of a work's table that have the names of its sources bear no mark any more, wherever they stand by now. All else is as it was.
pub record Clears {F : Type 0} (work : Work F) (was now : Root F) : Type 0 where
  pub cleared_are : parts_of now.store.set work.table ≡ map (cleared (names_of_work work)) (parts_of was.store.set work.table)
  pub others : (u : List ℕ) → u ≢ work.table → parts_of now.store.set u ≡ parts_of was.store.set u
  pub tables : now.store.tables.entries ≡ was.store.tables.entries
  pub mutations_are : now.store.mutations ≡ was.store.mutations
  pub length_is : now.store.length ≡ was.store.length
  pub opened_is : now.store.opened ≡ was.store.opened
  pub storage_is : now.storage ≡ was.storage

-- no part that has the name of a source of the work bears a mark
abbrev pub SourcesAreFree : {F : Type 0} → CoreStore F → Work F → Type 0
SourcesAreFree {F} store work = All (λ (k : Kept (Part F)). HasItem (names_of_work work) k.name → k.busy ≡ false) (parts_of store.set work.table)

-- no part of a table bears a mark, but for those that have the name of a source of the work
abbrev pub NoOtherMark : {F : Type 0} → CoreStore F → Work F → Type 0
NoOtherMark {F} store work =
    (table : List ℕ) → All (λ (k : Kept (Part F)). k.busy ≡ true → (table ≡ work.table) × HasItem (names_of_work work) k.name) (parts_of store.set table)

-- ---- what is taken up

-- A work was taken up: a run of the parts of a table's partition, none of which bore a mark, with equal copies of them. They bear marks now.
pub record TakesUp {F : Type 0} (old new : CoreStore F) (work : Work F) (run : Run) : Type 0 where
  pub made : Table
  pub there : table_at old work.table ≡ Some made
  pub schema_is : work.schema ≡ made.schema
  pub is : IsRun run (parts_beside old work)
  pub sources_are : work.sources.items ≡ parts_of_run run (parts_beside old work)
  pub idle : All (λ (k : Kept (Part F)). k.busy ≡ false) work.sources.items
  pub marks : Marks work run old new

-- the same of an open root, of which nothing else changes
pub record TakesWork {F : Type 0} (was now : Opened F) (work : Work F) (run : Run) : Type 0 where
  pub takes : TakesUp was.store now.store work run
  pub storage_is : now.storage ≡ was.storage

-- the parts of a work are the pair that is taken in a scope, by this choice (docs/engines.md, "Which parts are merged")
pub record IsPicked {F : Type 0} (c : Choice (Part F)) (scope : Scope) (work : Work F) (run : Run) : Type 0 where
  pub pick : Pick
  pub is : IsPick c scope pick
  pub table_is : work.table ≡ pick.table.now
  pub partition_is : work.partition ≡ pick.partition
  pub run_is : run ≡ pick.run

-- the work has parts of its partition that follow each other, as the store has them
abbrev pub HasParts : {F : Type 0} → CoreStore F → Work F → Type 0
HasParts store work = (run : Run) × (work.sources.items ≡ parts_of_run run (parts_beside store work))

-- the work has the pair that the policy takes in a scope, as the store has its parts
abbrev pub HasPair : {F : Type 0} → Policy → Scope → CoreStore F → Work F → Type 0
HasPair policy scope store work = (run : Run) × IsPicked (choice_by policy store) scope work run × (work.sources.items ≡ parts_of_run run (parts_beside store work))

-- What is taken up in a scope: the pair that the policy takes. There is none exactly where the policy may take no pair, and where memory ran out;
-- the root is then as it was.
abbrev pub TakesPair : {F : Type 0} → Scope → Opened F → Opened F → Result (Option (Work F)) NoMemory → Type 0
TakesPair scope was now (Ok None) = NoneIn (choice_of was) scope × (now ≡ was)
TakesPair scope was now (Ok (Some work)) = (run : Run) × IsPicked (choice_of was) scope work run × TakesWork was now work run
TakesPair scope was now (Err why) = now ≡ was

-- which parts are taken where all of a partition are to be one, or which of them keeps it from that (docs/engines.md, "Which parts are merged")
abbrev pub AnswersWhole : {F : Type 0} → CoreStore F → List ℕ → Partition → Result (Option Run) Busy → Type 0
AnswersWhole store table partition answer = PicksAll (mutations_of store.mutations table) (kept_in partition (parts_of store.set table)) answer

-- the work has all parts of its partition, as the store has them
abbrev pub HasAll : {F : Type 0} → CoreStore F → Work F → Type 0
HasAll store work = (run : Run) × AnswersWhole store work.table work.partition (Ok (Some run)) × (work.sources.items ≡ parts_of_run run (parts_beside store work))

-- What is taken up of a partition: all its parts. Else the root is as it was.
abbrev pub TakesWhole : {F : Type 0} → List ℕ → Partition → Opened F → Opened F → Result (Option (Work F)) TakeFault → Type 0
TakesWhole table partition was now (Ok None) = AnswersWhole was.store table partition (Ok None) × (now ≡ was)
TakesWhole table partition was now (Ok (Some work)) =
    (run : Run) × AnswersWhole was.store table partition (Ok (Some run)) × (work.table ≡ table) × (work.partition ≡ partition) × TakesWork was now work run
TakesWhole table partition was now (Err (fault.Busy name)) = AnswersWhole was.store table partition (Err (record { name = name })) × (now ≡ was)
TakesWhole table partition was now (Err fault.NoMemory) = now ≡ was

-- ---- what becomes of it

-- the merge of a run of a work's partition, of which this was sealed
abbrev pub merging_of : {F : Type 0} → Work F → Run → Filled → Loaded → Merging
merging_of work run sealed loaded = merging work.table work.partition run sealed loaded

-- What becomes of a root where a run is merged: the merge is committed under its name; or it is refused since no part may have that level, and
-- nothing changes.
abbrev pub MergesRun : {F T S : Type 0} → (F → Option Files) → Merging → Root F → Root F → S → Result T (Returned S) → Type 0
MergesRun files_of m was now part result =
    MatchOption (within_levels (name_of_merge (sources_of was.store m)))
    ((result ≡ Err (record { cause = refused.Limit limit.Levels; back = Some part })) × (now ≡ was))
    (λ name. CommitsMerge files_of m name was now part result)

-- The sources of a work stand in a run, and it is merged. Where that is refused their marks are gone.
pub record PutsRun {F T S : Type 0} (files_of : F → Option Files) (work : Work F) (sealed : Filled) (loaded : Loaded) (was now : Opened F) (part : S) (result : Result T (Returned S)) : Type 0 where
  pub run : Run
  pub there : SourcesStand was.store work run
  pub mid : Root F
  pub merges : MergesRun files_of (merging_of work run sealed loaded) (root_in was) mid part result
  pub left : MatchResult result (λ _. root_in now ≡ mid) (λ _. Clears work mid (root_in now))

-- The sources of a work don't stand in a run: the first that does not follow there with its mark is told, and what was sealed comes back. No source has
-- a mark any more.
pub record IsGone {F S : Type 0} (was now : Opened F) (work : Work F) (part : S) (name : PartName) (back : S) : Type 0 where
  pub missing : IsMissing (names_of_work work) (parts_beside was.store work) name
  pub back_is : back ≡ part
  pub clears : Clears work (root_in was) (root_in now)

-- what becomes of a work that is put
abbrev pub PutsWork : {F S : Type 0} → (F → Option Files) → Work F → Filled → Loaded → Opened F → Opened F → S → Result (Put S) (Returned S) → Type 0
PutsWork files_of work sealed loaded was now part (Ok (put.Gone name back)) = IsGone was now work part name back
PutsWork {S = S} files_of work sealed loaded was now part (Ok put.Done) = PutsRun {T = Put S} files_of work sealed loaded was now part (Ok put.Done)
PutsWork {S = S} files_of work sealed loaded was now part (Err returned) = PutsRun {T = Put S} files_of work sealed loaded was now part (Err returned)

-- what becomes of a work that is let go: its sources have no marks any more
abbrev pub DropsWork : {F : Type 0} → Work F → Opened F → Opened F → Type 0
DropsWork work was now = Clears work (root_in was) (root_in now)

-- the parts without their marks, where so many works are out and these are none
abbrev pub parts_freed : {P : Type 0} → ℕ → List (Kept P) → List (Kept P)
parts_freed out parts = if out == 0 then map (with_mark false) parts else parts

-- No part bears a mark any more, where so many works are out and these are none. Else the parts are as they were, and all else is.
pub record Frees {F : Type 0} (out : ℕ) (was now : Opened F) : Type 0 where
  pub parts : (table : List ℕ) → parts_of now.store.set table ≡ parts_freed out (parts_of was.store.set table)
  pub tables : now.store.tables.entries ≡ was.store.tables.entries
  pub mutations_are : now.store.mutations ≡ was.store.mutations
  pub length_is : now.store.length ≡ was.store.length
  pub opened_is : now.store.opened ≡ was.store.opened
  pub storage_is : now.storage ≡ was.storage

-- Marks alone were changed: the root stands for what it stood for, a crash leaves what it left, and nothing else that is known of it changed.
pub record StandsOn {F : Type 0} (files_of : F → Option Files) (was now : Opened F) : Type 0 where
  pub stands : (h : History) → CoreStands files_of h was.store → CoreStands files_of h now.store
  pub shows : (core : Core) → ShowsCore files_of was.store core → ShowsCore files_of now.store core
  pub held : HasSoundParts files_of was.store → HasSoundParts files_of now.store
  pub leaves : (h : History) → LeavesOne (root_in was) h → LeavesOne (root_in now) h
  pub crashes : GoesThroughCrashes files_of was now
  pub storage_is : now.storage ≡ was.storage
