-- What a commit does to a root: one relation for each commit (docs/architecture.md, "Commits").
use Rattle.std.specs.Prelude.{◌≡◌, ◌≤◌, ℕ, IsTrue, Option, Some, Result}
use Rattle.std.specs.Result.{MatchResult}
use Rattle.mt_base.specs.Limits.{level_limit}
use Rattle.mt_values.specs.declared.command.Create.{Create}
use Rattle.mt_values.specs.Annals as keeper
use Rattle.mt_outside.specs.Disk.{Told}
use Rattle.mt_outside.specs.Files.{Files}
use Rattle.root_store.specs.durable_commit.declared.causes.Refused.{Refused}
use Rattle.root_store.specs.durable_commit.Commits.{stopped_by}
use Rattle.root_store.specs.durable_commit.Publications.{Publication, Storage}
pub use Rattle.root_store.specs.durable_commit.Publications.{storage}
use Rattle.root_store.specs.durable_commit.stage_dir.Stages.{Filled}
use Rattle.root_store.specs.mt_model.History.{IsInsertInto, IsTableSchema}
use Rattle.root_store.specs.part_name.declared.part.PartName.{PartName}
use Rattle.root_store.specs.part_set.Parts.{IsInBlockOrder, kept_in}
use Rattle.root_store.specs.part_set.RootNames.{is_table}
use Rattle.root_store.specs.part_set.Runs.{IsRun}
use Rattle.root_store.specs.part_set.Sets.{parts_of}
use Rattle.root_store.specs.declared.store.CoreStore.{CoreStore}
use Rattle.root_store.specs.Soundness.{IsReady}
use Rattle.root_store.specs.Stores.{table_at}
use Rattle.root_commits.specs.declared.commits.Returned.{Returned}
use Rattle.root_commits.specs.Commits.{EntersSealed, EntersTable, IsCause, SameStore, cause_of, insert_into, refuses_create, refuses_part}
use Rattle.root_commits.specs.Merges.{EntersMerge, Merging, name_of_merge, sources_of}
use Rattle.root_commits.specs.Publications.{Adding, Publishes, partition_of_adding, publication_of_create, publication_of_merge, publication_of_part}

-- what a commit starts from, and what it leaves: a store, and what is known of the outside
pub record Root (F : Type 0) : Type 0 where
  pub store : CoreStore F
  pub storage : Storage

abbrev pub root_of : {F : Type 0} → CoreStore F → Option Told → ℕ → ℕ → Option keeper.Told → Root F
root_of store disk clock failed annals = record { store = store; storage = storage disk clock failed annals }

-- turns may follow
abbrev pub IsReadyRoot : {F : Type 0} → Root F → Type 0
IsReadyRoot now = IsReady now.storage.failed now.storage.disk now.store

-- A commit, from a root that it may start from. Its cause is the one that is shown, or one of the outside. A name is published and settled, and
-- the store has what was committed; or it was refused, and the store has the same tables and parts. Turns may follow.
pub record Commits {F T S : Type 0} (From : Type 0) (shown : Option Refused) (p : Publication) (Enters : CoreStore F → CoreStore F → Type 0) (was now : Root F) (sealed : S) (result : Result T (Returned S)) : Type 0 where
  pub from : From
  pub cause : IsCause shown (cause_of result)
  pub turn : Publishes p was.storage now.storage sealed result
  pub enters : MatchResult result (λ _. Enters was.store now.store) (λ _. SameStore was.store now.store)
  pub ready : IsReadyRoot now

-- a root that a CREATE may be committed to: turns may follow, and the table's name and schema are ones that a table may have
pub record MayCreate {F : Type 0} (create : Create) (was : Root F) : Type 0 where
  pub ready : IsReadyRoot was
  pub named : IsTrue (is_table create.table)
  pub schema : IsTableSchema create.schema

-- a CREATE of a session, whose entry was sealed
abbrev pub CommitsCreate : {F T S : Type 0} → ℕ → Create → Filled → Root F → Root F → S → Result T (Returned S) → Type 0
CommitsCreate session create entry was now sealed result =
    Commits (MayCreate create was) (refuses_create was.store create.table was.storage.failed) (publication_of_create session create entry) (EntersTable create.table create.schema) was now sealed result

-- a root that a block may be added to: turns may follow, and the block's rows are of the table, which is there
pub record MayAdd {F : Type 0} (a : Adding) (was : Root F) : Type 0 where
  pub ready : IsReadyRoot was
  pub there : table_at was.store a.table ≡ Some a.kept
  pub rows : IsInsertInto a.kept.schema (insert_into a.table (partition_of_adding a) a.block)

-- a block that is added, whose part was sealed
abbrev pub CommitsPart : {F T S : Type 0} → (F → Option Files) → Adding → Root F → Root F → S → Result T (Returned S) → Type 0
CommitsPart files_of a was now sealed result =
    Commits (MayAdd a was) (refuses_part was.store a.table (partition_of_adding a) a.kept.drawn was.storage.failed) (publication_of_part a)
    (EntersSealed files_of a.sealed.files a.loaded a.table (partition_of_adding a) a.kept) was now sealed result

-- A root in whose store a part may take the place of a run of a table's parts: turns may follow, and the name is the one that a merge of the run
-- has, whose level is none that is greater than may be.
pub record MaySwap {F : Type 0} (m : Merging) (name : PartName) (was : Root F) : Type 0 where
  pub ready : IsReadyRoot was
  pub run : IsRun m.run (kept_in m.partition (parts_of was.store.set m.table))
  pub ordered : IsInBlockOrder (kept_in m.partition (parts_of was.store.set m.table))
  pub named : name_of_merge (sources_of was.store m) ≡ Some name
  pub low : name.level ≤ level_limit

-- a merge, whose part was sealed
abbrev pub CommitsMerge : {F T S : Type 0} → (F → Option Files) → Merging → PartName → Root F → Root F → S → Result T (Returned S) → Type 0
CommitsMerge files_of m name was now sealed result =
    Commits (MaySwap m name was) (stopped_by was.store.opened was.storage.failed) (publication_of_merge m name)
    (EntersMerge files_of m name) was now sealed result
