-- What is known of a root that is open, and what its turns keep of it (docs/architecture.md, "The open root").
use Rattle.std.specs.Prelude.{◌≡◌, ◌≤◌, ℕ, List, Option, None, Some}
use Rattle.std.specs.Option.{MatchOption}
use Rattle.mt_base.specs.declared.policy.Policy.{Policy}
use Rattle.mt_values.specs.Annals as keeper
use Rattle.mt_values.specs.declared.schema.Schema.{Schema}
use Rattle.mt_outside.specs.Files.{Files}
use Rattle.merge_select.specs.Picks.{Choice}
use Rattle.root_commits.specs.part_reader.declared.reading.Part.{Part}
use Rattle.root_commits.specs.part_set.declared.kept.Snap.{Snap}
use Rattle.root_commits.specs.part_set.Parts.{IsInBlockOrder}
use Rattle.root_commits.specs.part_set.Sets.{parts_of}
use Rattle.root_commits.specs.Turns.{Root}
use Rattle.root_commits.specs.root_store.declared.store.CoreStore.{CoreStore}
use Rattle.root_commits.specs.root_store.declared.store.Table.{Table}
use Rattle.root_commits.specs.durable_commit.Publications.{Storage}
use Rattle.root_commits.specs.root_store.Crashes.{KeepsThroughCrashes}
use Rattle.root_commits.specs.root_store.Soundness.{IsReady}
use Rattle.root_commits.specs.root_store.Stores.{table_at}

-- What is known of an open root: what its store keeps, by which policy its parts are merged, what is known of its disk and its annals, and the
-- path of the folder that was started.
pub record Opened (F : Type 0) : Type 0 where
  pub store : CoreStore F
  pub policy : Policy
  pub storage : Storage
  pub started : Option (List ℕ)

-- the root is ready for a turn: its store is sound, and the disk's names and its count of faults fit it
abbrev pub IsOpen : {F : Type 0} → Opened F → Type 0
IsOpen root = IsReady root.storage.failed root.storage.disk root.store

-- a root by what is known of it
abbrev pub opened_of : {F : Type 0} → CoreStore F → Policy → Storage → Option (List ℕ) → Opened F
opened_of store policy storage started = record { store = store; policy = policy; storage = storage; started = started }

-- its store, and what is known of the outside
abbrev pub root_in : {F : Type 0} → Opened F → Root F
root_in root = record { store = root.store; storage = root.storage }

-- A turn finds the root ready for it and leaves it ready for the next. It keeps the disk's count of faults at opening, the policy and the
-- folder that was started, and the count now does not fall.
pub record GoesOn {F : Type 0} (was now : Opened F) : Type 0 where
  pub found : IsOpen was
  pub left : IsOpen now
  pub opened : now.store.opened ≡ was.store.opened
  pub policy : now.policy ≡ was.policy
  pub started : now.started ≡ was.started
  pub later : was.storage.failed ≤ now.storage.failed

-- A turn leaves a root through crashes as it was before: a crash leaves all that was noted (docs/crashes.md).
abbrev pub GoesThroughCrashes : {F : Type 0} → (F → Option Files) → Opened F → Opened F → Type 0
GoesThroughCrashes files_of was now =
    (first : keeper.Told) (start : ℕ) → KeepsThroughCrashes files_of was.store was.storage first start → KeepsThroughCrashes files_of now.store now.storage first start

-- what merges are chosen from in a store by a policy, and how; and in an open root
abbrev pub choice_by : {F : Type 0} → Policy → CoreStore F → Choice (Part F)
choice_by policy store = record { set = store.set; queue = store.mutations; count = (λ part. part.loaded.manifest.rows); policy = policy }

abbrev pub choice_of : {F : Type 0} → Opened F → Choice (Part F)
choice_of root = choice_by root.policy root.store

-- the snapshot has what the store keeps of a table, its parts in block order, and the length of its history
pub record IsSnapOf {F : Type 0} (store : CoreStore F) (table : List ℕ) (snap : Snap (Part F)) : Type 0 where
  pub made : Table
  pub there : table_at store table ≡ Some made
  pub schema : snap.schema ≡ made.schema
  pub parts : snap.parts.items ≡ parts_of store.set table
  pub ordered : IsInBlockOrder snap.parts.items
  pub length_is : snap.length ≡ store.length

-- a snapshot of a table, where there is the table
abbrev pub Snaps : {F : Type 0} → CoreStore F → List ℕ → Option (Snap (Part F)) → Type 0
Snaps store table found = MatchOption found (table_at store table ≡ None) (λ snap. IsSnapOf store table snap)

-- the schema of a table
abbrev pub schema_kept : Option Table → Option Schema
schema_kept None = None
schema_kept (Some made) = Some made.schema
