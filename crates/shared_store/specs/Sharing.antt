-- What a lock keeps between two turns, and what it leaves at the end (docs/architecture.md, "The lock").
use Rattle.std.specs.Prelude.{◌≡◌, ℕ, ◌+◌, ◌-◌, ◌^◌, ◌<◌, ◌≤◌, ◌++◌, ◌∷◌, [], false, List, Option, None, Some, length, All}
use Rattle.mt_base.specs.declared.policy.Policy.{Policy}
use Rattle.mt_values.specs.declared.command.Entry.{Entry}
use Rattle.mt_values.specs.declared.schema.Schema.{Schema}
use Rattle.mt_outside.specs.Files.{Files}
use Rattle.history_seat.specs.declared.view.View.{View}
use Rattle.history_seat.specs.Views.{Begins, KnowsBegun, own}
use Rattle.root_commits.specs.mt_model.History.{History, first_of, schema_of}
use Rattle.root_commits.specs.root_store.declared.store.CoreStore.{CoreStore}
use Rattle.root_commits.specs.root_store.Shown.{HasNoMark}
use Rattle.root_commits.specs.root_store.Stores.{table_at}
use Rattle.root_commits.specs.durable_commit.Publications.{Storage}
use Rattle.shared_store.specs.Engines.{IsOpen, Opened, schema_kept}
use Rattle.shared_store.specs.declared.shared.Blanks.{Blanks}
use Rattle.shared_store.specs.Levels.{has_greatest}
use Rattle.shared_store.specs.Stood.{Premise, Stood}
use Rattle.shared_store.specs.Tallies.{Tally}

-- A root as it was opened: the schemas of its tables, what is begun, where this is known, by which policy its parts are merged, the disk's count of faults, that count as it was when the
-- root was first shared, and the path of the folder that was started.
pub record AtOpening : Type 0 where
  pub tables : List ℕ → Option Schema
  pub begun : Option Entry
  pub policy : Policy
  pub failed : ℕ
  pub shared : ℕ
  pub started : Option (List ℕ)

-- which ledgers count works, stops, levels and faults, and into how many parts the shares of each are cut
pub record Ledgers : Type 0 where
  pub parts : ℕ
  pub works : ℕ
  pub stops : ℕ
  pub levels : ℕ
  pub faults : ℕ

-- blanks of ledgers have these names, and their shares are cut into as many parts
abbrev pub AreLedgersOf : Ledgers → Blanks → Type 0
AreLedgersOf l blanks =
    (blanks.works.name ≡ l.works) × (blanks.works.parts ≡ l.parts) × (blanks.stops.name ≡ l.stops) × (blanks.stops.parts ≡ l.parts)
    × (blanks.levels.name ≡ l.levels) × (blanks.levels.parts ≡ l.parts) × (blanks.faults.name ≡ l.faults) × (blanks.faults.parts ≡ l.parts)

-- what is known of the value under the lock: its root, the entries since the opening, what was tried last and is begun still, the works that are out, and the stops, limits of levels
-- and faults that were counted
pub record Shown (F : Type 0) : Type 0 where
  pub root : Opened F
  pub list : List Entry
  pub tried : Option Entry
  pub out : ℕ
  pub stops : ℕ
  pub levels : ℕ
  pub faults : ℕ

abbrev pub shown : {F : Type 0} → Opened F → List Entry → Option Entry → ℕ → ℕ → ℕ → ℕ → Shown F
shown root list tried out stops levels faults = record { root = root; list = list; tried = tried; out = out; stops = stops; levels = levels; faults = faults }

-- the schema of a table: the one that it was opened with, or else the one with which a list made it since
abbrev pub schema_there : (List ℕ → Option Schema) → History → List ℕ → Option Schema
schema_there tables list table = first_of (tables table) (schema_of table list)

-- what is begun: what was tried since the opening, or what was begun at the opening, while nothing was added
abbrev pub begun_now : Option Entry → History → Option Entry → Option Entry
begun_now first list (Some e) = Some e
begun_now first [] None = first
begun_now first (e ∷ list) None = None

-- Whatever is known of the outside, a store has the tables that were opened and those that the list made since, and its length is that of both lists.
pub record Fits {F : Type 0} (before : History) (tables : List ℕ → Option Schema) (list : History) (store : CoreStore F) : Type 0 where
  pub length_is : store.length ≡ length before + length list
  pub schemas : (table : List ℕ) → schema_kept (table_at store table) ≡ schema_there tables list table

-- What holds whenever the lock is free. The root is the one that was opened, with its policy, and has the tables of both lists. What is known of it stands, for the list before and
-- that of the lock's seat. No part bears a mark while no work is out. No stop is counted while the disk's count is the one at opening, and no limit of levels while no
-- part has the greatest one. The disk's count is the one with which it was first shared, which is no less than the one at opening, and the faults that were counted since. The one
-- at opening is not its type's last value.
pub record IsShared {F : Type 0} (files_of : F → Option Files) (given : Premise → Type 0) (before : History) (o : AtOpening) (s : Shown F) : Type 0 where
  pub opened_is : s.root.store.opened ≡ o.failed
  pub policy_is : s.root.policy ≡ o.policy
  pub started_is : s.root.started ≡ o.started
  pub fits : Fits before o.tables s.list s.root.store
  pub stood : Stood files_of given s.stops s.tried (begun_now o.begun s.list s.tried) (before ++ s.list) s.root
  pub idle : s.out ≡ 0 → HasNoMark s.root.store
  pub no_stop : s.root.storage.failed ≡ o.failed → s.stops ≡ 0
  pub no_level : has_greatest s.root.store ≡ false → s.levels ≡ 0
  pub since : o.failed ≤ o.shared
  pub below : o.failed < 2 ^ 64 - 1
  pub met : s.root.storage.failed ≡ o.shared + s.faults

-- a root is ready to be shared: it is ready for a turn, and all that holds whenever the lock is free holds of it with nothing done since it was opened
pub record IsToBeShared {F : Type 0} (files_of : F → Option Files) (given : Premise → Type 0) (before : History) (o : AtOpening) (root : Opened F) : Type 0 where
  pub ready : IsOpen root
  pub shared : IsShared files_of given before o (shown root [] None 0 0 0 0)

-- A seat knows a whole history: the history begins with what the seat knows, and the seat's own entries are what the history has of its number. What was tried last and is
-- begun still, where it has the seat's number, is what the seat tried last. Session 0 knows that neither this nor an entry is of a session that it has not made.
pub record KnowsAll (log : History) (tried : Option Entry) (seat : View) : Type 0 where
  pub begins : Begins seat.list log
  pub own_is : seat.mine ≡ own seat.number log
  pub named : seat.number ≡ 0 → All (λ (e : Entry). e.session ≤ seat.made) log
  pub knows : KnowsBegun seat tried

-- What is left once all seats and a share are given back: a root over what is known of the disk and the annals, of which all holds that held under the lock. Each
-- seat knows the whole list. A share with every part of the ledgers has counted all that they count.
pub record Finished {F : Type 0} (files_of : F → Option Files) (given : Premise → Type 0) (before : History) (o : AtOpening) (whole : ℕ) (now : Storage) (started : Option (List ℕ)) (seats : List View) (share : Tally) : Type 0 where
  pub last : Shown F
  pub ready : IsOpen last.root
  pub shared : IsShared files_of given before o last
  pub storage_is : last.root.storage ≡ now
  pub started_is : last.root.started ≡ started
  pub seats_known : All (KnowsAll last.list last.tried) seats
  pub counted : share.parts ≡ whole → (last.out ≡ share.out) × (last.stops ≡ share.stops) × (last.levels ≡ share.levels) × (last.faults ≡ share.faults)
