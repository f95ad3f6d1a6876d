-- The state of the core, and what always holds of it (docs/definitions.md, "The core").
use Rattle.std.specs.Prelude.{◌≡◌, ◌≤◌, ℕ, List, [], All, IsSome, length, take}
use Rattle.part_history.specs.mt_model.History.{History, IsLegal, schema_of}
use Rattle.part_history.specs.mt_model.Numbers.{mutations_in}
use Rattle.part_history.specs.declared.part.CorePart.{CorePart}
use Rattle.table_core.specs.declared.snapshot.Snapshot.{Snapshot}
use Rattle.part_history.specs.Parts.{AreInBlockOrder, PartsStand, TableStands, core_parts_of}

-- the visible parts of all tables, the accepted commands and the snapshots, in order (docs/definitions.md, "The core")
pub record Core : Type 0 where
  pub parts : List CorePart
  pub history : History
  pub snapshots : List Snapshot

-- nothing was done yet
abbrev pub empty_core : Core
empty_core = record { parts = []; history = []; snapshots = [] }

-- a snapshot has the parts that stand for its table after as many entries of the history as it says, in block order, and the mutations of the table in these (docs/definitions.md, "The core")
pub record IsSnapshot (h : History) (s : Snapshot) : Type 0 where
  pub within : s.length ≤ length h
  pub there : IsSome (schema_of s.table (take s.length h))
  pub stands : TableStands s.table s.parts (take s.length h)
  pub order : AreInBlockOrder s.parts
  pub mutations : s.mutations ≡ mutations_in s.table (take s.length h)

-- what always holds: the parts stand for a legal history, each table's in block order, and each snapshot for a front of it (docs/definitions.md, "The core")
pub record IsCore (core : Core) : Type 0 where
  pub legal : IsLegal core.history
  pub parts : PartsStand core.parts core.history
  pub order : (table : List ℕ) → AreInBlockOrder (core_parts_of table core.parts)
  pub snapshots : All (IsSnapshot core.history) core.snapshots
