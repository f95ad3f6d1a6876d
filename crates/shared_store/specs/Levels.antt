-- Whether some part that a store keeps has the greatest level, and what a turn leaves of that and of marks (docs/definitions-of-runs.md, "Faults of the outside").
use Rattle.std.specs.Prelude.{◌≡◌, ℕ, Bool, true, List, nat_le}
use Rattle.std.specs.List.{list_any}
use Rattle.mt_base.specs.Limits.{level_limit}
use Rattle.root_commits.specs.part_set.declared.kept.Kept.{Kept}
use Rattle.root_commits.specs.part_set.Sets.{parts_of}
use Rattle.root_commits.specs.root_store.declared.store.CoreStore.{CoreStore}
use Rattle.root_commits.specs.root_store.declared.store.Table.{Table}
use Rattle.root_commits.specs.root_store.Shown.{HasNoMark}

-- the part has the greatest level, so that no merge takes it (docs/replies.md, "Refusals")
abbrev pub is_greatest : {P : Type 0} → Kept P → Bool
is_greatest kept = nat_le level_limit kept.name.level

-- some of the parts has it (docs/replies.md, "Refusals")
abbrev pub any_greatest : {P : Type 0} → List (Kept P) → Bool
any_greatest parts = list_any is_greatest parts

-- some part of some table has it (docs/definitions-of-runs.md, "Faults of the outside")
abbrev pub has_greatest : {F : Type 0} → CoreStore F → Bool
has_greatest store = list_any (λ (e : List ℕ × Table). any_greatest (parts_of store.set e.0)) store.tables.entries

-- where some part had it, some part has it still (docs/definitions-of-runs.md, "Faults of the outside")
abbrev pub KeepsGreatest : {F : Type 0} → CoreStore F → CoreStore F → Type 0
KeepsGreatest was now = has_greatest was ≡ true → has_greatest now ≡ true

-- What a turn leaves of the parts that a store keeps: no mark where there was none, and a part of the greatest level where there was one
-- (docs/architecture.md, "The store").
pub record LeavesParts {F : Type 0} (was now : CoreStore F) : Type 0 where
  pub free : HasNoMark was → HasNoMark now
  pub levels : KeepsGreatest was now
