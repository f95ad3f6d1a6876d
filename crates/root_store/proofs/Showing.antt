-- What follows where the visible parts among the names of a root are exactly a store's.
use Rattle.std.proofs.Common.{◌≡◌, ℕ, List, [], All, false, refl, subst, sym}
use Rattle.std.proofs.lemmas.List.Elements.{All-nil}
use Rattle.mt_outside.specs.Disk.{Names}
use Rattle.root_store.specs.declared.store.CoreStore.{CoreStore}
use Rattle.root_store.specs.Shown.{AreShown, GreatestAreShown, IsShown, LevelIsShown, part_called}
use Rattle.table_core.specs.part_set.part_name.declared.part.PartName.{PartName}
use Rattle.part_reader.specs.declared.reading.Part.{Part}
use Rattle.table_core.specs.part_set.declared.kept.Kept.{Kept}
use Rattle.table_core.specs.part_set.declared.set.PartSet.{PartSet}
use Rattle.table_core.specs.part_set.Parts.{HasName}
use Rattle.table_core.specs.part_set.Sets.{parts_of}

-- a visible part has its own level and blocks
pub own_level : (names : Names) (table : List ℕ) (name : PartName) → IsShown names (part_called table name) → LevelIsShown names table name
own_level names table name shown = record { one = name; shown = shown; partition = refl; min_block = refl; max_block = refl; level = refl }

module _ {F : Type 0} (store : CoreStore F) (names : Names) where
  pub part_shown : AreShown store names → (table : List ℕ) (name : PartName) → HasName (parts_of store.set table) name → IsShown names (part_called table name)
  part_shown s table name has = record { read = s.read; are = s.are; visible = (s.parts table name).1 has }

  pub greatest_shown : AreShown store names → GreatestAreShown store names
  greatest_shown s = λ table name has greatest. own_level names table name (part_shown s table name has)

-- no part bears a mark where there is none
module _ {F : Type 0} (set : PartSet (Part F)) (empty : (table : List ℕ) → parts_of set table ≡ []) where
  abbrev NotBusy : Kept (Part F) → Type 0
  NotBusy k = k.busy ≡ false

  pub none_busy : (table : List ℕ) → All NotBusy (parts_of set table)
  none_busy table = subst (All NotBusy) (sym (empty table)) (All-nil NotBusy)
