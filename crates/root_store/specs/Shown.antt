-- Which parts of a store are visible among the names of its root (docs/architecture.md, "The store").
use Rattle.std.specs.Prelude.{◌≡◌, ◌≤◌, ◌↔◌, ℕ, List, All, Option, false}
use Rattle.std.specs.Option.{ForSome}
use Rattle.mt_base.specs.Limits.{level_limit}
use Rattle.mt_outside.specs.Disk.{Image, Names, Told}
use Rattle.table_core.specs.part_set.part_name.declared.part.PartName.{PartName}
use Rattle.part_reader.specs.declared.reading.Part.{Part}
use Rattle.table_core.specs.part_set.declared.kept.Kept.{Kept}
use Rattle.table_core.specs.part_set.declared.root_name.RootName.{RootName}
use Rattle.table_core.specs.part_set.declared.root_name.TablePart.{TablePart}
use Rattle.table_core.specs.part_set.Parts.{HasName}
use Rattle.table_core.specs.part_set.Sets.{parts_of}
use Rattle.table_core.specs.part_set.Visible.{IsVisible}
use Rattle.root_store.specs.declared.store.CoreStore.{CoreStore}
use Rattle.root_store.specs.Roots.{AreNamesRead}

-- a part of this name of a table
abbrev pub part_called : List ℕ → PartName → TablePart
part_called table name = record { table = table; name = name }

-- a part is visible among the names of a root
pub record IsShown (names : Names) (part : TablePart) : Type 0 where
  pub read : List RootName
  pub are : AreNamesRead names read
  pub visible : IsVisible read part

-- the visible parts among the names are exactly the store's
pub record AreShown {F : Type 0} (store : CoreStore F) (names : Names) : Type 0 where
  pub read : List RootName
  pub are : AreNamesRead names read
  pub parts : (table : List ℕ) (name : PartName) → IsVisible read (part_called table name) ↔ HasName (parts_of store.set table) name

-- a part of the table is visible among the names that has the partition, the blocks and the level of this name
pub record LevelIsShown (names : Names) (table : List ℕ) (name : PartName) : Type 0 where
  pub one : PartName
  pub shown : IsShown names (part_called table one)
  pub partition : one.partition ≡ name.partition
  pub min_block : one.min_block ≡ name.min_block
  pub max_block : one.max_block ≡ name.max_block
  pub level : one.level ≡ name.level

-- for each part of the greatest level that the store has, one of that level and those blocks is visible among the names
abbrev pub GreatestAreShown : {F : Type 0} → CoreStore F → Names → Type 0
GreatestAreShown store names =
    (table : List ℕ) (name : PartName) → HasName (parts_of store.set table) name → level_limit ≤ name.level → LevelIsShown names table name

-- whatever a crash now leaves of the disk, the visible parts among its names are exactly the store's
abbrev pub ImagesShow : {F : Type 0} → Option Told → ℕ → CoreStore F → Type 0
ImagesShow disk clock store = ForSome disk (λ (told : Told). (names : Names) → Image told clock names → AreShown store names)

-- no part of the store bears a mark
abbrev pub HasNoMark : {F : Type 0} → CoreStore F → Type 0
HasNoMark {F} store = (table : List ℕ) → All (λ (k : Kept (Part F)). k.busy ≡ false) (parts_of store.set table)
