-- What a set that was made of the names of the root shows (docs/definitions.md, "Visible parts").
use Rattle.std.specs.Prelude.{◌↔◌, ℕ, List}
use Rattle.part_name.specs.declared.part.PartName.{PartName}
use Rattle.part_set.specs.declared.root_name.RootName.{RootName}
use Rattle.part_set.specs.declared.set.PartSet.{PartSet}
use Rattle.part_set.specs.Parts.{HasName}
use Rattle.part_set.specs.Sets.{parts_of}
use Rattle.part_set.specs.Visible.{IsVisible, HasNoOrphan, HasNoOverlap}

-- the names have no orphan and no overlap, and the set has the visible parts of each table and no others
pub record Shows (names : List RootName) (set : PartSet (Unit {0})) : Type 0 where
  pub no_orphan : HasNoOrphan names
  pub no_overlap : HasNoOverlap names
  pub visible : (table : List ℕ) (name : PartName) → HasName (parts_of set table) name ↔ IsVisible names (record { table = table; name = name })
