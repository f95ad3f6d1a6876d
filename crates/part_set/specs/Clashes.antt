-- Parts that hide one another, and parts that overlap, as they are looked for (docs/definitions.md, "Visible parts").
use Rattle.std.specs.Prelude.{◌≡◌, ◌≢◌, ℕ, ◌<◌, List, IsSomeAnd, slice_get}
use Rattle.part_name.specs.PartNames.{Meet}
use Rattle.part_set.specs.declared.root_name.RootName.{RootName}
use Rattle.part_set.specs.declared.root_name.RootName.TheVariants.{Create, Part}
use Rattle.part_set.specs.declared.root_name.TablePart.{TablePart}
use Rattle.part_set.specs.declared.roots.SetFault.{SetFault}
use Rattle.part_set.specs.declared.roots.SetFault.TheVariants.{NoMemory, Orphan, Overlap as Overlapped}
use Rattle.part_set.specs.Visible.{Covers, HasNoOrphan, IsFirstOrphan, IsFirstOverlap, IsHidden, Overlap}

-- the name is another part, which covers this one
abbrev pub Hides : RootName → TablePart → Type 0
Hides (Create table) part = ⊥
Hides (Part by) part = (by ≢ part) × Covers by part

-- the name is a part that is not hidden
abbrev pub IsNotHidden : List RootName → RootName → Type 0
IsNotHidden names (Create table) = ⊥
IsNotHidden names (Part part) = IsHidden names part → ⊥

-- parts of one table that have a block in common, of which neither covers the other
pub record Clashing (a b : TablePart) : Type 0 where
  pub table : a.table ≡ b.table
  pub meet : Meet a.name b.name
  pub not_covered : Covers a b → ⊥
  pub not_covering : Covers b a → ⊥

abbrev pub ClashesWith : TablePart → RootName → Type 0
ClashesWith a (Create table) = ⊥
ClashesWith a (Part b) = Clashing a b

-- the name at the place passes, and none before it does
pub record IsFirstWith (P : RootName → Type 0) (names : List RootName) (place : ℕ) : Type 0 where
  pub is : IsSomeAnd (slice_get names place) P
  pub first : (k : ℕ) → k < place → IsSomeAnd (slice_get names k) P → ⊥

-- some two parts overlap
pub record HasOverlap (names : List RootName) : Type 0 where
  pub first : TablePart
  pub second : TablePart
  pub overlap : Overlap names first second

-- what is told of names that have no set
abbrev pub IsFault : List RootName → SetFault → Type 0
IsFault names NoMemory = Unit {0}
IsFault names (Orphan place) = IsFirstOrphan names place
IsFault names (Overlapped first second) = HasNoOrphan names × IsFirstOverlap names first second
