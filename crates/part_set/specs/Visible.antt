-- Which parts of the root are visible (docs/definitions.md, "Visible parts").
use Rattle.std.specs.Prelude.{◌≡◌, ◌≢◌, ◌⊎◌, ℕ, ◌<◌, ◌≤◌, List, IsSome, IsSomeAnd, slice_get}
use Rattle.std.specs.List.{Contains as HasItem}
use Rattle.part_name.specs.PartNames.{Contains, Meet}
use Rattle.part_set.specs.declared.root_name.RootName.{RootName}
use Rattle.part_set.specs.declared.root_name.RootName.TheVariants.{Create, Part}
use Rattle.part_set.specs.declared.root_name.TablePart.{TablePart}

-- the part is among the names
abbrev pub HasPart : List RootName → TablePart → Type 0
HasPart names part = HasItem names (Part part)

-- the table is among the names
abbrev pub HasTable : List RootName → List ℕ → Type 0
HasTable names table = HasItem names (Create table)

-- the first part covers the second: they are of one table, and the first one's name contains the second one's
pub record Covers (a b : TablePart) : Type 0 where
  pub table : a.table ≡ b.table
  pub name : Contains a.name b.name

-- a part is hidden where another part among the names covers it
pub record IsHidden (names : List RootName) (part : TablePart) : Type 0 where
  pub by : TablePart
  pub here : HasPart names by
  pub other : by ≢ part
  pub covers : Covers by part

-- a part among the names is visible where it is not hidden
pub record IsVisible (names : List RootName) (part : TablePart) : Type 0 where
  pub here : HasPart names part
  pub shows : IsHidden names part → ⊥

-- two visible parts of a table overlap where they have a block of one partition in common, and neither covers the other
pub record Overlap (names : List RootName) (a b : TablePart) : Type 0 where
  pub first : IsVisible names a
  pub second : IsVisible names b
  pub table : a.table ≡ b.table
  pub meet : Meet a.name b.name
  pub apart : a ≢ b
  pub not_covered : Covers a b → ⊥
  pub not_covering : Covers b a → ⊥

-- a part is an orphan where its table is not among the names, or where it says that a mutation was applied to it
abbrev pub IsOrphan : List RootName → RootName → Type 0
IsOrphan names (Create table) = ⊥
IsOrphan names (Part part) = (HasTable names part.table → ⊥) ⊎ IsSome part.name.mutation

-- the name at the place is an orphan
abbrev pub OrphanAt : List RootName → ℕ → Type 0
OrphanAt names place = IsSomeAnd (slice_get names place) (IsOrphan names)

-- and none before it is: of names in byte order, it is the first in byte order
pub record IsFirstOrphan (names : List RootName) (place : ℕ) : Type 0 where
  pub is : OrphanAt names place
  pub first : (k : ℕ) → k < place → OrphanAt names k → ⊥

-- two names are parts that overlap
abbrev pub Overlapping : List RootName → RootName → RootName → Type 0
Overlapping names (Create t) b = ⊥
Overlapping names (Part a) (Create u) = ⊥
Overlapping names (Part a) (Part b) = Overlap names a b

-- the parts at the places overlap
abbrev pub OverlapAt : List RootName → ℕ → ℕ → Type 0
OverlapAt names i j = IsSomeAnd (slice_get names i) (λ a. IsSomeAnd (slice_get names j) (Overlapping names a))

-- and no pair before theirs does, by the first name and then by the second
pub record IsFirstOverlap (names : List RootName) (i j : ℕ) : Type 0 where
  pub is : OverlapAt names i j
  pub first : (k l : ℕ) → OverlapAt names k l → i ≤ k
  pub second : (l : ℕ) → OverlapAt names i l → j ≤ l

-- no name is an orphan
abbrev pub HasNoOrphan : List RootName → Type 0
HasNoOrphan names = (name : RootName) → HasItem names name → IsOrphan names name → ⊥

-- no two parts overlap
abbrev pub HasNoOverlap : List RootName → Type 0
HasNoOverlap names = (a b : TablePart) → Overlap names a b → ⊥
