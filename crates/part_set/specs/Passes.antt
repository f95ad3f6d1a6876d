-- The visible parts of one table, out of a list of its parts.
use Rattle.std.specs.Prelude.{◌≡◌, ◌≢◌, ◌↔◌, ◌-◌, List, length, Option, None, IsSomeAnd, IfSome, slice_get}
use Rattle.std.specs.List.{Contains as HasItem}
use Rattle.std.specs.List.Sorted.{IsSortedBy}
use Rattle.std.specs.Ordering.{is_lt, nat_cmp, ordering_then}
use Rattle.std.specs.declared.cmp.Ordering.{Ordering}
use Rattle.part_name.specs.declared.part.PartName.{PartName}
use Rattle.part_name.specs.declared.relations.Stand.{Stand}
use Rattle.part_name.specs.declared.relations.Stand.TheVariants.{Covered, Overlapping, Clear}
use Rattle.part_name.specs.PartNames.{Contains, IsPartName, Meet}
use Rattle.part_set.specs.declared.kept.Kept.{Kept}
use Rattle.part_set.specs.Parts.{HasName, partition_rank}

-- block order, and of those that begin in one place the widest first, and then the one of the greatest level
abbrev pub pass_order : PartName → PartName → Ordering
pass_order a b =
    ordering_then (nat_cmp (partition_rank a.partition) (partition_rank b.partition))
    (ordering_then (nat_cmp a.min_block b.min_block) (ordering_then (nat_cmp b.max_block a.max_block) (nat_cmp b.level a.level)))

-- a list in that order
abbrev pub IsInPassOrder : List PartName → Type 0
IsInPassOrder parts = IsSortedBy (λ a b. is_lt (pass_order a b)) parts

-- the name of a part to which no mutation was applied
pub record IsPlainName (name : PartName) : Type 0 where
  pub named : IsPartName name
  pub plain : name.mutation ≡ None

-- a part of the list that no other part of it contains
pub record IsShown (parts : List PartName) (part : PartName) : Type 0 where
  pub here : HasItem parts part
  pub shows : (other : PartName) → HasItem parts other → other ≢ part → Contains other part → ⊥

-- two that are shown have a block in common
pub record Clash (parts : List PartName) : Type 0 where
  pub first : PartName
  pub second : PartName
  pub first_shown : IsShown parts first
  pub second_shown : IsShown parts second
  pub meet : Meet first second
  pub apart : first ≢ second

-- these are the ones that are shown, and no two of them have a block in common
pub record AreShown (parts : List PartName) (kept : List (Kept (Unit {0}))) : Type 0 where
  pub shown : (name : PartName) → HasName kept name ↔ IsShown parts name
  pub clear : (a b : PartName) → IsShown parts a → IsShown parts b → Meet a b → a ≡ b

abbrev pub last_of : {X : Type 0} → List X → Option X
last_of xs = slice_get xs (length xs - 1)

-- how a part stands to the last one that is kept
abbrev pub StandsAs : List (Kept (Unit {0})) → PartName → Stand → Type 0
StandsAs kept part Covered = IsSomeAnd (last_of kept) (λ last. Contains last.name part)
StandsAs kept part Overlapping = IsSomeAnd (last_of kept) (λ last. Meet last.name part × (Contains last.name part → ⊥))
StandsAs kept part Clear = IfSome (last_of kept) (λ last. Meet last.name part → ⊥)
