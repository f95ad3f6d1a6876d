-- Marks that are given to all parts, or taken from all.
use Rattle.std.proofs.Common.{◌≡◌, ℕ, ◌+◌, Bool, false, List, [], ◌∷◌, ◌++◌, drop, length, map, take, Option, Some, None, refl, sym, ap, ap₂, ◌∙◌, subst, arith}
use Rattle.std.proofs.lemmas.List.{append-nil, drop_all, map-append, take_all}
use Rattle.std.proofs.lemmas.List.Elements.{All-from_recursion, recursion_from_All}
use Rattle.std.proofs.lemmas.Map.Made.{keys_of-map_values, lookup-map_values}
use Rattle.std.specs.BTreeMap.{is_at}
use Rattle.std.specs.Cmp.Lexicographic.{slice_cmp}
use Rattle.std.specs.List.{AllByRecursion}
use Rattle.std.specs.List.Sorted.{IsStrictlySortedBy}
use Rattle.std.specs.Map.{lookup}
use Rattle.std.specs.Option.{option_map}
use Rattle.std.specs.Ordering.{nat_cmp}
use Rattle.mt_base.specs.declared.partition.Partition.{Partition}
use Rattle.part_name.specs.declared.part.PartName.{PartName}
use Rattle.part_set.specs.declared.kept.Kept.{Kept}
use Rattle.part_set.specs.Parts.{IsInBlockOrder, partition_rank}
use Rattle.part_set.specs.Runs.{with_mark}
use Rattle.part_set.specs.Sets.{parts_on, room_on}
use Rattle.part_set.specs.Shelf.{AreFiled, IsFiled, Shelf, all_parts, freed_shelf, freed_shelves, room_of, shelf_at}
use Rattle.part_set.proofs.Swaps.{named_mine, named_ordered}

module _ {P : Type 0} where
  -- ---- the parts of a shelf

  -- a run of all parts
  pub marked_whole : (busy : Bool) (parts : List (Kept P)) (n : ℕ) → n ≡ length parts → take 0 parts ++ (map (with_mark busy) (take n (drop 0 parts)) ++ drop (0 + n) parts) ≡ map (with_mark busy) parts
  marked_whole busy parts n all =
      let front : take n (drop 0 parts) ≡ parts = take_all n parts (omega (arith, all)) in
      let back : drop (0 + n) parts ≡ [] = drop_all (0 + n) parts (omega (arith, all)) in
      ap₂ (λ (xs ys : List (Kept P)). map (with_mark busy) xs ++ ys) front back ∙ append-nil (map (with_mark busy) parts)

  pub none_marked : (busy : Bool) (parts : List (Kept P)) → length parts ≡ 0 → parts ≡ map (with_mark busy) parts
  none_marked busy [] none = refl
  none_marked busy (k ∷ ks) none = absurd (omega (arith, none))

  freed_names : (ks : List (Kept P)) → map (λ (k : Kept P). k.name) (map (with_mark false) ks) ≡ map (λ (k : Kept P). k.name) ks
  freed_names [] = refl
  freed_names (k ∷ ks) = ap (λ (ns : List PartName). k.name ∷ ns) (freed_names ks)

  pub freed_ordered : (ks : List (Kept P)) → IsInBlockOrder ks → IsInBlockOrder (map (with_mark false) ks)
  freed_ordered ks ordered = named_ordered ks (map (with_mark false) ks) (freed_names ks) ordered

  -- ---- the shelves of a table

  freed_one : (s : ℕ × Shelf P) → IsFiled s → IsFiled (s.0, freed_shelf s.1)
  freed_one s f = record {
    mine = named_mine s.1.parts (map (with_mark false) s.1.parts) (freed_names s.1.parts) s.0 f.mine;
    ordered = freed_ordered s.1.parts f.ordered;
  }

  freed_each : (es : List (ℕ × Shelf P)) → AllByRecursion IsFiled es → AllByRecursion IsFiled (freed_shelves es)
  freed_each [] all = tt
  freed_each (s ∷ es) all = (freed_one s all.0, freed_each es all.1)

  pub freed_filed : (es : List (ℕ × Shelf P)) → AreFiled es → AreFiled (freed_shelves es)
  freed_filed es f = record {
    rise = subst (IsStrictlySortedBy nat_cmp) (sym (keys_of-map_values freed_shelf es)) f.rise;
    filed = All-from_recursion IsFiled (freed_shelves es) (freed_each es (recursion_from_All IsFiled es f.filed));
  }

  freed_parts : (es : List (ℕ × Shelf P)) → all_parts (freed_shelves es) ≡ map (with_mark false) (all_parts es)
  freed_parts [] = refl
  freed_parts (s ∷ es) = ap (λ (ks : List (Kept P)). map (with_mark false) s.1.parts ++ ks) (freed_parts es) ∙ sym (map-append (with_mark false) s.1.parts (all_parts es))

  freed_room : (o : Option (Shelf P)) → room_of (option_map freed_shelf o) ≡ room_of o
  freed_room None = refl
  freed_room (Some s) = refl

  -- ---- what a set has of a table

  pub freed_on : (o : Option (List (ℕ × Shelf P))) → parts_on (option_map freed_shelves o) ≡ map (with_mark false) (parts_on o)
  freed_on None = refl
  freed_on (Some es) = freed_parts es

  pub freed_room_on : (o : Option (List (ℕ × Shelf P))) (p : Partition) → room_on (option_map freed_shelves o) p ≡ room_on o p
  freed_room_on None p = refl
  freed_room_on (Some es) p = ap room_of (lookup-map_values freed_shelf (is_at (nat_cmp (partition_rank p))) es) ∙ freed_room (shelf_at p es)

  -- a table's shelves, once those of all tables are freed
  pub freed_at : (old new : List (List ℕ × List (ℕ × Shelf P))) → new ≡ map (λ (e : List ℕ × List (ℕ × Shelf P)). (e.0, freed_shelves e.1)) old → (t : List ℕ)
      → lookup (is_at (slice_cmp nat_cmp t)) new ≡ option_map freed_shelves (lookup (is_at (slice_cmp nat_cmp t)) old)
  freed_at old new is t = ap (λ (es : List (List ℕ × List (ℕ × Shelf P))). lookup (is_at (slice_cmp nat_cmp t)) es) is ∙ lookup-map_values freed_shelves (is_at (slice_cmp nat_cmp t)) old
