-- Kept parts in block order are so with their rows.
use Rattle.std.proofs.Common.{◌≡◌, ℕ, ◌+◌, ◌<◌, true, false, ◌&&◌, ◌||◌, List, [], ◌∷◌, length, refl, subst, arith, zero, suc, nat_eq, nat_le, nat_lt}
use Rattle.std.proofs.lemmas.Bool.Decides.{nat_tests}
use Rattle.std.specs.List.{Contains as HasItem}
use Rattle.std.specs.List.Sorted.{IsSorted}
use Rattle.std.specs.Ordering.{is_lt, nat_cmp, ordering_then}
use Rattle.mt_base.specs.declared.partition.Partition.{Partition}
use Rattle.mt_base.specs.declared.partition.Partition.TheVariants.{Whole, Number}
use Rattle.mt_values.specs.Values.{Row}
use Rattle.part_reader.specs.declared.reading.Part.{Part}
use Rattle.table_core.specs.part_set.declared.kept.Kept.{Kept}
use Rattle.table_core.specs.part_set.Parts.{IsInBlockOrder, StandsClear, partition_rank}
use Rattle.table_core.proofs.PartSetItems.{item_first}
use Rattle.table_core.specs.part_history.declared.part.CorePart.{CorePart}
use Rattle.table_core.specs.part_history.Parts.{AreInBlockOrder, block_cmp, partition_cmp}
use Rattle.root_store.specs.Stores.{core_part, core_parts}

not_below : (p q : Partition) (m n : ℕ) → (nat_lt (partition_rank p) (partition_rank q) || (nat_eq (partition_rank p) (partition_rank q) && nat_le m n)) ≡ true
    → is_lt (ordering_then (partition_cmp q p) (nat_cmp n m)) ≡ false
not_below Whole Whole m n is = grind (arith, nat_tests)
not_below Whole (Number b) m n is = refl
not_below (Number a) Whole m n is = grind (arith, nat_tests)
not_below (Number a) (Number b) m n is = grind (arith, nat_tests)

sorted_next : (x y : CorePart) (ys : List CorePart) → is_lt (block_cmp y x) ≡ false → IsSorted block_cmp (y ∷ ys) → IsSorted block_cmp (x ∷ y ∷ ys)
sorted_next x y ys above up zero d low high = above
sorted_next x y ys above up (suc k) d low high =
    let next : suc k + 1 ≡ suc (k + 1) = omega arith in
    let below : k + 1 < length (y ∷ ys) = omega arith in
    rw next (up k d (omega arith) below)

module _ {P : Type 0} (k : Kept P) (ks : List (Kept P)) (order : IsInBlockOrder (k ∷ ks)) where
  -- the parts after the first are in block order
  pub pairs_tail : IsInBlockOrder ks
  pairs_tail i j d less inside = order (suc i) (suc j) d (omega arith) (omega arith)

  -- and the first stands clear of each of them
  pub pairs_head : (x : Kept P) → HasItem ks x → StandsClear k.name x.name
  pairs_head x has = subst (λ (y : Kept P). StandsClear k.name y.name) has.2 (order zero (suc has.0) x (omega arith) (omega (arith, has.1)))

module _ {F : Type 0} (table : List ℕ) where
  pub core_order : (ks : List (Kept (Part F))) (rows : List (List Row)) → IsInBlockOrder ks → AreInBlockOrder (core_parts table ks rows)
  core_order [] rows order = λ k d low high. absurd (omega arith)
  core_order (a ∷ ks) [] order = λ k d low high. absurd (omega arith)
  core_order (a ∷ []) (r ∷ rows) order = λ k d low high. absurd (omega arith)
  core_order (a ∷ b ∷ ks) (r ∷ []) order = λ k d low high. absurd (omega arith)
  core_order (a ∷ b ∷ ks) (r ∷ s ∷ rows) order =
      sorted_next (core_part table a r) (core_part table b s) (core_parts table ks rows)
      (not_below a.name.partition b.name.partition a.name.min_block b.name.min_block (pairs_head a (b ∷ ks) order b (item_first b ks)).order)
      (core_order (b ∷ ks) (s ∷ rows) (pairs_tail a (b ∷ ks) order))
