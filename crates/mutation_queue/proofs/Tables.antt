-- Something that may be done at places of a partition's parts is looked for in all tables, or in one.
use Rattle.std.proofs.Common.{◌≡◌, ℕ, ◌<◌, List, [], ◌∷◌, Option, Some, None, refl, sym, ap, subst, inl, inr, arith}
use Rattle.std.proofs.lemmas.Cmp.{nat_list_cmp_total, tied_itself}
use Rattle.std.proofs.lemmas.List.Elements.{All-contains}
use Rattle.std.proofs.lemmas.Map.Lookups.{exact_bytes}
use Rattle.std.proofs.lemmas.Map.Views.{btree_map_get_iff}
use Rattle.std.specs.BTreeMap.{IsOrdered}
use Rattle.std.specs.Cmp.Lexicographic.{slice_cmp}
use Rattle.std.specs.List.{All, Contains as HasItem}
use Rattle.std.specs.Option.{IfNone}
use Rattle.std.specs.Ordering.{nat_cmp}
use Rattle.std.specs.declared.cmp.Ordering.TheVariants.{Less}
use Rattle.mt_base.specs.declared.partition.Partition.{Partition}
use Rattle.part_set.specs.declared.kept.Kept.{Kept}
use Rattle.part_set.specs.declared.set.PartSet.{PartSet}
use Rattle.part_set.specs.Parts.{kept_in, partition_rank}
use Rattle.part_set.specs.Sets.{parts_of, parts_on, shelves_of}
use Rattle.part_set.specs.Shelf.{Shelf, all_parts}
use Rattle.mutation_queue.specs.declared.scope.Scope.{Scope}
use Rattle.mutation_queue.specs.declared.scope.Scope.TheVariants as scopes
use Rattle.mutation_queue.specs.Scopes.{ComesBefore, InScope}
use Rattle.mutation_queue.proofs.Gone.{GoneOver, before_here, here_has}

-- it may be done at no place of the table that has these shelves
abbrev pub NoneOf : {P : Type 0} → (List ℕ → List (Kept P) → ℕ → Type 0) → List ℕ × List (ℕ × Shelf P) → Type 0
NoneOf May e = (p : Partition) (k : ℕ) → May e.0 (kept_in p (all_parts e.1)) k → ⊥

-- nor of a partition of a table of the set
abbrev pub HasNone : {P : Type 0} → PartSet P → (List ℕ → List (Kept P) → ℕ → Type 0) → List ℕ → Partition → Type 0
HasNone set May t p = (k : ℕ) → May t (kept_in p (parts_of set t)) k → ⊥

-- something is said of the parts of a partition in the scope, before which no partition has such a place
pub record IsFirst {P : Type 0} (set : PartSet P) (May : List ℕ → List (Kept P) → ℕ → Type 0) (scope : Scope) (Said : List ℕ → List (Kept P) → Type 0) (table : List ℕ) (partition : Partition) : Type 0 where
  pub in_scope : InScope scope table partition
  pub said : Said table (kept_in partition (parts_of set table))
  pub first : (t : List ℕ) (p : Partition) → InScope scope t p → ComesBefore t p table partition → HasNone set May t p

not_before_itself : (t : List ℕ) → slice_cmp nat_cmp t t ≡ Less → ⊥
not_before_itself t less = let tied = tied_itself nat_list_cmp_total t in absurd cc

-- no partition comes before itself
none_before_itself : (t : List ℕ) (p : Partition) (u : List ℕ) (q : Partition) → u ≡ t → q ≡ p → ComesBefore u q t p → ⊥
none_before_itself t p u q same equal before = elim before [
  | inl below ↦ not_before_itself t (subst (λ (w : List ℕ). slice_cmp nat_cmp w t ≡ Less) same below)
  | inr within ↦ omega (arith, within.1, ap partition_rank equal)
]

module _ {P : Type 0} (set : PartSet P) (May : List ℕ → List (Kept P) → ℕ → Type 0) (empty : (t : List ℕ) (k : ℕ) → May t [] k → ⊥) where
  -- of a table whose shelves, if it has some, have no such place
  none_of_table : (t : List ℕ) → ((es : List (ℕ × Shelf P)) → shelves_of set.tables t ≡ Some es → NoneOf May (t, es)) → (p : Partition) → HasNone set May t p
  none_of_table t none p = by (shelves_of set.tables t) none
    where
      by : (o : Option (List (ℕ × Shelf P))) → ((es : List (ℕ × Shelf P)) → o ≡ Some es → NoneOf May (t, es)) → (k : ℕ) → May t (kept_in p (parts_on o)) k → ⊥
      by None none k may = empty t k may
      by (Some es) none k may = none es refl p k may

  -- ---- all tables

  module _ (ordered : IsOrdered (slice_cmp nat_cmp) set.tables) where
    entry_has : (t : List ℕ) (es : List (ℕ × Shelf P)) → shelves_of set.tables t ≡ Some es → HasItem set.tables.entries (t, es)
    entry_has t es is = (btree_map_get_iff nat_list_cmp_total exact_bytes set.tables ordered t es).0 is

    pub none_of_all : All (NoneOf May) set.tables.entries → (t : List ℕ) (p : Partition) → HasNone set May t p
    none_of_all all t p = none_of_table t (λ es is. All-contains (NoneOf May) set.tables.entries (t, es) all (entry_has t es is)) p

    module _ (left next : List (List ℕ × List (ℕ × Shelf P))) (here : List ℕ × List (ℕ × Shelf P)) (over : GoneOver (NoneOf May) set.tables.entries left) (step : left ≡ here ∷ next) where
      found : shelves_of set.tables here.0 ≡ Some here.1
      found = (btree_map_get_iff nat_list_cmp_total exact_bytes set.tables ordered here.0 here.1).1 (here_has (NoneOf May) set.tables.entries left here next over step)

      -- the first table that has such a place
      pub first_here : (Said : List ℕ → List (Kept P) → Type 0) (p : Partition) → Said here.0 (kept_in p (all_parts here.1))
          → ((q : Partition) → partition_rank q < partition_rank p → (k : ℕ) → May here.0 (kept_in q (all_parts here.1)) k → ⊥) → IsFirst set May scopes.All Said here.0 p
      first_here Said p said none = record {
        in_scope = tt;
        said = subst (λ (o : Option (List (ℕ × Shelf P))). Said here.0 (kept_in p (parts_on o))) (sym found) said;
        first = λ t q inside before. elim before [
          | inl below ↦ none_of_table t (λ es is. before_here (slice_cmp nat_cmp) nat_list_cmp_total (NoneOf May) set.tables.entries left next here over step ordered (t, es) (entry_has t es is) below) q
          | inr within ↦ (
              let there : HasNone set May here.0 q = subst (λ (o : Option (List (ℕ × Shelf P))). (k : ℕ) → May here.0 (kept_in q (parts_on o)) k → ⊥) (sym found) (none q within.1) in
              subst (λ (u : List ℕ). HasNone set May u q) (sym within.0) there
              )
        ];
      }

  -- ---- one table

  -- a table without shelves has no such place
  pub none_of_no_table : (t : List ℕ) → None ≡ shelves_of set.tables t → (u : List ℕ) (p : Partition) → u ≡ t → HasNone set May u p
  none_of_no_table t none u p same =
      subst (λ (w : List ℕ). HasNone set May w p) (sym same)
      (subst (λ (o : Option (List (ℕ × Shelf P))). (k : ℕ) → May t (kept_in p (parts_on o)) k → ⊥) none (empty t))

module _ {P : Type 0} (set : PartSet P) (May : List ℕ → List (Kept P) → ℕ → Type 0) (t : List ℕ) where
  module _ (es : List (ℕ × Shelf P)) (there : Some es ≡ shelves_of set.tables t) where
    here_none : (p : Partition) → ((k : ℕ) → May t (kept_in p (all_parts es)) k → ⊥) → (u : List ℕ) → u ≡ t → HasNone set May u p
    here_none p none u same =
        subst (λ (w : List ℕ). HasNone set May w p) (sym same) (subst (λ (o : Option (List (ℕ × Shelf P))). (k : ℕ) → May t (kept_in p (parts_on o)) k → ⊥) there none)

    -- the table has no such place
    pub none_of_one : NoneOf May (t, es) → (u : List ℕ) (p : Partition) → u ≡ t → HasNone set May u p
    none_of_one none u p same = here_none p (none p) u same

    -- the first of its partitions that has one
    pub first_of_one : (Said : List ℕ → List (Kept P) → Type 0) (scope : Scope) (p : Partition) → InScope scope t p → ((u : List ℕ) (q : Partition) → InScope scope u q → u ≡ t)
        → Said t (kept_in p (all_parts es)) → ((q : Partition) → partition_rank q < partition_rank p → (k : ℕ) → May t (kept_in q (all_parts es)) k → ⊥)
        → IsFirst set May scope Said t p
    first_of_one Said scope p inside only said none = record {
      in_scope = inside;
      said = subst (λ (o : Option (List (ℕ × Shelf P))). Said t (kept_in p (parts_on o))) there said;
      first = λ u q within before. elim before [
        | inl below ↦ absurd (not_before_itself t (subst (λ (w : List ℕ). slice_cmp nat_cmp w t ≡ Less) (only u q within) below))
        | inr less ↦ here_none q (none q less.1) u (only u q within)
      ];
    }

  -- ---- one partition

  module _ (p : Partition) (parts : List (Kept P)) (are : parts ≡ kept_in p (parts_of set t)) where
    -- the partition has no such place
    pub none_of_this : ((k : ℕ) → May t parts k → ⊥) → (u : List ℕ) (q : Partition) → u ≡ t → q ≡ p → HasNone set May u q
    none_of_this none u q same equal =
        subst (λ (w : List ℕ). HasNone set May w q) (sym same)
        (subst (λ (r : Partition). HasNone set May t r) (sym equal) (subst (λ (xs : List (Kept P)). (k : ℕ) → May t xs k → ⊥) are none))

    -- it has one
    pub first_of_this : (Said : List ℕ → List (Kept P) → Type 0) (scope : Scope) → InScope scope t p → ((u : List ℕ) (q : Partition) → InScope scope u q → (u ≡ t) × (q ≡ p)) → Said t parts
        → IsFirst set May scope Said t p
    first_of_this Said scope inside only said = record {
      in_scope = inside;
      said = subst (Said t) are said;
      first = λ u q within before. (let same = only u q within in absurd (none_before_itself t p u q same.0 same.1 before));
    }

-- what is found of a search that ended with none
pub none_then : {X : Type 0} (r : Option X) {N : Type 0} → N → IfNone r N
none_then None n = n
none_then (Some x) n = tt
