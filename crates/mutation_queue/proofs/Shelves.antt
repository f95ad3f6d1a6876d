-- Something that may be done at places of a partition's parts is looked for in a table, partition by partition.
use Rattle.std.proofs.Common.{◌≡◌, ℕ, ◌<◌, List, [], ◌∷◌, get_or, length, Option, Some, None, refl, sym, ap, ◌∙◌, subst, arith}
use Rattle.std.proofs.lemmas.Bool.Decides.{nat_tests}
use Rattle.std.proofs.lemmas.Cmp.{eq_by_cmp_equiv, nat_cmp_total}
use Rattle.std.proofs.lemmas.List.Elements.{All-contains}
use Rattle.std.proofs.lemmas.Map.Keys.{IsDistinct-from_sorted}
use Rattle.std.proofs.lemmas.Map.Lookups.{exact_unsigned}
use Rattle.std.proofs.lemmas.Map.Views.{Contains-from_lookup, lookup-from_Contains, tells_apart}
use Rattle.std.specs.BTreeMap.{is_at}
use Rattle.std.specs.List.{All, Contains as HasItem}
use Rattle.std.specs.Map.{keys_of, lookup}
use Rattle.std.specs.Ordering.{eq_by_cmp, nat_cmp}
use Rattle.std.specs.declared.cmp.Ordering.TheVariants.{Less}
use Rattle.mt_base.specs.declared.partition.Partition.{Partition}
use Rattle.part_set.specs.declared.kept.Kept.{Kept}
use Rattle.part_set.specs.Parts.{kept_in, partition_rank}
use Rattle.part_set.specs.Shelf.{AreFiled, IsFiled, Shelf, all_parts, shelf_at}
use Rattle.part_set.proofs.Filed.{parts_found, parts_there}
use Rattle.mutation_queue.proofs.Gone.{GoneOver, before_here, here_has}

below_is : (m n : ℕ) → m < n → nat_cmp m n ≡ Less
below_is m n below = grind (arith, nat_tests)

-- it may be done at no place of the shelf
abbrev pub NoneOn : {P : Type 0} → (List (Kept P) → ℕ → Type 0) → ℕ × Shelf P → Type 0
NoneOn May s = (k : ℕ) → May s.1.parts k → ⊥

module _ {P : Type 0} (May : List (Kept P) → ℕ → Type 0) (empty : (k : ℕ) → May [] k → ⊥) (es : List (ℕ × Shelf P)) (filed : AreFiled es) where
  -- nor of a partition whose shelf, if it has one, has no such place
  none_of_partition : (p : Partition) → ((v : Shelf P) → shelf_at p es ≡ Some v → NoneOn May (partition_rank p, v)) → (k : ℕ) → May (kept_in p (all_parts es)) k → ⊥
  none_of_partition p none k may = by (shelf_at p es) none (subst (λ (xs : List (Kept P)). May xs k) (parts_found p es filed.rise filed.filed) may)
    where
      by : (o : Option (Shelf P)) → ((v : Shelf P) → o ≡ Some v → NoneOn May (partition_rank p, v)) → May (parts_there o) k → ⊥
      by None none may = empty k may
      by (Some v) none may = none v refl k may

  shelf_has : (p : Partition) (v : Shelf P) → shelf_at p es ≡ Some v → HasItem es (partition_rank p, v)
  shelf_has p v is = Contains-from_lookup {eq = eq_by_cmp nat_cmp} (tells_apart {R = nat_cmp} exact_unsigned) (partition_rank p) v es is

  -- no shelf has any
  pub none_on_all : All (NoneOn May) es → (p : Partition) (k : ℕ) → May (kept_in p (all_parts es)) k → ⊥
  none_on_all all p = none_of_partition p (λ v is. All-contains (NoneOn May) es (partition_rank p, v) all (shelf_has p v is))

  module _ (left next : List (ℕ × Shelf P)) (here : ℕ × Shelf P) (over : GoneOver (NoneOn May) es left) (step : left ≡ here ∷ next) where
    -- the partition of a part of the shelf is the shelf's
    pub rank_of_part : (i : ℕ) (d : Kept P) → i < length here.1.parts → partition_rank (get_or here.1.parts i d).name.partition ≡ here.0
    rank_of_part i d inside =
        let shelf = All-contains IsFiled es here filed.filed (here_has (NoneOn May) es left here next over step) in
        shelf.mine i d inside

    module _ (p : Partition) (mine : partition_rank p ≡ here.0) where
      -- the shelf has the parts of its partition
      pub here_parts : kept_in p (all_parts es) ≡ here.1.parts
      here_parts =
          let has = here_has (NoneOn May) es left here next over step in
          let found : shelf_at p es ≡ Some here.1 = subst (λ (n : ℕ). lookup (is_at (nat_cmp n)) es ≡ Some here.1) (sym mine)
          (lookup-from_Contains {eq = eq_by_cmp nat_cmp} (eq_by_cmp_equiv nat_cmp_total) here.0 here.1 es (IsDistinct-from_sorted nat_cmp (keys_of es) filed.rise) has) in
          parts_found p es filed.rise filed.filed ∙ ap parts_there found

      -- and no partition before it has such a place
      pub none_before : (q : Partition) → partition_rank q < partition_rank p → (k : ℕ) → May (kept_in q (all_parts es)) k → ⊥
      none_before q below = none_of_partition q (λ v is.
          before_here nat_cmp nat_cmp_total (NoneOn May) es left next here over step filed.rise (partition_rank q, v) (shelf_has q v is) (below_is (partition_rank q) here.0 (omega (arith, below, mine))))
