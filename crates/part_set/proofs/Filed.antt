-- The shelves of one table, as one list of its parts.
use Rattle.std.proofs.Common.{◌≡◌, ℕ, zero, suc, ◌+◌, ◌-◌, ◌<◌, Bool, true, false, cond, eqb, List, [], ◌∷◌, ◌++◌, length, length-append, get_or, Option, Some, None, refl, sym, ap, ◌∙◌, subst, inl, inr, arith}
use Rattle.std.proofs.lemmas.Bool.Decides.{nat_tests}
use Rattle.std.proofs.lemmas.List.{append-nil}
use Rattle.std.proofs.lemmas.List.Edits.{insert-append_left, insert-append_right}
use Rattle.std.proofs.lemmas.List.Elements.{All-append, All-cons, All-contains, All-head, All-nil, All-tail, Contains-get_or, filter-append}
use Rattle.std.proofs.lemmas.List.Kept.{AllPairs-cons}
use Rattle.std.proofs.lemmas.Map.Keys.{sorted_head, sorted_tail}
use Rattle.std.proofs.lemmas.Map.Lookups.{exact_unsigned}
use Rattle.std.specs.BTreeMap.{insert_entry, is_at}
use Rattle.std.specs.Cmp.{Equal-is}
use Rattle.std.specs.List.{All, AllByRecursion, AllPairs, Contains as HasItem, insert}
use Rattle.std.specs.List.Sorted.{IsStrictlySortedBy}
use Rattle.std.specs.Map.{keys_of, lookup, set_value}
use Rattle.std.specs.Ordering.{is_eq, match_ordering, nat_cmp}
use Rattle.std.specs.Result.{OnErr, OnOk}
use Rattle.std.specs.declared.cmp.Ordering.{Ordering}
use Rattle.std.specs.declared.cmp.Ordering.TheVariants.{Less, Equal, Greater}
use Rattle.std.specs.declared.result.Result.{Result}
use Rattle.std.specs.declared.result.Result.TheVariants.{Ok, Err}
use Rattle.mt_base.specs.declared.memory.NoMemory.{NoMemory}
use Rattle.mt_base.specs.declared.partition.Partition.{Partition}
use Rattle.mt_base.specs.declared.partition.Partition.TheVariants.{Whole, Number}
use Rattle.mt_values.specs.Tables.{same_partition}
use Rattle.part_name.specs.declared.part.PartName.{PartName}
use Rattle.part_set.specs.declared.kept.Kept.{Kept}
use Rattle.part_set.specs.Parts.{IsAdded, IsInBlockOrder, StandsClear, kept_in, partition_rank}
use Rattle.part_set.specs.Shelf.{AreFiled, IsFiled, Shelf, all_parts, shelf_at}
use Rattle.part_set.proofs.Items.{item_cases, item_first}
use Rattle.part_set.proofs.Orders.{order_tested}

-- ---- places of partitions

same_numbers : (m n : ℕ) → m + 1 ≡ n + 1 → eqb m n ≡ true
same_numbers m n same = grind (arith, nat_tests)

other_numbers : (m n : ℕ) → (m + 1 ≡ n + 1 → ⊥) → eqb m n ≡ false
other_numbers m n other = grind (arith, nat_tests)

pub same_ranked : (a b : Partition) → partition_rank a ≡ partition_rank b → same_partition a b ≡ true
same_ranked Whole Whole same = refl
same_ranked Whole (Number n) same = absurd (omega (arith, same))
same_ranked (Number m) Whole same = absurd (omega (arith, same))
same_ranked (Number m) (Number n) same = same_numbers m n same

pub other_ranked : (a b : Partition) → (partition_rank a ≡ partition_rank b → ⊥) → same_partition a b ≡ false
other_ranked Whole Whole other = absurd (other refl)
other_ranked Whole (Number n) other = refl
other_ranked (Number m) Whole other = refl
other_ranked (Number m) (Number n) other = other_numbers m n other

pub place_found : (m n : ℕ) → is_at (nat_cmp m) n ≡ true → m ≡ n
place_found m n is = exact_unsigned m n ((Equal-is (nat_cmp m n)).0 is)

place_other : (m n : ℕ) → is_at (nat_cmp m) n ≡ false → m ≡ n → ⊥
place_other m n is same = grind (arith, nat_tests)

less_is : (m n : ℕ) → nat_cmp m n ≡ Less → m < n
less_is m n is = grind (arith, nat_tests)

clear_apart : (n : ℕ) (a b : PartName) → partition_rank a.partition ≡ n → n < partition_rank b.partition → StandsClear a b
clear_apart n a b first second = record {
  order = order_tested a b (omega (arith, first, second)) (λ same. absurd (omega (arith, first, second, same)));
  apart = λ both. (let same = ap partition_rank both.partition in absurd (omega (arith, first, second, same)));
}

pub some_is : {X : Type 0} (x y : X) → Some x ≡ Some y → x ≡ y
some_is x y same = cc

-- ---- pairs of two lists

module _ {X : Type 0} (R : X → X → Type 0) where
  pairs_tail : (x : X) (xs : List X) → AllPairs R (x ∷ xs) → AllPairs R xs
  pairs_tail x xs all = λ i j d less inside. all (suc i) (suc j) d (omega (arith, less)) (omega (arith, inside))

  pairs_head : (x : X) (xs : List X) → AllPairs R (x ∷ xs) → All (R x) xs
  pairs_head x xs all = λ k d inside. all zero (suc k) d (omega arith) (omega (arith, inside))

  -- where each of the first list is so to each of the second
  pub pairs_joined : (xs ys : List X) → AllPairs R xs → AllPairs R ys → ((x y : X) → HasItem xs x → HasItem ys y → R x y) → AllPairs R (xs ++ ys)
  pairs_joined [] ys first second cross = second
  pairs_joined (x ∷ xs) ys first second cross =
      AllPairs-cons R x (xs ++ ys)
      (All-append (R x) xs ys (pairs_head x xs first) (λ k d inside. cross x (get_or ys k d) (item_first x xs) (Contains-get_or ys k d inside)))
      (pairs_joined xs ys (pairs_tail x xs first) second (λ a b here there. cross a b (suc here.0, omega (arith, here.1), here.2) there))

-- ---- one part more

module _ {P : Type 0} (k : Kept P) where
  -- in the first of two lists
  pub added_left : (xs ys zs : List (Kept P)) → IsAdded xs k ys → IsAdded (xs ++ zs) k (ys ++ zs)
  added_left xs ys zs a = record {
    place = a.place;
    within = omega (arith, a.within, length-append xs zs);
    is = ap (λ (l : List (Kept P)). l ++ zs) a.is ∙ sym (insert-append_left xs zs a.place k a.within);
  }

  -- in the second
  pub added_right : (zs xs ys : List (Kept P)) → IsAdded xs k ys → IsAdded (zs ++ xs) k (zs ++ ys)
  added_right zs xs ys a =
      let place : length zs + a.place - length zs ≡ a.place = omega arith in
      let there = insert-append_right zs xs (length zs) (length zs + a.place) k refl (omega arith) in
      record {
        place = length zs + a.place;
        within = omega (arith, a.within, length-append zs xs);
        is = ap (λ (l : List (Kept P)). zs ++ l) a.is ∙ (ap (λ (n : ℕ). zs ++ insert xs n k) (sym place) ∙ sym there);
      }

module _ {P : Type 0} where
  -- ---- the parts of one shelf among all

  all_mine : (p : Partition) (n : ℕ) (ks : List (Kept P)) → n ≡ partition_rank p → All (λ (k : Kept P). partition_rank k.name.partition ≡ n) ks → kept_in p ks ≡ ks
  all_mine p n [] same all = refl
  all_mine p n (k ∷ ks) same all =
      let here = All-head (λ (x : Kept P). partition_rank x.name.partition ≡ n) k ks all in
      let rest = all_mine p n ks same (All-tail (λ (x : Kept P). partition_rank x.name.partition ≡ n) k ks all) in
      ap (λ (b : Bool). cond b (k ∷ kept_in p ks) (kept_in p ks)) (same_ranked k.name.partition p (here ∙ same)) ∙ ap (λ (xs : List (Kept P)). k ∷ xs) rest

  none_mine : (p : Partition) (n : ℕ) (ks : List (Kept P)) → (n ≡ partition_rank p → ⊥) → All (λ (k : Kept P). partition_rank k.name.partition ≡ n) ks → kept_in p ks ≡ []
  none_mine p n [] other all = refl
  none_mine p n (k ∷ ks) other all =
      let here = All-head (λ (x : Kept P). partition_rank x.name.partition ≡ n) k ks all in
      ap (λ (b : Bool). cond b (k ∷ kept_in p ks) (kept_in p ks)) (other_ranked k.name.partition p (λ same. other (sym here ∙ same)))
      ∙ none_mine p n ks other (All-tail (λ (x : Kept P). partition_rank x.name.partition ≡ n) k ks all)

  -- what a shelf has
  abbrev pub parts_there : Option (Shelf P) → List (Kept P)
  parts_there None = []
  parts_there (Some shelf) = shelf.parts

  none_above : (n : ℕ) (es : List (ℕ × Shelf P)) → AllByRecursion (λ (y : ℕ). nat_cmp n y ≡ Less) (keys_of es) → lookup (is_at (nat_cmp n)) es ≡ None
  none_above n [] above = refl
  none_above n (e ∷ es) above = ap (λ (o : Ordering). cond (is_eq o) (Some e.1) (lookup (is_at (nat_cmp n)) es)) above.0 ∙ none_above n es above.1

  -- the parts of a partition are those of its shelf
  pub parts_found : (p : Partition) (es : List (ℕ × Shelf P)) → IsStrictlySortedBy nat_cmp (keys_of es) → All IsFiled es → kept_in p (all_parts es) ≡ parts_there (shelf_at p es)
  parts_found p [] rise filed = refl
  parts_found p (e ∷ es) rise filed =
      filter-append (λ (k : Kept P). same_partition k.name.partition p) e.1.parts (all_parts es)
      ∙ by (is_at (nat_cmp (partition_rank p)) e.0) refl (parts_found p es (sorted_tail nat_cmp e.0 (keys_of es) rise) (All-tail IsFiled e es filed))
    where
      here : IsFiled e
      here = All-head IsFiled e es filed

      by : (b : Bool) → is_at (nat_cmp (partition_rank p)) e.0 ≡ b → kept_in p (all_parts es) ≡ parts_there (shelf_at p es) → kept_in p e.1.parts ++ kept_in p (all_parts es) ≡ parts_there (cond b (Some e.1) (shelf_at p es))
      by true is rest =
          let same = place_found (partition_rank p) e.0 is in
          let none = subst (λ (n : ℕ). lookup (is_at (nat_cmp n)) es ≡ None) (sym same) (none_above e.0 es (sorted_head nat_cmp e.0 (keys_of es) rise)) in
          ap (λ (xs : List (Kept P)). xs ++ kept_in p (all_parts es)) (all_mine p e.0 e.1.parts (sym same) here.mine)
          ∙ (ap (λ (xs : List (Kept P)). e.1.parts ++ xs) (rest ∙ ap parts_there none) ∙ append-nil e.1.parts)
      by false is rest =
          ap (λ (xs : List (Kept P)). xs ++ kept_in p (all_parts es)) (none_mine p e.0 e.1.parts (λ same. place_other (partition_rank p) e.0 is (sym same)) here.mine) ∙ rest

  -- ---- block order

  above_all : (n : ℕ) (es : List (ℕ × Shelf P)) → AllByRecursion (λ (y : ℕ). nat_cmp n y ≡ Less) (keys_of es) → All IsFiled es → All (λ (k : Kept P). n < partition_rank k.name.partition) (all_parts es)
  above_all n [] above filed = All-nil (λ (k : Kept P). n < partition_rank k.name.partition)
  above_all n (e ∷ es) above filed =
      let here = All-head IsFiled e es filed in
      All-append (λ (k : Kept P). n < partition_rank k.name.partition) e.1.parts (all_parts es)
      (λ k d inside. (let place = here.mine k d inside in let less = less_is n e.0 above.0 in omega (arith, place, less)))
      (above_all n es above.1 (All-tail IsFiled e es filed))

  -- the shelves one after the other are in block order
  pub all_ordered : (es : List (ℕ × Shelf P)) → IsStrictlySortedBy nat_cmp (keys_of es) → All IsFiled es → IsInBlockOrder (all_parts es)
  all_ordered [] rise filed = λ i j d less inside. absurd (omega (arith, inside))
  all_ordered (e ∷ es) rise filed =
      let here = All-head IsFiled e es filed in
      let rest = All-tail IsFiled e es filed in
      pairs_joined (λ (a b : Kept P). StandsClear a.name b.name) e.1.parts (all_parts es) here.ordered (all_ordered es (sorted_tail nat_cmp e.0 (keys_of es) rise) rest)
      (λ a b first second. clear_apart e.0 a.name b.name
      (All-contains (λ (k : Kept P). partition_rank k.name.partition ≡ e.0) e.1.parts a here.mine first)
      (All-contains (λ (k : Kept P). e.0 < partition_rank k.name.partition) (all_parts es) b (above_all e.0 es (sorted_head nat_cmp e.0 (keys_of es) rise) rest) second))

  -- ---- a shelf that was there, written anew

  module _ (test : ℕ → Bool) (v w : Shelf P) where
    -- with one part more
    pub set_added : (k : Kept P) (es : List (ℕ × Shelf P)) → lookup test es ≡ Some v → IsAdded v.parts k w.parts → IsAdded (all_parts es) k (all_parts (set_value test es w))
    set_added k [] found added = absurd cc
    set_added k (e ∷ es) found added = by (test e.0) found (λ later. set_added k es later added)
      where
        by : (b : Bool) → cond b (Some e.1) (lookup test es) ≡ Some v → (lookup test es ≡ Some v → IsAdded (all_parts es) k (all_parts (set_value test es w))) → IsAdded (all_parts (e ∷ es)) k (all_parts (cond b ((e.0, w) ∷ es) (e ∷ set_value test es w)))
        by true found rest = added_left k e.1.parts w.parts (all_parts es) (subst (λ (s : Shelf P). IsAdded s.parts k w.parts) (sym (some_is e.1 v found)) added)
        by false found rest = added_right k e.1.parts (all_parts es) (all_parts (set_value test es w)) (rest found)

    -- with the same parts
    pub set_same : (es : List (ℕ × Shelf P)) → lookup test es ≡ Some v → w.parts ≡ v.parts → all_parts (set_value test es w) ≡ all_parts es
    set_same [] found same = refl
    set_same (e ∷ es) found same = by (test e.0) found (λ later. set_same es later same)
      where
        by : (b : Bool) → cond b (Some e.1) (lookup test es) ≡ Some v → (lookup test es ≡ Some v → all_parts (set_value test es w) ≡ all_parts es) → all_parts (cond b ((e.0, w) ∷ es) (e ∷ set_value test es w)) ≡ all_parts (e ∷ es)
        by true found rest = ap (λ (xs : List (Kept P)). xs ++ all_parts es) (same ∙ sym (ap (λ (s : Shelf P). s.parts) (some_is e.1 v found)))
        by false found rest = ap (λ (xs : List (Kept P)). e.1.parts ++ xs) (rest found)

    -- filed as it was
    pub set_filed : (es : List (ℕ × Shelf P)) → ((n : ℕ) → test n ≡ true → IsFiled (n, w)) → All IsFiled es → All IsFiled (set_value test es w)
    set_filed [] now filed = filed
    set_filed (e ∷ es) now filed = by (test e.0) refl (set_filed es now (All-tail IsFiled e es filed))
      where
        by : (b : Bool) → test e.0 ≡ b → All IsFiled (set_value test es w) → All IsFiled (cond b ((e.0, w) ∷ es) (e ∷ set_value test es w))
        by true is rest = All-cons IsFiled (e.0, w) es (now e.0 is) (All-tail IsFiled e es filed)
        by false is rest = All-cons IsFiled e (set_value test es w) (All-head IsFiled e es filed) rest

  -- a shelf that is found is filed
  pub found_filed : (n : ℕ) (v : Shelf P) (es : List (ℕ × Shelf P)) → lookup (is_at (nat_cmp n)) es ≡ Some v → All IsFiled es → IsFiled (n, v)
  found_filed n v [] found filed = absurd cc
  found_filed n v (e ∷ es) found filed = by (is_at (nat_cmp n) e.0) refl found (λ later. found_filed n v es later (All-tail IsFiled e es filed))
    where
      by : (b : Bool) → is_at (nat_cmp n) e.0 ≡ b → cond b (Some e.1) (lookup (is_at (nat_cmp n)) es) ≡ Some v → (lookup (is_at (nat_cmp n)) es ≡ Some v → IsFiled (n, v)) → IsFiled (n, v)
      by true is found rest =
          subst (λ (m : ℕ). IsFiled (m, v)) (sym (place_found n e.0 is)) (subst (λ (s : Shelf P). IsFiled (e.0, s)) (some_is e.1 v found) (All-head IsFiled e es filed))
      by false is found rest = rest found

  -- ---- a new shelf

  module _ (n : ℕ) (v : Shelf P) where
    -- with one part
    pub new_added : (k : Kept P) (es : List (ℕ × Shelf P)) → lookup (is_at (nat_cmp n)) es ≡ None → IsAdded [] k v.parts → IsAdded (all_parts es) k (all_parts (insert_entry nat_cmp es n v))
    new_added k [] none added = added_left k [] v.parts [] added
    new_added k (e ∷ es) none added = by (nat_cmp n e.0) none (λ later. new_added k es later added)
      where
        by : (o : Ordering) → cond (is_eq o) (Some e.1) (lookup (is_at (nat_cmp n)) es) ≡ None → (lookup (is_at (nat_cmp n)) es ≡ None → IsAdded (all_parts es) k (all_parts (insert_entry nat_cmp es n v))) → IsAdded (all_parts (e ∷ es)) k (all_parts (match_ordering o ((n, v) ∷ e ∷ es) ((e.0, v) ∷ es) (e ∷ insert_entry nat_cmp es n v)))
        by Less none rest = added_left k [] v.parts (all_parts (e ∷ es)) added
        by Equal none rest = absurd cc
        by Greater none rest = added_right k e.1.parts (all_parts es) (all_parts (insert_entry nat_cmp es n v)) (rest none)

    -- with none
    pub new_same : (es : List (ℕ × Shelf P)) → lookup (is_at (nat_cmp n)) es ≡ None → v.parts ≡ [] → all_parts (insert_entry nat_cmp es n v) ≡ all_parts es
    new_same [] none empty = ap (λ (xs : List (Kept P)). xs ++ []) empty
    new_same (e ∷ es) none empty = by (nat_cmp n e.0) none (λ later. new_same es later empty)
      where
        by : (o : Ordering) → cond (is_eq o) (Some e.1) (lookup (is_at (nat_cmp n)) es) ≡ None → (lookup (is_at (nat_cmp n)) es ≡ None → all_parts (insert_entry nat_cmp es n v) ≡ all_parts es) → all_parts (match_ordering o ((n, v) ∷ e ∷ es) ((e.0, v) ∷ es) (e ∷ insert_entry nat_cmp es n v)) ≡ all_parts (e ∷ es)
        by Less none rest = ap (λ (xs : List (Kept P)). xs ++ all_parts (e ∷ es)) empty
        by Equal none rest = absurd cc
        by Greater none rest = ap (λ (xs : List (Kept P)). e.1.parts ++ xs) (rest none)

    -- filed
    pub new_filed : (es : List (ℕ × Shelf P)) → lookup (is_at (nat_cmp n)) es ≡ None → IsFiled (n, v) → All IsFiled es → All IsFiled (insert_entry nat_cmp es n v)
    new_filed [] none now filed = All-cons IsFiled (n, v) [] now filed
    new_filed (e ∷ es) none now filed = by (nat_cmp n e.0) none (λ later. new_filed es later now (All-tail IsFiled e es filed))
      where
        by : (o : Ordering) → cond (is_eq o) (Some e.1) (lookup (is_at (nat_cmp n)) es) ≡ None → (lookup (is_at (nat_cmp n)) es ≡ None → All IsFiled (insert_entry nat_cmp es n v)) → All IsFiled (match_ordering o ((n, v) ∷ e ∷ es) ((e.0, v) ∷ es) (e ∷ insert_entry nat_cmp es n v))
        by Less none rest = All-cons IsFiled (n, v) (e ∷ es) now filed
        by Equal none rest = absurd cc
        by Greater none rest = All-cons IsFiled e (insert_entry nat_cmp es n v) (All-head IsFiled e es filed) (rest none)

  -- ---- a shelf with one part more

  pub grown_filed : (n : ℕ) (v w : Shelf P) (k : Kept P) → IsFiled (n, v) → partition_rank k.name.partition ≡ n → IsAdded v.parts k w.parts → IsInBlockOrder w.parts → IsFiled (n, w)
  grown_filed n v w k was mine added ordered = record {
    mine = λ i d inside.
        let has : HasItem (insert v.parts added.place k) (get_or w.parts i d) = subst (λ (xs : List (Kept P)). HasItem xs (get_or w.parts i d)) added.is (Contains-get_or w.parts i d inside) in
        elim (item_cases v.parts added.place k (get_or w.parts i d) has) [
          | inl old ↦ All-contains (λ (x : Kept P). partition_rank x.name.partition ≡ n) v.parts (get_or w.parts i d) was.mine old
          | inr new ↦ subst (λ (x : Kept P). partition_rank x.name.partition ≡ n) new mine
        ];
    ordered = ordered;
  }

  pub same_filed : (n : ℕ) (v w : Shelf P) → IsFiled (n, v) → w.parts ≡ v.parts → IsFiled (n, w)
  same_filed n v w was same = record {
    mine = subst (All (λ (k : Kept P). partition_rank k.name.partition ≡ n)) (sym same) was.mine;
    ordered = subst (λ (xs : List (Kept P)). IsInBlockOrder xs) (sym same) was.ordered;
  }

  -- where it was added, or stayed as it was
  pub filed_then : (n : ℕ) (v w : Shelf P) (k : Kept P) (r : Result (Unit {0}) NoMemory) → IsFiled (n, v) → partition_rank k.name.partition ≡ n
      → OnOk r (IsAdded v.parts k w.parts) → OnOk r (IsInBlockOrder w.parts) → OnErr r (w.parts ≡ v.parts) → IsFiled (n, w)
  filed_then n v w k (Ok u) was mine added ordered same = grown_filed n v w k was mine added ordered
  filed_then n v w k (Err e) was mine added ordered same = same_filed n v w was same

  -- an empty shelf
  pub none_filed : (n : ℕ) (v : Shelf P) → v.parts ≡ [] → IsFiled (n, v)
  none_filed n v none = record {
    mine = subst (All (λ (k : Kept P). partition_rank k.name.partition ≡ n)) (sym none) (All-nil (λ (k : Kept P). partition_rank k.name.partition ≡ n));
    ordered = subst (λ (xs : List (Kept P)). IsInBlockOrder xs) (sym none) (λ i j d less inside. absurd (omega (arith, inside)));
  }

-- ---- what a search finds

module _ {P : Type 0} (p : Partition) (n : ℕ) (es now : List (ℕ × Shelf P)) (filed : AreFiled es) (view : es ≡ now) (place : n ≡ partition_rank p) where
  searched : kept_in p (all_parts now) ≡ parts_there (lookup (is_at (nat_cmp n)) es)
  searched =
      ap (λ (fs : List (ℕ × Shelf P)). kept_in p (all_parts fs)) (sym view)
      ∙ (parts_found p es filed.rise filed.filed ∙ ap (λ (m : ℕ). parts_there (lookup (is_at (nat_cmp m)) es)) (sym place))

  pub found_parts : (v : Shelf P) → Some v ≡ lookup (is_at (nat_cmp n)) es → v.parts ≡ kept_in p (all_parts now)
  found_parts v found = ap parts_there found ∙ sym searched

  pub no_parts : None ≡ lookup (is_at (nat_cmp n)) es → [] ≡ kept_in p (all_parts now)
  no_parts none = ap parts_there none ∙ sym searched
