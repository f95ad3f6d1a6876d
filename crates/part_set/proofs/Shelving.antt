-- A table's shelves as they are searched and written.
use Rattle.std.proofs.Common.{◌≡◌, ℕ, Bool, true, false, cond, List, [], ◌∷◌, get_or, Some, None, refl, sym, ap, ◌∙◌, subst, inl, inr, arith}
use Rattle.std.proofs.lemmas.List.{get_or-map, length-map}
use Rattle.std.proofs.lemmas.List.Elements.{All-contains, All-contains_itself, All-filter, Contains-append_cases, Contains-append_right, Contains-get_or, Contains-push_cases}
use Rattle.std.specs.BTreeMap.{insert_entry, is_at}
use Rattle.std.specs.List.{All, Contains as HasItem, filter}
use Rattle.std.specs.List.Sorted.{IsStrictlySortedBy}
use Rattle.std.specs.Map.{keys_of, lookup, set_value}
use Rattle.std.specs.Ordering.{nat_cmp}
use Rattle.std.specs.Result.{OnErr, OnOk}
use Rattle.std.specs.declared.result.Result.{Result}
use Rattle.std.specs.declared.result.Result.TheVariants.{Ok, Err}
use Rattle.mt_base.specs.declared.memory.NoMemory.{NoMemory}
use Rattle.mt_base.specs.declared.partition.Partition.{Partition}
use Rattle.mt_values.specs.Tables.{same_partition}
use Rattle.part_name.specs.declared.part.PartName.{PartName}
use Rattle.part_name.specs.PartNames.{Meet}
use Rattle.part_set.specs.declared.kept.Kept.{Kept}
use Rattle.part_set.specs.Parts.{AreNeighbours, HasName, IsAdded, IsInBlockOrder, LiesBetween, NoneMeets, kept_in, partition_rank}
use Rattle.part_set.specs.Shelf.{AreFiled, IsFiled, Shelf, all_parts}
use Rattle.part_set.proofs.Filed.{all_ordered, filed_then, found_filed, found_parts, grown_filed, new_added, new_filed, new_same, none_filed, place_found, same_filed, same_ranked, set_added, set_filed, set_same}
use Rattle.part_set.proofs.Items.{item_first, item_none}
use Rattle.part_set.proofs.Named.{named_at}
use Rattle.part_set.proofs.Swaps.{IsWritten, set_written}

-- ---- elements of a filter

module _ {X : Type 0} (p : X → Bool) where
  pub filter_within : (xs : List X) (x : X) → HasItem (filter p xs) x → HasItem xs x
  filter_within xs x has = All-contains (HasItem xs) (filter p xs) x (All-filter p (HasItem xs) xs (All-contains_itself xs)) has

  pub filter_has : (xs : List X) (x : X) → HasItem xs x → p x ≡ true → HasItem (filter p xs) x
  filter_has [] x has is = absurd (item_none x has)
  filter_has (y ∷ ys) x has is = elim (Contains-append_cases (y ∷ []) ys x has) [
    | inl front ↦ elim (Contains-push_cases [] y x front) [
      | inl none ↦ absurd (item_none x none)
      | inr same ↦ subst (λ (b : Bool). HasItem (cond b (y ∷ filter p ys) (filter p ys)) x) (sym (ap p same ∙ is)) (subst (λ (z : X). HasItem (y ∷ filter p ys) z) same (item_first y (filter p ys)))
    ]
    | inr back ↦ by (p y) (filter_has ys x back is)
  ]
    where
      by : (b : Bool) → HasItem (filter p ys) x → HasItem (cond b (y ∷ filter p ys) (filter p ys)) x
      by true rest = Contains-append_right (y ∷ []) (filter p ys) x rest
      by false rest = rest

module _ {P : Type 0} where
  -- the parts of a partition are some of all
  pub mine_within : (p : Partition) (parts : List (Kept P)) (k : Kept P) → HasItem (kept_in p parts) k → HasItem parts k
  mine_within p parts k has = filter_within (λ (x : Kept P). same_partition x.name.partition p) parts k has

  -- those of all that are of it
  pub mine_has : (p : Partition) (parts : List (Kept P)) (k : Kept P) → HasItem parts k → k.name.partition ≡ p → HasItem (kept_in p parts) k
  mine_has p parts k has is = filter_has (λ (x : Kept P). same_partition x.name.partition p) parts k has (same_ranked k.name.partition p (ap partition_rank is))

  -- ---- a name among the parts of its partition

  pub item_named : (parts : List (Kept P)) (k : Kept P) (name : PartName) → HasItem parts k → k.name ≡ name → HasName parts name
  item_named parts k name has named =
      (has.0, omega (arith, has.1, length-map parts (λ (x : Kept P). x.name)), get_or-map (λ (x : Kept P). x.name) parts has.0 k name has.1 ∙ (ap (λ (x : Kept P). x.name) has.2 ∙ named))

  pub name_within : (p : Partition) (parts : List (Kept P)) (name : PartName) → HasName (kept_in p parts) name → HasName parts name
  name_within p parts name has =
      let at = named_at (kept_in p parts) name has in
      item_named parts at.kept name (mine_within p parts at.kept (at.place, at.within, at.here at.kept)) at.named

  pub name_mine : (parts : List (Kept P)) (name : PartName) → HasName parts name → HasName (kept_in name.partition parts) name
  name_mine parts name has =
      let at = named_at parts name has in
      item_named (kept_in name.partition parts) at.kept name (mine_has name.partition parts at.kept (at.place, at.within, at.here at.kept) (ap (λ (n : PartName). n.partition) at.named)) at.named

  -- ---- neighbours among the parts of their partition

  module _ (parts : List (Kept P)) (a b : PartName) where
    none_lies : (first last : PartName) → first.partition ≡ a.partition → All (λ (kept : Kept P). LiesBetween first kept.name last → ⊥) (kept_in a.partition parts) → All (λ (kept : Kept P). LiesBetween first kept.name last → ⊥) parts
    none_lies first last mine none = λ k d inside lies.
        All-contains (λ (kept : Kept P). LiesBetween first kept.name last → ⊥) (kept_in a.partition parts) (get_or parts k d) none
        (mine_has a.partition parts (get_or parts k d) (Contains-get_or parts k d inside) (lies.partition ∙ mine)) lies

    pub near_all : AreNeighbours (kept_in a.partition parts) a b → AreNeighbours parts a b
    near_all near = record {
      different = near.different;
      partition = near.partition;
      none = none_lies a b refl near.none;
      none_back = none_lies b a (sym near.partition) near.none_back;
    }

    pub near_mine : AreNeighbours parts a b → AreNeighbours (kept_in a.partition parts) a b
    near_mine near = record {
      different = near.different;
      partition = near.partition;
      none = All-filter (λ (x : Kept P). same_partition x.name.partition a.partition) (λ (kept : Kept P). LiesBetween a kept.name b → ⊥) parts near.none;
      none_back = All-filter (λ (x : Kept P). same_partition x.name.partition a.partition) (λ (kept : Kept P). LiesBetween b kept.name a → ⊥) parts near.none_back;
    }

  -- ---- the shelves are in block order

  pub filed_ordered : (es : List (ℕ × Shelf P)) → AreFiled es → IsInBlockOrder (all_parts es)
  filed_ordered es filed = all_ordered es filed.rise filed.filed

  -- ---- a shelf that was found

  module _ (p : Partition) (n : ℕ) (es now : List (ℕ × Shelf P)) (filed : AreFiled es) (view : es ≡ now) (place : n ≡ partition_rank p) (v : Shelf P) (found : Some v ≡ lookup (is_at (nat_cmp n)) es) where
    -- meets no part that meets none
    pub none_there : (name : PartName) → NoneMeets (all_parts now) name → NoneMeets v.parts name
    none_there name none =
        subst (λ (xs : List (Kept P)). NoneMeets xs name) (sym (found_parts p n es now filed view place v found))
        (All-filter (λ (x : Kept P). same_partition x.name.partition p) (λ (kept : Kept P). Meet kept.name name → ⊥) (all_parts now) none)

    module _ (w : Shelf P) (fs : List (ℕ × Shelf P)) (set : fs ≡ set_value (is_at (nat_cmp n)) es w) where
      -- is written anew
      pub now_filed : IsStrictlySortedBy nat_cmp (keys_of fs) → IsFiled (n, w) → AreFiled fs
      now_filed rise shelf = record {
        rise = rise;
        filed = subst (All IsFiled) (sym set)
            (set_filed (is_at (nat_cmp n)) v w es (λ m is. subst (λ (k : ℕ). IsFiled (k, w)) (place_found n m is) shelf) filed.filed);
      }

      pub same_parts : w.parts ≡ v.parts → all_parts fs ≡ all_parts now
      same_parts same = ap all_parts set ∙ (set_same (is_at (nat_cmp n)) v w es (sym found) same ∙ ap all_parts view)

      -- the shelf is written among all
      pub now_written : IsWritten v w (all_parts now) (all_parts fs)
      now_written =
          subst (λ (gs : List (ℕ × Shelf P)). IsWritten v w (all_parts now) (all_parts gs)) (sym set)
          (subst (λ (gs : List (ℕ × Shelf P)). IsWritten v w (all_parts gs) (all_parts (set_value (is_at (nat_cmp n)) es w))) view (set_written (is_at (nat_cmp n)) v w es (sym found)))

      pub kept_filed : IsStrictlySortedBy nat_cmp (keys_of fs) → w.parts ≡ v.parts → AreFiled fs
      kept_filed rise same = now_filed rise (same_filed n v w (found_filed n v es (sym found) filed.filed) same)

      -- with one part more, or as it was
      module _ (k : Kept P) (mine : k.name.partition ≡ p) (r : Result (Unit {0}) NoMemory) (added : OnOk r (IsAdded v.parts k w.parts)) where
        pub grown_then : IsStrictlySortedBy nat_cmp (keys_of fs) → OnOk r (IsInBlockOrder w.parts) → OnErr r (w.parts ≡ v.parts) → AreFiled fs
        grown_then rise ordered same =
            now_filed rise (filed_then n v w k r (found_filed n v es (sym found) filed.filed) (ap partition_rank mine ∙ sym place) added ordered same)

        pub added_then : OnOk r (IsAdded (all_parts now) k (all_parts fs))
        added_then = by r added
          where
            by : (q : Result (Unit {0}) NoMemory) → OnOk q (IsAdded v.parts k w.parts) → OnOk q (IsAdded (all_parts now) k (all_parts fs))
            by (Ok u) one =
                subst (λ (xs : List (Kept P)). IsAdded xs k (all_parts fs)) (ap all_parts view)
                (subst (λ (gs : List (ℕ × Shelf P)). IsAdded (all_parts es) k (all_parts gs)) (sym set) (set_added (is_at (nat_cmp n)) v w k es (sym found) one))
            by (Err e) one = tt

  -- ---- a new shelf

  module _ (n : ℕ) (es fs now : List (ℕ × Shelf P)) (filed : AreFiled es) (view : es ≡ now) (none : None ≡ lookup (is_at (nat_cmp n)) es) (v : Shelf P) (put : fs ≡ insert_entry nat_cmp es n v) where
    with_new : IsStrictlySortedBy nat_cmp (keys_of fs) → IsFiled (n, v) → AreFiled fs
    with_new rise shelf = record { rise = rise; filed = subst (All IsFiled) (sym put) (new_filed n v es (sym none) shelf filed.filed) }

    -- without parts
    pub empty_filed : IsStrictlySortedBy nat_cmp (keys_of fs) → v.parts ≡ [] → AreFiled fs
    empty_filed rise empty = with_new rise (none_filed n v empty)

    pub empty_same : v.parts ≡ [] → all_parts fs ≡ all_parts now
    empty_same empty = ap all_parts put ∙ (new_same n v es (sym none) empty ∙ ap all_parts view)

    -- with one part
    module _ (before : Shelf P) (empty : before.parts ≡ []) (k : Kept P) (added : IsAdded before.parts k v.parts) where
      pub first_filed : IsStrictlySortedBy nat_cmp (keys_of fs) → n ≡ partition_rank k.name.partition → IsInBlockOrder v.parts → AreFiled fs
      first_filed rise place ordered = with_new rise (grown_filed n before v k (none_filed n before empty) (sym place) added ordered)

      pub first_added : IsAdded (all_parts now) k (all_parts fs)
      first_added =
          subst (λ (xs : List (Kept P)). IsAdded xs k (all_parts fs)) (ap all_parts view)
          (subst (λ (gs : List (ℕ × Shelf P)). IsAdded (all_parts es) k (all_parts gs)) (sym put)
          (new_added n v k es (sym none) (subst (λ (xs : List (Kept P)). IsAdded xs k v.parts) empty added)))
