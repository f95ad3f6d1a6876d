-- A value is found among ascending ones where they turn from below it to above it.
use Rattle.std.proofs.Common.{◌≡◌, ℕ, ◌<◌, ◌≤◌, inl, inr, Bool, true, false, ◌&&◌, List, [], refl, sym, ap, ap₂, ◌∙◌, subst, length, get_or, slice_get, arith}
use Rattle.std.specs.Cmp.{IsStrictWeakOrder}
use Rattle.std.specs.List.{AllWithin, list_any}
use Rattle.std.specs.List.Sorted.{IsPartitionedBy, IsPermutation, IsSorted}
use Rattle.std.specs.Ordering.{is_ge, is_le, is_lt, ordering_reverse}
use Rattle.std.specs.declared.cmp.Ordering.{Ordering}
use Rattle.std.specs.declared.cmp.Ordering.TheVariants.{Less, Equal, Greater}
use Rattle.std.specs.BTreeMap.Comparable.{le_lt_trans}
use Rattle.std.proofs.lemmas.Bool.{cases_lt}
use Rattle.std.proofs.lemmas.List.{get_or_default}
use Rattle.std.proofs.lemmas.List.Folds.{list_any_at, list_any_none}
use Rattle.std.proofs.lemmas.List.Sorted.{list_any-IsPermutation, ranks_by, sorted_far}
use Rattle.std.proofs.lemmas.Option.{slice_get-get_or, slice_get_past}
use Rattle.mt_values.specs.declared.expr.Comparison.{Comparison}
use Rattle.mt_values.specs.declared.expr.Comparison.TheVariants as comparison
use Rattle.mt_values.specs.declared.value.Value.{Value}
use Rattle.mt_values.specs.declared.value.Value.TheVariants as value
use Rattle.mt_values.specs.Order.{value_cmp}
use Rattle.mt_values.specs.Searches.{IsSearched, lies_within, some_up_to}
use Rattle.mt_values.specs.Tests.{is_among, is_equal, says}
use Rattle.mt_values.proofs.Orders.{value_exact, value_total}

-- ---- how two values stand

pub value_weak : IsStrictWeakOrder (λ (x y : Value). is_lt (value_cmp x y))
value_weak = ranks_by value_total (λ (v : Value). v)

less_is : (o : Ordering) → is_lt o ≡ true → o ≡ Less
less_is Less h = refl
less_is Equal h = cc
less_is Greater h = cc

-- what is not below another stands at or above it
pub not_below : (x y : Value) → is_lt (value_cmp y x) ≡ false → is_le (value_cmp x y) ≡ true
not_below x y h = ap is_le (value_total.antisymm x y) ∙ turned (value_cmp y x) h
  where
    turned : (o : Ordering) → is_lt o ≡ false → is_le (ordering_reverse o) ≡ true
    turned Less h = sym h
    turned Equal h = refl
    turned Greater h = refl

-- what is below another is passed by
pub below : (x y : Value) → is_lt (value_cmp y x) ≡ true → is_le (value_cmp x y) ≡ false
below x y h = ap is_le (value_total.antisymm x y) ∙ turned (value_cmp y x) h
  where
    turned : (o : Ordering) → is_lt o ≡ true → is_le (ordering_reverse o) ≡ false
    turned Less h = refl
    turned Equal h = sym h
    turned Greater h = sym h

-- what is not below a value that is above another is above that too
pub stays_above : (x v hi : Value) (o : Ordering) → value_cmp v x ≡ o → is_lt o ≡ false → is_le (value_cmp x hi) ≡ false → is_le (value_cmp v hi) ≡ false
stays_above x v hi Less e h p = cc
stays_above x v hi Equal e h p = ap (λ (y : Value). is_le (value_cmp y hi)) (value_exact v x e) ∙ p
stays_above x v hi Greater e h p =
    let under_v : value_cmp x v ≡ Less = value_total.antisymm x v ∙ ap ordering_reverse e in
    let under : value_cmp hi v ≡ Less = value_total.trans hi x v (passed (value_cmp x hi) refl p) under_v in
    ap is_le (value_total.antisymm v hi) ∙ ap (λ (q : Ordering). is_le (ordering_reverse q)) under
  where
    passed : (q : Ordering) → value_cmp x hi ≡ q → is_le q ≡ false → value_cmp hi x ≡ Less
    passed Less r s = cc
    passed Equal r s = cc
    passed Greater r s = value_total.antisymm hi x ∙ ap ordering_reverse r

and_false : (a b : Bool) → b ≡ false → (a && b) ≡ false
and_false true b h = h
and_false false b h = refl

-- ---- ascending values

-- those that are below a value come first
pub below_first : (xs : List Value) (w : Value) → IsSorted value_cmp xs → IsPartitionedBy (λ v. is_lt (value_cmp v w)) xs
below_first xs w up = λ i j d order inside is.
    elim (cases_lt i j) [
      | inl less ↦ ap is_lt
          (le_lt_trans value_total (get_or xs i d) (get_or xs j d) w
          (not_below (get_or xs i d) (get_or xs j d) (sorted_far (λ (x y : Value). is_lt (value_cmp x y)) value_weak xs up i j d (omega (arith, less)) inside))
          (less_is (value_cmp (get_or xs j d) w) is))
      | inr not_less ↦ (let same : j ≡ i = omega (arith, order, not_less) in subst (λ (k : ℕ). is_lt (value_cmp (get_or xs k d) w) ≡ true) same is)
    ]

module _ (xs : List Value) (lo hi : Value) (n : ℕ) (up : IsSorted value_cmp xs)
    (front : AllWithin (λ v. is_lt (value_cmp v lo) ≡ true) xs 0 n) (back : AllWithin (λ v. is_lt (value_cmp v lo) ≡ false) xs n (length xs)) where
  abbrev any_value : Value
  any_value = value.UInt8 0

  -- none of those before the place where they turn
  before : (k : ℕ) (d : Value) → k < n → lies_within lo hi (get_or xs k d) ≡ false
  before k d early = ap (λ (b : Bool). b && is_le (value_cmp (get_or xs k d) hi)) (below lo (get_or xs k d) (front k d (omega arith) early))

  past : length xs ≤ n → some_up_to (slice_get xs n) hi ≡ list_any (lies_within lo hi) xs
  past end =
      ap (λ o. some_up_to o hi) (slice_get_past xs n end)
      ∙ sym (list_any_none (lies_within lo hi) xs (λ k d inside. before k d (omega (arith, inside, end))))

  module _ (there : n < length xs) where
    abbrev turn : Value
    turn = get_or xs n any_value

    yes : is_le (value_cmp turn hi) ≡ true → list_any (lies_within lo hi) xs ≡ true
    yes h =
        list_any_at (lies_within lo hi) xs n any_value there
        (ap₂ (λ a b. a && b) (not_below lo turn (back n any_value (omega arith) there)) h)

    no : is_le (value_cmp turn hi) ≡ false → list_any (lies_within lo hi) xs ≡ false
    no h = list_any_none (lies_within lo hi) xs (λ k d inside.
        elim (cases_lt k n) [
          | inl early ↦ before k d early
          | inr late ↦ (
              let x = get_or xs n d in
              let v = get_or xs k d in
              let above : is_le (value_cmp x hi) ≡ false = ap (λ (y : Value). is_le (value_cmp y hi)) (same d) ∙ h in
              and_false (is_le (value_cmp lo v)) (is_le (value_cmp v hi))
              (stays_above x v hi (value_cmp v x) refl (sorted_far (λ (a b : Value). is_lt (value_cmp a b)) value_weak xs up n k d late inside) above)
              )
        ])
      where
        same : (d : Value) → get_or xs n d ≡ turn
        same d = get_or_default xs n d any_value there

    within : some_up_to (slice_get xs n) hi ≡ list_any (lies_within lo hi) xs
    within = ap (λ o. some_up_to o hi) (slice_get-get_or xs n any_value there) ∙ by (is_le (value_cmp turn hi)) refl
      where
        by : (b : Bool) → is_le (value_cmp turn hi) ≡ b → is_le (value_cmp turn hi) ≡ list_any (lies_within lo hi) xs
        by true h = h ∙ sym (yes h)
        by false h = h ∙ sym (no h)

  -- one of them lies within two values where the first that is not below the one is at or below the other
  pub found_is : some_up_to (slice_get xs n) hi ≡ list_any (lies_within lo hi) xs
  found_is = elim (cases_lt n (length xs)) [
    | inl there ↦ within there
    | inr end ↦ past end
  ]

ge_is : (x v : Value) → is_ge (value_cmp x v) ≡ is_le (value_cmp v x)
ge_is x v = turned (value_cmp x v) ∙ ap is_le (sym (value_total.antisymm v x))
  where
    turned : (o : Ordering) → is_ge o ≡ is_le (ordering_reverse o)
    turned Less = refl
    turned Equal = refl
    turned Greater = refl

module _ (xs : List Value) (x : Value) (up : IsSorted value_cmp xs) where
  abbrev first_value : Value
  first_value = value.UInt8 0

  abbrev lowest : Value
  lowest = get_or xs 0 first_value

  low_yes : 0 < length xs → is_le (value_cmp lowest x) ≡ true → list_any (λ l. is_ge (value_cmp x l)) xs ≡ true
  low_yes there h = list_any_at (λ l. is_ge (value_cmp x l)) xs 0 first_value there (ge_is x lowest ∙ h)

  low_no : 0 < length xs → is_le (value_cmp lowest x) ≡ false → list_any (λ l. is_ge (value_cmp x l)) xs ≡ false
  low_no there h = list_any_none (λ l. is_ge (value_cmp x l)) xs (λ k d inside.
      let first = get_or xs 0 d in
      let v = get_or xs k d in
      let above : is_le (value_cmp first x) ≡ false = ap (λ (y : Value). is_le (value_cmp y x)) (get_or_default xs 0 d first_value there) ∙ h in
      ge_is x v ∙ stays_above first v x (value_cmp v first) refl (sorted_far (λ (a b : Value). is_lt (value_cmp a b)) value_weak xs up 0 k d (omega arith) inside) above)

  -- one of them stands at a value or below it where the first does
  pub first_is : some_up_to (slice_get xs 0) x ≡ list_any (λ l. is_ge (value_cmp x l)) xs
  first_is = elim (cases_lt 0 (length xs)) [
    | inl there ↦ ap (λ o. some_up_to o x) (slice_get-get_or xs 0 first_value there) ∙ by there (is_le (value_cmp lowest x)) refl
    | inr end ↦ ap (λ o. some_up_to o x) (slice_get_past xs 0 end) ∙ sym (list_any_none (λ l. is_ge (value_cmp x l)) xs (λ k d inside. absurd (omega (arith, inside, end))))
  ]
    where
      by : 0 < length xs → (b : Bool) → is_le (value_cmp lowest x) ≡ b → is_le (value_cmp lowest x) ≡ list_any (λ l. is_ge (value_cmp x l)) xs
      by there true h = h ∙ sym (low_yes there h)
      by there false h = h ∙ sym (low_no there h)

module _ (xs : List Value) (x : Value) (n : ℕ) (front : AllWithin (λ v. is_lt (value_cmp v x) ≡ true) xs 0 n) (back : AllWithin (λ v. is_lt (value_cmp v x) ≡ false) xs n (length xs)) where
  -- one of them stands at a value or above it where not all are below it
  pub some_left : n < length xs → true ≡ list_any (λ l. is_le (value_cmp x l)) xs
  some_left there =
      let d = value.UInt8 0 in
      sym (list_any_at (λ l. is_le (value_cmp x l)) xs n d there (not_below x (get_or xs n d) (back n d (omega arith) there)))

  pub none_left : length xs ≤ n → false ≡ list_any (λ l. is_le (value_cmp x l)) xs
  none_left end = sym (list_any_none (λ l. is_le (value_cmp x l)) xs (λ k d inside. below x (get_or xs k d) (front k d (omega arith) (omega (arith, inside, end)))))

-- ---- what is searched in place of a list

pub searched_none : (listed ascending : List Value) → ascending ≡ [] → IsSearched listed ascending
searched_none listed ascending none = subst (IsSearched listed) (sym none) (record {
  ascends = λ k d low high. absurd (omega (arith, high));
  alike = λ some. absurd (omega (arith, some));
})

pub searched_sorted : (listed values ascending : List Value) → values ≡ listed → IsPermutation values ascending → IsSorted value_cmp ascending → IsSearched listed ascending
searched_sorted listed values ascending same moved up = record {
  ascends = up;
  alike = λ some p. sym (list_any-IsPermutation p values ascending moved) ∙ ap (list_any p) same;
}

-- ---- one value

alike_both : (o : Ordering) → (is_le o && is_le (ordering_reverse o)) ≡ says comparison.Equal o
alike_both Less = refl
alike_both Equal = refl
alike_both Greater = refl

equal_is : (v l : Value) → lies_within v v l ≡ says comparison.Equal (value_cmp v l)
equal_is v l = ap (λ (q : Ordering). is_le (value_cmp v l) && is_le q) (value_total.antisymm l v) ∙ alike_both (value_cmp v l)

-- a value is one of a list where one of the list lies from it on up to it
pub among_is : (literals : List Value) (v : Value) → list_any (lies_within v v) literals ≡ is_among literals v
among_is literals v = λ i. list_any (λ l. equal_is v l i) literals

pub equal_told : (c : Comparison) → is_equal c ≡ true → c ≡ comparison.Equal
equal_told comparison.Equal h = refl
equal_told comparison.NotEqual h = cc
equal_told comparison.Less h = cc
equal_told comparison.LessOrEqual h = cc
equal_told comparison.Greater h = cc
equal_told comparison.GreaterOrEqual h = cc
