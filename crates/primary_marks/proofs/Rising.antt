-- Values that rise, and how many of them pass a test that none passes which stands after one that fails it.
use Rattle.std.proofs.Common.{◌≡◌, ℕ, zero, suc, ◌+◌, ◌<◌, ◌≤◌, ◌⊎◌, inl, inr, Bool, true, false, not, cond, List, [], ◌∷◌, Some, refl, sym, ap, ap₂, ◌∙◌, subst, length, slice_get, get_or, option_and_then, arith}
use Rattle.std.specs.List.{filter, list_any}
use Rattle.std.specs.List.Sorted.{IsSorted, IsSortedWithin}
use Rattle.std.proofs.lemmas.Bool.{cases_lt}
use Rattle.std.specs.BTreeMap.Comparable.{le_lt_trans}
use Rattle.std.specs.Ordering.{is_ge, is_gt, is_le, is_lt, ordering_reverse}
use Rattle.std.specs.declared.cmp.Ordering.{Ordering}
use Rattle.std.specs.declared.cmp.Ordering.TheVariants.{Less, Equal, Greater}
use Rattle.std.proofs.lemmas.List.Sorted.{ranks_by, sorted_far}
use Rattle.std.proofs.lemmas.Option.{get_or_from_slice_get, slice_get-get_or, slice_get_within}
use Rattle.mt_values.specs.declared.expr.Comparison.{Comparison}
use Rattle.mt_values.specs.declared.expr.Comparison.TheVariants as comparison
use Rattle.mt_values.specs.declared.expr.Test.{Test}
use Rattle.mt_values.specs.declared.value.Value.{Value}
use Rattle.mt_values.specs.declared.value.Value.TheVariants as value
use Rattle.mt_values.specs.Grid.{Cells, column_of, rows_of}
use Rattle.mt_values.specs.Order.{value_cmp}
use Rattle.mt_values.specs.Values.{Row}
use Rattle.mt_values.proofs.Grids.{column_of-rows_of, length-column_of, slice_get-column_of}
use Rattle.mt_values.proofs.Orders.{value_exact, value_total}
use Rattle.std.proofs.lemmas.List.Elements.{All-head, All-weaker}
use Rattle.predicate.proofs.Lying.{any_too}
use Rattle.primary_marks.specs.Choosing.{key_at}
use Rattle.primary_marks.specs.Columns.{HaveKeys}
use Rattle.primary_marks.specs.Rising.{FirstRises, RiseByFirst}
use Rattle.primary_marks.specs.Spans.{count_before, from_on, stands_before, up_to}
use Rattle.primary_marks.specs.declared.spans.Edge.{Edge}
use Rattle.primary_marks.specs.declared.spans.Edge.TheVariants as edge
use Rattle.primary_marks.proofs.Between.{not_less}
use Rattle.primary_marks.proofs.KeyRows.{seen_width}

-- ---- a test that turns once

-- the first few pass, and the others fail
pub record IsTurn {X : Type 0} (p : X → Bool) (xs : List X) (n : ℕ) : Type 0 where
  pub few : n ≤ length xs
  pub before : (i : ℕ) (x : X) → i < n → slice_get xs i ≡ Some x → p x ≡ true
  pub after : (i : ℕ) (x : X) → n ≤ i → slice_get xs i ≡ Some x → p x ≡ false

module _ {X : Type 0} (p : X → Bool) where
  -- none passes after one that fails
  abbrev pub Falls : List X → Type 0
  Falls xs = (i j : ℕ) (x y : X) → i ≤ j → slice_get xs i ≡ Some x → slice_get xs j ≡ Some y → p y ≡ true → p x ≡ true

  abbrev Fails : List X → ℕ → Type 0
  Fails xs n = (i : ℕ) (x : X) → n ≤ i → slice_get xs i ≡ Some x → p x ≡ false

  abbrev Passes : List X → ℕ → Type 0
  Passes xs n = (i : ℕ) (x : X) → i < n → slice_get xs i ≡ Some x → p x ≡ true

  -- the place where it turns is how many pass
  pub turn_is_count : (xs : List X) (n : ℕ) → IsTurn p xs n → n ≡ length (filter p xs)
  turn_is_count [] n t = omega (arith, t.few)
  turn_is_count (x ∷ xs) zero t =
      let first : p x ≡ false = t.after 0 x (omega arith) refl in
      let rest : 0 ≡ length (filter p xs) =
      turn_is_count xs 0 (record { few = omega arith; before = λ i y below is. absurd (omega (arith, below)); after = λ i y from is. t.after (suc i) y (omega arith) is }) in
      rest ∙ sym (ap (λ b. length (cond b (x ∷ filter p xs) (filter p xs))) first)
  turn_is_count (x ∷ xs) (suc n) t =
      let first : p x ≡ true = t.before 0 x (omega arith) refl in
      let rest : n ≡ length (filter p xs) =
      turn_is_count xs n (record {
        few = omega (arith, t.few);
        before = λ i y below is. t.before (suc i) y (omega (arith, below)) is;
        after = λ i y from is. t.after (suc i) y (omega (arith, from)) is;
      }) in
      ap suc rest ∙ sym (ap (λ b. length (cond b (x ∷ filter p xs) (filter p xs))) first)

  passes_first : (x : X) (xs : List X) (n : ℕ) → p x ≡ true → Passes xs n → (i : ℕ) (y : X) → i < suc n → slice_get (x ∷ xs) i ≡ Some y → p y ≡ true
  passes_first x xs n e more zero y below is = let same : x ≡ y = cc in ap p (sym same) ∙ e
  passes_first x xs n e more (suc i) y below is = more i y (omega (arith, below)) is

  fails_later : (x : X) (xs : List X) (n : ℕ) → Fails xs n → (i : ℕ) (y : X) → suc n ≤ i → slice_get (x ∷ xs) i ≡ Some y → p y ≡ false
  fails_later x xs n more zero y from is = absurd (omega (arith, from))
  fails_later x xs n more (suc i) y from is = more i y (omega (arith, from)) is

  -- what stands at or after one that fails fails
  pub fails_from : (xs : List X) (k : ℕ) (v : X) → Falls xs → slice_get xs k ≡ Some v → p v ≡ false
      → (i : ℕ) (x : X) → k ≤ i → slice_get xs i ≡ Some x → p x ≡ false
  fails_from xs k v falls there fail i x from is = by (p x) refl
    where
      by : (b : Bool) → p x ≡ b → b ≡ false
      by true e = sym (falls k i v x from there is e) ∙ fail
      by false e = refl

  -- what stands at or before one that passes passes
  pub passes_to : (xs : List X) (k : ℕ) (v : X) → Falls xs → slice_get xs k ≡ Some v → p v ≡ true
      → (i : ℕ) (x : X) → i < k + 1 → slice_get xs i ≡ Some x → p x ≡ true
  passes_to xs k v falls there pass i x below is = falls i k x v (omega (arith, below)) is there pass

  -- it turns where that many pass
  pub count_is_turn : (xs : List X) → Falls xs → IsTurn p xs (length (filter p xs))
  count_is_turn [] falls = record { few = omega arith; before = λ i x below is. absurd (omega (arith, below)); after = λ i x from is. cc }
  count_is_turn (x ∷ xs) falls = by (p x) refl (count_is_turn xs (λ i j y z up is there pass. falls (suc i) (suc j) y z (omega (arith, up)) is there pass))
    where
      by : (b : Bool) → p x ≡ b → IsTurn p xs (length (filter p xs)) → IsTurn p (x ∷ xs) (length (filter p (x ∷ xs)))
      by true e t =
          let turn : IsTurn p (x ∷ xs) (suc (length (filter p xs))) = record {
            few = omega (arith, t.few);
            before = passes_first x xs (length (filter p xs)) e t.before;
            after = fails_later x xs (length (filter p xs)) t.after;
          } in
          subst (IsTurn p (x ∷ xs)) (turn_is_count (x ∷ xs) (suc (length (filter p xs))) turn) turn
      by false e t =
          let turn : IsTurn p (x ∷ xs) 0 = record { few = omega arith; before = λ i y below is. absurd (omega (arith, below)); after = fails_from (x ∷ xs) 0 x falls refl e } in
          subst (IsTurn p (x ∷ xs)) (turn_is_count (x ∷ xs) 0 turn) turn

-- ---- the order of values

pub le_le : (x y z : Value) → is_le (value_cmp x y) ≡ true → is_le (value_cmp y z) ≡ true → is_le (value_cmp x z) ≡ true
le_le x y z p q = by (value_cmp y z) refl q
  where
    by : (o : Ordering) → value_cmp y z ≡ o → is_le o ≡ true → is_le (value_cmp x z) ≡ true
    by Less e r = ap is_le (le_lt_trans value_total x y z p e)
    by Equal e r = ap (λ w. is_le (value_cmp x w)) (sym (value_exact y z e)) ∙ p
    by Greater e r = cc

le_less : (x y z : Value) → is_le (value_cmp x y) ≡ true → is_lt (value_cmp y z) ≡ true → is_lt (value_cmp x z) ≡ true
le_less x y z p q = by (value_cmp y z) refl q
  where
    by : (o : Ordering) → value_cmp y z ≡ o → is_lt o ≡ true → is_lt (value_cmp x z) ≡ true
    by Less e r = ap is_lt (le_lt_trans value_total x y z p e)
    by Equal e r = cc
    by Greater e r = cc

less_le : (x y z : Value) → is_lt (value_cmp x y) ≡ true → is_le (value_cmp y z) ≡ true → is_lt (value_cmp x z) ≡ true
less_le x y z p q = by (value_cmp y z) refl (value_cmp x y) refl p q
  where
    by : (o : Ordering) → value_cmp y z ≡ o → (r : Ordering) → value_cmp x y ≡ r → is_lt r ≡ true → is_le o ≡ true → is_lt (value_cmp x z) ≡ true
    by Less e Less f s t = ap is_lt (value_total.trans x y z f e)
    by Equal e r f s t = ap (λ w. is_lt (value_cmp x w)) (sym (value_exact y z e)) ∙ ap is_lt f ∙ s
    by Greater e r f s t = cc
    by Less e Equal f s t = cc
    by Less e Greater f s t = cc

ge_turned : (o : Ordering) → is_ge (ordering_reverse o) ≡ is_le o
ge_turned Less = refl
ge_turned Equal = refl
ge_turned Greater = refl

gt_turned : (o : Ordering) → is_gt (ordering_reverse o) ≡ is_lt o
gt_turned Less = refl
gt_turned Equal = refl
gt_turned Greater = refl

pub ge_is : (x v : Value) → is_ge (value_cmp x v) ≡ is_le (value_cmp v x)
ge_is x v = ap is_ge (value_total.antisymm x v) ∙ ge_turned (value_cmp v x)

gt_is : (x v : Value) → is_gt (value_cmp x v) ≡ is_lt (value_cmp v x)
gt_is x v = ap is_gt (value_total.antisymm x v) ∙ gt_turned (value_cmp v x)

ge_more : (x y v : Value) → is_le (value_cmp x y) ≡ true → is_ge (value_cmp x v) ≡ true → is_ge (value_cmp y v) ≡ true
ge_more x y v up h = ge_is y v ∙ le_le v x y (sym (ge_is x v) ∙ h) up

-- each of sorted values stands at or below those after it
pub values_rise : (vs : List Value) → IsSorted value_cmp vs → (i j : ℕ) (x y : Value) → i ≤ j → slice_get vs i ≡ Some x → slice_get vs j ≡ Some y → is_le (value_cmp x y) ≡ true
values_rise vs sorted i j x y up is there =
    let far : is_lt (value_cmp (get_or vs j x) (get_or vs i x)) ≡ false =
    sorted_far (λ a b. is_lt (value_cmp a b)) (ranks_by value_total (λ (v : Value). v)) vs sorted i j x up (slice_get_within vs j y there) in
    let less : is_lt (value_cmp y x) ≡ false = sym (ap₂ (λ a b. is_lt (value_cmp a b)) (get_or_from_slice_get vs j y x there) (get_or_from_slice_get vs i x x is)) ∙ far in
    ap is_le (value_total.antisymm x y) ∙ not_less (value_cmp y x) less

-- ---- values before the edges of what a test leaves

up_more : (c : Comparison) (x y v : Value) → is_le (value_cmp x y) ≡ true → up_to c x v ≡ true → up_to c y v ≡ true
up_more comparison.Equal x y v up h = ge_more x y v up h
up_more comparison.NotEqual x y v up h = refl
up_more comparison.Less x y v up h = refl
up_more comparison.LessOrEqual x y v up h = refl
up_more comparison.Greater x y v up h = gt_is y v ∙ less_le v x y (sym (gt_is x v) ∙ h) up
up_more comparison.GreaterOrEqual x y v up h = ge_more x y v up h

from_less : (c : Comparison) (x y v : Value) → is_le (value_cmp x y) ≡ true → from_on c y v ≡ true → from_on c x v ≡ true
from_less comparison.Equal x y v up h = le_le x y v up h
from_less comparison.NotEqual x y v up h = refl
from_less comparison.Less x y v up h = le_less x y v up h
from_less comparison.LessOrEqual x y v up h = le_le x y v up h
from_less comparison.Greater x y v up h = refl
from_less comparison.GreaterOrEqual x y v up h = refl

not_more : (a b : Bool) → (a ≡ true → b ≡ true) → not b ≡ true → not a ≡ true
not_more false b f h = refl
not_more true b f h = sym (ap not (f refl)) ∙ h

stands_falls : (e : Edge) (t : Test) (x y : Value) → is_le (value_cmp x y) ≡ true → stands_before e t y ≡ true → stands_before e t x ≡ true
stands_falls edge.First t x y up h =
    not_more (list_any (up_to t.comparison x) t.literals) (list_any (up_to t.comparison y) t.literals)
    (any_too (up_to t.comparison x) (up_to t.comparison y) (λ v. up_more t.comparison x y v up) t.literals) h
stands_falls edge.End t x y up h = any_too (from_on t.comparison y) (from_on t.comparison x) (λ v. from_less t.comparison x y v up) t.literals h

-- ---- the first values of keys

any_value : Value
any_value = value.UInt8 0

module _ (keys : List Row) (rise : RiseByFirst keys) where
  -- of keys that rise none stands before an edge after one that does not
  pub firsts_fall : (e : Edge) (t : Test) → Falls (stands_before e t) (column_of 0 keys)
  firsts_fall e t = λ i j x y up is there pass. stands_falls e t x y (values_rise (column_of 0 keys) rise.rising i j x y up is there) pass

  pub edge_turn : (e : Edge) (t : Test) → IsTurn (stands_before e t) (column_of 0 keys) (count_before e t keys)
  edge_turn e t = count_is_turn (stands_before e t) (column_of 0 keys) (firsts_fall e t)

  -- a key's first value is one of the column
  pub first_in_column : (k : ℕ) (v : Value) → option_and_then (λ key. slice_get key 0) (slice_get keys k) ≡ Some v → slice_get (column_of 0 keys) k ≡ Some v
  first_in_column k v e = slice_get-column_of 0 keys k rise.some ∙ e

  -- each key has a first value
  pub first_of : (k : ℕ) → k < length keys → (v : Value) × (slice_get (key_at keys k) 0 ≡ Some v) × (slice_get (column_of 0 keys) k ≡ Some v)
  first_of k below =
      let here : slice_get (key_at keys k) 0 ≡ Some (get_or (key_at keys k) 0 any_value) = slice_get-get_or (key_at keys k) 0 any_value (rise.some k [] below) in
      (get_or (key_at keys k) 0 any_value, here, first_in_column k (get_or (key_at keys k) 0 any_value) (ap (option_and_then (λ (key : Row). slice_get key 0)) (slice_get-get_or keys k [] below) ∙ here))

  -- past the last key there is none
  pub past_end : (e : Edge) (t : Test) (high : ℕ) → high ≡ length keys → (i : ℕ) (x : Value) → high ≤ i → slice_get (column_of 0 keys) i ≡ Some x → stands_before e t x ≡ false
  past_end e t high is i x from there = absurd (omega (arith, slice_get_within (column_of 0 keys) i x there, length-column_of 0 keys rise.some, is, from))

  -- where two ends met they are the count
  pub ends_met : (e : Edge) (t : Test) (low high : ℕ) → low ≤ high → high ≤ low → high ≤ length keys
      → ((i : ℕ) (x : Value) → i < low → slice_get (column_of 0 keys) i ≡ Some x → stands_before e t x ≡ true)
      → ((i : ℕ) (x : Value) → high ≤ i → slice_get (column_of 0 keys) i ≡ Some x → stands_before e t x ≡ false) → low ≡ count_before e t keys
  ends_met e t low high order met few before after =
      turn_is_count (stands_before e t) (column_of 0 keys) low (record {
        few = omega (arith, length-column_of 0 keys rise.some, order, few);
        before = before;
        after = λ i x from is. after i x (omega (arith, from, met)) is;
      })

-- ---- columns of keys

-- one value more
pub rising_more : (vs : List Value) (place before : ℕ) (x y : Value) → place ≡ before + 1 → slice_get vs place ≡ Some x → slice_get vs before ≡ Some y → is_lt (value_cmp x y) ≡ false
    → IsSortedWithin (λ a b. is_lt (value_cmp a b)) vs 0 place → (k : ℕ) (d : Value) → 0 ≤ k → k + 1 < place + 1 → is_lt (value_cmp (get_or vs (k + 1) d) (get_or vs k d)) ≡ false
rising_more vs place before x y next there here up so_far k d from below = either (cases_lt (k + 1) place)
  where
    either : (k + 1 < place) ⊎ (place ≤ k + 1) → is_lt (value_cmp (get_or vs (k + 1) d) (get_or vs k d)) ≡ false
    either (inl sooner) = so_far k d from sooner
    either (inr last) =
        let this : k + 1 ≡ place = omega (arith, below, last) in
        let that : k ≡ before = omega (arith, this, next) in
        ap₂ (λ a b. is_lt (value_cmp a b)) (ap (λ n. get_or vs n d) this ∙ get_or_from_slice_get vs place x d there) (ap (λ n. get_or vs n d) that ∙ get_or_from_slice_get vs before y d here) ∙ up

-- keys whose first column rises do
pub seen_rise : (columns : List Cells) (n : ℕ) → HaveKeys columns n → FirstRises columns → RiseByFirst (rows_of columns n)
seen_rise [] n even rise = absurd rise
seen_rise (c ∷ cs) n even rise = record {
  some = All-weaker (λ (key : Row). length key ≡ length (c ∷ cs)) (λ (key : Row). 0 < length key) (λ key e. omega (arith, e)) (rows_of (c ∷ cs) n) (seen_width (c ∷ cs) n (rows_of (c ∷ cs) n) refl even);
  rising = subst (IsSorted value_cmp) (sym (column_of-rows_of (c ∷ cs) n 0 c even refl (All-head (λ (x : Cells). length x.values ≡ n) c cs even))) rise;
}
