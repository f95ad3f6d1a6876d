-- The least and the greatest of values: value by value, and that no value lies outside them.
use Rattle.std.proofs.Common.{◌≡◌, ℕ, suc, zero, ◌+◌, ◌<◌, Bool, true, false, cond, List, [], ◌∷◌, Some, refl, sym, ap, ◌∙◌, subst, fold, length, take, slice_get, get_or}
use Rattle.std.specs.BTreeMap.Comparable.{le_lt_trans}
use Rattle.std.specs.Ordering.{is_gt, is_le, is_lt, ordering_reverse}
use Rattle.std.specs.declared.cmp.Ordering.{Ordering}
use Rattle.std.specs.declared.cmp.Ordering.TheVariants.{Less, Equal, Greater}
use Rattle.std.proofs.lemmas.Cmp.{tied_itself}
use Rattle.std.proofs.lemmas.List.Sums.{fold_push}
use Rattle.mt_values.specs.declared.value.Value.{Value}
use Rattle.mt_values.specs.Order.{value_cmp}
use Rattle.mt_values.proofs.Orders.{value_exact, value_total}
use Rattle.predicate.specs.Boxes.{IsKnown}
use Rattle.column_file.proofs.Writing.{picked_more, values_at}
use Rattle.skip_index.specs.Blocks.{greater, lesser, range_of}

-- a value more of those at places
pub fold_more : (f : Value → Value → Value) (first : Value) (values : List Value) (places : List ℕ) (i : ℕ) (v old new : Value) → i < length places → slice_get values (get_or places i 0) ≡ Some v
    → old ≡ fold f first (values_at values (take i places)) → new ≡ f old v → new ≡ fold f first (values_at values (take (i + 1) places))
fold_more f first values places i v old new below is so e =
    e ∙ ap (λ x. f x v) so
    ∙ sym (fold_push f first (values_at values (take i places)) v)
    ∙ ap (fold f first) (sym (picked_more values places i v below is))

-- ---- order

abbrev pub AtMost : Value → Value → Type 0
AtMost x y = is_le (value_cmp x y) ≡ true

pub itself : (x : Value) → AtMost x x
itself x = ap is_le (tied_itself value_total x)

pub at_most_trans : (x y z : Value) → AtMost x y → AtMost y z → AtMost x z
at_most_trans x y z p q = by (value_cmp y z) refl q
  where
    by : (o : Ordering) → value_cmp y z ≡ o → is_le o ≡ true → AtMost x z
    by Less e r = ap is_le (le_lt_trans value_total x y z p e)
    by Equal e r = subst (AtMost x) (value_exact y z e) p
    by Greater e r = cc

-- what is not above is at most
not_greater : (x y : Value) → is_gt (value_cmp x y) ≡ false → AtMost x y
not_greater x y e = by (value_cmp x y) e
  where
    by : (o : Ordering) → is_gt o ≡ false → is_le o ≡ true
    by Less r = refl
    by Equal r = refl
    by Greater r = cc

-- what is not below is at least
not_less : (x y : Value) → is_lt (value_cmp x y) ≡ false → AtMost y x
not_less x y e = ap is_le (value_total.antisymm y x) ∙ by (value_cmp x y) e
  where
    by : (o : Ordering) → is_lt o ≡ false → is_le (ordering_reverse o) ≡ true
    by Less r = cc
    by Equal r = refl
    by Greater r = refl

less_is : (x y : Value) → is_lt (value_cmp x y) ≡ true → AtMost x y
less_is x y e = by (value_cmp x y) e
  where
    by : (o : Ordering) → is_lt o ≡ true → is_le o ≡ true
    by Less r = refl
    by Equal r = cc
    by Greater r = cc

greater_is : (x y : Value) → is_gt (value_cmp x y) ≡ true → AtMost y x
greater_is x y e = ap is_le (value_total.antisymm y x) ∙ by (value_cmp x y) e
  where
    by : (o : Ordering) → is_gt o ≡ true → is_le (ordering_reverse o) ≡ true
    by Less r = cc
    by Equal r = cc
    by Greater r = refl

-- the lesser of two is at most both, the greater at least both
lesser_both : (x y : Value) → AtMost (lesser x y) x × AtMost (lesser x y) y
lesser_both x y = by (is_lt (value_cmp y x)) refl
  where
    by : (b : Bool) → is_lt (value_cmp y x) ≡ b → AtMost (cond b y x) x × AtMost (cond b y x) y
    by true e = (less_is y x e, itself y)
    by false e = (itself x, not_less y x e)

greater_both : (x y : Value) → AtMost x (greater x y) × AtMost y (greater x y)
greater_both x y = by (is_gt (value_cmp y x)) refl
  where
    by : (b : Bool) → is_gt (value_cmp y x) ≡ b → AtMost x (cond b y x) × AtMost y (cond b y x)
    by true e = (greater_is y x e, itself y)
    by false e = (itself x, not_greater y x e)

-- ---- several values

-- the least of values and a first one is at most that
least_first : (x : Value) (vs : List Value) → AtMost (fold lesser x vs) x
least_first x [] = itself x
least_first x (v ∷ vs) = at_most_trans (fold lesser (lesser x v) vs) (lesser x v) x (least_first (lesser x v) vs) (lesser_both x v).0

greatest_first : (x : Value) (vs : List Value) → AtMost x (fold greater x vs)
greatest_first x [] = itself x
greatest_first x (v ∷ vs) = at_most_trans x (greater x v) (fold greater (greater x v) vs) (greater_both x v).0 (greatest_first (greater x v) vs)

least_each : (x : Value) (vs : List Value) (i : ℕ) (v : Value) → slice_get vs i ≡ Some v → AtMost (fold lesser x vs) v
least_each x [] i v is = cc
least_each x (y ∷ vs) zero v is =
    let same : y ≡ v = cc in
    subst (AtMost (fold lesser (lesser x y) vs)) same (at_most_trans (fold lesser (lesser x y) vs) (lesser x y) y (least_first (lesser x y) vs) (lesser_both x y).1)
least_each x (y ∷ vs) (suc i) v is = least_each (lesser x y) vs i v is

greatest_each : (x : Value) (vs : List Value) (i : ℕ) (v : Value) → slice_get vs i ≡ Some v → AtMost v (fold greater x vs)
greatest_each x [] i v is = cc
greatest_each x (y ∷ vs) zero v is =
    let same : y ≡ v = cc in
    subst (λ z. AtMost z (fold greater (greater x y) vs)) same (at_most_trans y (greater x y) (fold greater (greater x y) vs) (greater_both x y).1 (greatest_first (greater x y) vs))
greatest_each x (y ∷ vs) (suc i) v is = greatest_each (greater x y) vs i v is

-- each value lies between the least and the greatest
pub range_holds : (vs : List Value) (i : ℕ) (v : Value) → slice_get vs i ≡ Some v → IsKnown (range_of vs) v
range_holds [] i v is = cc
range_holds (x ∷ vs) zero v is =
    let same : x ≡ v = cc in
    subst (λ z. IsKnown (range_of (x ∷ vs)) z) same (least_first x vs, greatest_first x vs)
range_holds (x ∷ vs) (suc i) v is = (least_each x vs i v is, greatest_each x vs i v is)

-- the least is at most the greatest
pub ends_rise : (x : Value) (vs : List Value) → AtMost (fold lesser x vs) (fold greater x vs)
ends_rise x vs = at_most_trans (fold lesser x vs) x (fold greater x vs) (least_first x vs) (greatest_first x vs)
