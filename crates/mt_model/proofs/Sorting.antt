-- Lists in the order of a total comparison, and the sort that definitions name.
use Rattle.std.proofs.Common.{◌≡◌, ◌+◌, ◌<◌, ◌&&◌, Bool, true, false, cond, List, [], ◌∷◌, length, refl, sym, ap, ◌∙◌, arith, zero, suc}
use Rattle.std.specs.Cmp.{IsTotalOrder}
use Rattle.std.specs.List.{filter}
use Rattle.std.specs.List.Sorted.{IsPermutation, IsSorted}
use Rattle.std.specs.Ordering.{is_eq, is_gt, is_lt, ordering_reverse}
use Rattle.std.specs.declared.cmp.Ordering.{Ordering}
use Rattle.std.specs.declared.cmp.Ordering.TheVariants.{Less, Equal, Greater}
use Rattle.std.proofs.lemmas.List.Sorted.{IsPermutation-refl, IsPermutation-cons, IsPermutation-trans, IsPermutation-sym, IsPermutation-middle}
use Rattle.mt_values.specs.Values.{Row}
use Rattle.mt_model.specs.Live.{placed, sorted}

pub equal_is : (r : Ordering) → is_eq r ≡ true → r ≡ Equal
equal_is Less h = cc
equal_is Equal h = refl
equal_is Greater h = cc

-- what is not less than y is at least y
not_less : (r : Ordering) → is_lt (ordering_reverse r) ≡ is_gt r
not_less Less = refl
not_less Equal = refl
not_less Greater = refl

gt_is_not_less : (r : Ordering) → is_gt r ≡ true → is_lt r ≡ false
gt_is_not_less Less h = cc
gt_is_not_less Equal h = refl
gt_is_not_less Greater h = refl

swapped : {X : Type 0} (b c : Bool) (x y : X) (rest : List X) → (b ≡ true → c ≡ true → ⊥) → cond c (y ∷ cond b (x ∷ rest) rest) (cond b (x ∷ rest) rest) ≡ cond b (x ∷ cond c (y ∷ rest) rest) (cond c (y ∷ rest) rest)
swapped true true x y rest h = absurd (h refl refl)
swapped true false x y rest h = refl
swapped false true x y rest h = refl
swapped false false x y rest h = refl

-- a list whose first element is not less than x, or which is empty
unfoldable pub Above : {X : Type 0} → (X → X → Ordering) → X → List X → Type 0
Above cmp x [] = Unit {0}
Above cmp x (y ∷ ys) = is_lt (cmp y x) ≡ false

sorted_none : {X : Type 0} (cmp : X → X → Ordering) → IsSorted cmp []
sorted_none cmp k d low high = absurd (omega arith)

sorted_cons : {X : Type 0} (cmp : X → X → Ordering) (x : X) (xs : List X) → Above cmp x xs → IsSorted cmp xs → IsSorted cmp (x ∷ xs)
unfolding Above
sorted_cons cmp x [] above up k d low high = absurd (omega arith)
sorted_cons cmp x (y ∷ ys) above up zero d low high = above
sorted_cons cmp x (y ∷ ys) above up (suc k) d low high =
    let next : suc k + 1 ≡ suc (k + 1) = omega arith in
    let below : k + 1 < length (y ∷ ys) = omega arith in
    rw next (up k d (omega arith) below)

pub sorted_head : {X : Type 0} (cmp : X → X → Ordering) (x : X) (xs : List X) → IsSorted cmp (x ∷ xs) → Above cmp x xs
unfolding Above
sorted_head cmp x [] up = tt
sorted_head cmp x (y ∷ ys) up = up zero x (omega arith) (omega arith)

pub sorted_tail : {X : Type 0} (cmp : X → X → Ordering) (x : X) (xs : List X) → IsSorted cmp (x ∷ xs) → IsSorted cmp xs
sorted_tail cmp x xs up k d low high =
    let next : suc k + 1 ≡ suc (k + 1) = omega arith in
    let below : suc k + 1 < length (x ∷ xs) = omega arith in
    let one = up (suc k) d (omega arith) below in
    rw next at one

module _ {X : Type 0} (cmp : X → X → Ordering) (o : IsTotalOrder cmp) where
  -- the same, of a pair
  not_above : (x y : X) → is_lt (cmp y x) ≡ is_gt (cmp x y)
  not_above x y = ap is_lt (o.antisymm y x) ∙ not_less (cmp x y)

  -- two that are alike to a third are alike
  alike_two : (a x y : X) → is_eq (cmp a x) ≡ true → is_eq (cmp a y) ≡ true → cmp x y ≡ Equal
  alike_two a x y first second = sym (o.congr a x y (equal_is (cmp a x) first)) ∙ equal_is (cmp a y) second

  not_both : (a x y : X) → is_gt (cmp x y) ≡ true → is_eq (cmp a x) ≡ true → is_eq (cmp a y) ≡ true → ⊥
  not_both a x y greater first second = let e = ap is_gt (alike_two a x y first second) in cc

  above_front : (x y : X) (ys : List X) → is_gt (cmp x y) ≡ false → Above cmp x (y ∷ ys)
  unfolding Above
  above_front x y ys g = not_above x y ∙ g

-- one test after another passes what both of them pass
filter_both : {X : Type 0} (f g : X → Bool) (xs : List X) → filter (λ x. f x && g x) xs ≡ filter f (filter g xs)
filter_both f g [] = refl
filter_both {X} f g (x ∷ xs) = by (f x) (g x) refl (filter_both f g xs)
  where
    by : (b c : Bool) → f x ≡ b → filter (λ x. f x && g x) xs ≡ filter f (filter g xs)
        → cond (b && c) (x ∷ filter (λ x. f x && g x) xs) (filter (λ x. f x && g x) xs) ≡ filter f (cond c (x ∷ filter g xs) (filter g xs))
    by true true e rest = ap (λ zs. x ∷ zs) rest ∙ sym (ap (λ b. cond b (x ∷ filter f (filter g xs)) (filter f (filter g xs))) e)
    by false true e rest = rest ∙ sym (ap (λ b. cond b (x ∷ filter f (filter g xs)) (filter f (filter g xs))) e)
    by true false e rest = rest
    by false false e rest = rest

nothing_above : {X : Type 0} (cmp : X → X → Ordering) (x : X) → Above cmp x []
unfolding Above
nothing_above cmp x = tt

module _ (cmp : Row → Row → Ordering) (o : IsTotalOrder cmp) where
  placed_keeps : (a x : Row) (ys : List Row) → filter (λ r. is_eq (cmp a r)) (placed cmp x ys) ≡ filter (λ r. is_eq (cmp a r)) (x ∷ ys)
  placed_keeps a x [] = refl
  placed_keeps a x (y ∷ ys) = by (placed_keeps a x ys) (is_gt (cmp x y)) refl
    where
      by : filter (λ r. is_eq (cmp a r)) (placed cmp x ys) ≡ filter (λ r. is_eq (cmp a r)) (x ∷ ys) → (b : Bool) → is_gt (cmp x y) ≡ b → filter (λ r. is_eq (cmp a r)) (cond b (y ∷ placed cmp x ys) (x ∷ y ∷ ys)) ≡ filter (λ r. is_eq (cmp a r)) (x ∷ y ∷ ys)
      by below true g =
          ap (λ zs. cond (is_eq (cmp a y)) (y ∷ zs) zs) below
          ∙ swapped (is_eq (cmp a x)) (is_eq (cmp a y)) x y (filter (λ r. is_eq (cmp a r)) ys) (not_both cmp o a x y g)
      by below false g = refl

  placed_permutes : (x : Row) (ys : List Row) → IsPermutation (x ∷ ys) (placed cmp x ys)
  placed_permutes x [] = IsPermutation-refl (x ∷ [])
  placed_permutes x (y ∷ ys) = by (placed_permutes x ys) (is_gt (cmp x y))
    where
      by : IsPermutation (x ∷ ys) (placed cmp x ys) → (b : Bool) → IsPermutation (x ∷ y ∷ ys) (cond b (y ∷ placed cmp x ys) (x ∷ y ∷ ys))
      by below true = IsPermutation-trans (x ∷ y ∷ ys) (y ∷ x ∷ ys) (y ∷ placed cmp x ys) (IsPermutation-sym (y ∷ x ∷ ys) (x ∷ y ∷ ys) (IsPermutation-middle (y ∷ []) x ys)) (IsPermutation-cons y (x ∷ ys) (placed cmp x ys) below)
      by below false = IsPermutation-refl (x ∷ y ∷ ys)

  above_placed : (y x : Row) (ys : List Row) → is_gt (cmp x y) ≡ true → Above cmp y ys → Above cmp y (placed cmp x ys)
  unfolding Above
  above_placed y x [] g above = gt_is_not_less (cmp x y) g
  above_placed y x (z ∷ zs) g above = by (is_gt (cmp x z))
    where
      by : (b : Bool) → Above cmp y (cond b (z ∷ placed cmp x zs) (x ∷ z ∷ zs))
      by true = above
      by false = gt_is_not_less (cmp x y) g

  placed_rises : (x : Row) (ys : List Row) → IsSorted cmp ys → IsSorted cmp (placed cmp x ys)
  placed_rises x [] up = sorted_cons cmp x [] (nothing_above cmp x) (sorted_none cmp)
  placed_rises x (y ∷ ys) up = by (placed_rises x ys (sorted_tail cmp y ys up)) (is_gt (cmp x y)) refl
    where
      by : IsSorted cmp (placed cmp x ys) → (b : Bool) → is_gt (cmp x y) ≡ b → IsSorted cmp (cond b (y ∷ placed cmp x ys) (x ∷ y ∷ ys))
      by below true g = sorted_cons cmp y (placed cmp x ys) (above_placed y x ys g (sorted_head cmp y ys up)) below
      by below false g = sorted_cons cmp x (y ∷ ys) (above_front cmp o x y ys g) up

  -- a sort keeps the rows of each key in their order
  pub sorted_keeps : (a : Row) (xs : List Row) → filter (λ r. is_eq (cmp a r)) (sorted cmp xs) ≡ filter (λ r. is_eq (cmp a r)) xs
  sorted_keeps a [] = refl
  sorted_keeps a (x ∷ xs) = placed_keeps a x (sorted cmp xs) ∙ ap (λ zs. cond (is_eq (cmp a x)) (x ∷ zs) zs) (sorted_keeps a xs)

  -- and of each key those that another test passes
  pub sorted_keeps_where : (f : Row → Bool) (a : Row) (xs : List Row) → filter (λ r. f r && is_eq (cmp a r)) (sorted cmp xs) ≡ filter (λ r. f r && is_eq (cmp a r)) xs
  sorted_keeps_where f a xs =
      filter_both f (λ r. is_eq (cmp a r)) (sorted cmp xs) ∙ (ap (filter f) (sorted_keeps a xs) ∙ sym (filter_both f (λ r. is_eq (cmp a r)) xs))

  pub sorted_permutes : (xs : List Row) → IsPermutation xs (sorted cmp xs)
  sorted_permutes [] = IsPermutation-refl []
  sorted_permutes (x ∷ xs) = IsPermutation-trans (x ∷ xs) (x ∷ sorted cmp xs) (placed cmp x (sorted cmp xs)) (IsPermutation-cons x xs (sorted cmp xs) (sorted_permutes xs)) (placed_permutes x (sorted cmp xs))

  pub sorted_rises : (xs : List Row) → IsSorted cmp (sorted cmp xs)
  sorted_rises [] = sorted_none cmp
  sorted_rises (x ∷ xs) = placed_rises x (sorted cmp xs) (sorted_rises xs)
