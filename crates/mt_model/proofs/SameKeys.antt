-- Lists with the same elements of each key: they are permutations of each other, and one list where both are in order.
use Rattle.std.proofs.Common.{◌≡◌, ℕ, ◌≤◌, Bool, true, false, not, ◌&&◌, cond, List, [], ◌∷◌, ◌++◌, length, refl, sym, ap, ◌∙◌, subst, arith, zero, suc, replicate}
use Rattle.std.specs.Cmp.{IsTotalOrder}
use Rattle.std.specs.List.{filter}
use Rattle.std.specs.List.Sorted.{IsPermutation, IsSorted, IsStable, ties}
use Rattle.std.specs.Ordering.{is_eq, is_lt, ordering_reverse}
use Rattle.std.specs.declared.cmp.Ordering.{Ordering}
use Rattle.std.specs.declared.cmp.Ordering.TheVariants.{Less, Equal, Greater}
use Rattle.std.proofs.lemmas.Cmp.{tied_itself, alike_right}
use Rattle.std.proofs.lemmas.List.Elements.{filter_agree}
use Rattle.std.proofs.lemmas.List.Sums.{count_by-le-length, length-filter}
use Rattle.std.proofs.lemmas.List.Sorted.{IsPermutation-refl, IsPermutation-trans, IsPermutation-sym, IsPermutation-append, IsPermutation-filter_both, sum_by-IsPermutation}
use Rattle.mt_values.specs.Order.{IsExact}
use Rattle.mt_values.specs.Values.{Row}
use Rattle.mt_model.specs.Live.{sorted}
use Rattle.mt_model.proofs.Sorting.{equal_is, Above, sorted_head, sorted_tail, sorted_keeps, sorted_rises}

-- the elements that are alike to one
abbrev pub alike : {X : Type 0} → (X → X → Ordering) → X → List X → List X
alike cmp a xs = filter (λ r. is_eq (cmp a r)) xs

keeps_first : {X : Type 0} (b : Bool) (x : X) (xs : List X) → b ≡ true → cond b (x ∷ xs) xs ≡ x ∷ xs
keeps_first true x xs h = refl
keeps_first false x xs h = cc

drops_first : {X : Type 0} (b : Bool) (x : X) (xs : List X) → b ≡ true → cond (not b) (x ∷ xs) xs ≡ xs
drops_first true x xs h = refl
drops_first false x xs h = cc

filter_cons : {X : Type 0} (p : X → Bool) (b : Bool) (x : X) (xs : List X) → filter p (cond b (x ∷ xs) xs) ≡ cond b (cond (p x) (x ∷ filter p xs) (filter p xs)) (filter p xs)
filter_cons p true x xs = refl
filter_cons p false x xs = refl

conds : {X : Type 0} (b c : Bool) (x : X) (xs : List X) → cond b (cond c (x ∷ xs) xs) xs ≡ cond c (cond b (x ∷ xs) xs) xs
conds true true x xs = refl
conds true false x xs = refl
conds false true x xs = refl
conds false false x xs = refl

-- two tests take elements away in any order
pub filters_swap : {X : Type 0} (p q : X → Bool) (xs : List X) → filter p (filter q xs) ≡ filter q (filter p xs)
filters_swap p q [] = refl
filters_swap p q (x ∷ xs) =
    filter_cons p (q x) x (filter q xs)
    ∙ ap (λ zs. cond (q x) (cond (p x) (x ∷ zs) zs) zs) (filters_swap p q xs)
    ∙ conds (q x) (p x) x (filter q (filter p xs))
    ∙ sym (filter_cons q (p x) x (filter p xs))

-- a test that implies another one finds the same after it
pub filter_after : {X : Type 0} (p q : X → Bool) → ((x : X) → p x ≡ true → q x ≡ true) → (xs : List X) → filter p xs ≡ filter p (filter q xs)
filter_after p q implies [] = refl
filter_after {X} p q implies (x ∷ xs) = by (p x) (q x) (implies x) (filter_after p q implies xs) ∙ sym (filter_cons p (q x) x (filter q xs))
  where
    by : (b c : Bool) → (b ≡ true → c ≡ true) → filter p xs ≡ filter p (filter q xs) → cond b (x ∷ filter p xs) (filter p xs) ≡ cond c (cond b (x ∷ filter p (filter q xs)) (filter p (filter q xs))) (filter p (filter q xs))
    by true true h rest = ap (λ (zs : List X). x ∷ zs) rest
    by true false h rest = let no = h refl in cc
    by false true h rest = rest
    by false false h rest = rest

filter_shorter : {X : Type 0} (p : X → Bool) (xs : List X) → length (filter p xs) ≤ length xs
filter_shorter p xs = rw length-filter (count_by-le-length p xs)

-- lists with the same elements of each key are permutations of each other
permutes_within : {X : Type 0} (cmp : X → X → Ordering) → IsTotalOrder cmp → (n : ℕ) (xs ys : List X) → length xs ≤ n → ((a : X) → alike cmp a xs ≡ alike cmp a ys) → IsPermutation xs ys
permutes_within cmp o n [] [] few same = IsPermutation-refl []
permutes_within cmp o n [] (y ∷ ys) few same =
    let none = same y ∙ keeps_first (is_eq (cmp y y)) y (alike cmp y ys) (ap is_eq (tied_itself o y)) in cc
permutes_within cmp o zero (x ∷ xs) ys few same = absurd (omega arith)
permutes_within {X} cmp o (suc n) (x ∷ xs) ys few same =
    let p : X → Bool = λ r. is_eq (cmp x r) in
    let q : X → Bool = λ r. not (is_eq (cmp x r)) in
    let itself : is_eq (cmp x x) ≡ true = ap is_eq (tied_itself o x) in
    let shorter : length (filter q (x ∷ xs)) ≤ n = rw (drops_first (is_eq (cmp x x)) x (filter q xs) itself) (omega (arith, filter_shorter q xs)) in
    let rest : IsPermutation (filter q (x ∷ xs)) (filter q ys) = permutes_within cmp o n (filter q (x ∷ xs)) (filter q ys) shorter (λ a. filters_swap (λ r. is_eq (cmp a r)) q (x ∷ xs) ∙ ap (filter q) (same a) ∙ sym (filters_swap (λ r. is_eq (cmp a r)) q ys)) in
    let first : IsPermutation (filter p (x ∷ xs)) (filter p ys) = subst (λ zs. IsPermutation (filter p (x ∷ xs)) zs) (same x) (IsPermutation-refl (filter p (x ∷ xs))) in
    let joined = IsPermutation-append (filter p (x ∷ xs)) (filter p ys) (filter q (x ∷ xs)) (filter q ys) first rest in
    let left = IsPermutation-filter_both p q (λ r. refl) (x ∷ xs) in
    let right = IsPermutation-filter_both p q (λ r. refl) ys in
    IsPermutation-trans (x ∷ xs) (filter p (x ∷ xs) ++ filter q (x ∷ xs)) ys left (IsPermutation-trans _ (filter p ys ++ filter q ys) ys joined (IsPermutation-sym ys (filter p ys ++ filter q ys) right))

pub permutes : {X : Type 0} (cmp : X → X → Ordering) → IsTotalOrder cmp → (xs ys : List X) → ((a : X) → alike cmp a xs ≡ alike cmp a ys) → IsPermutation xs ys
permutes cmp o xs ys same = permutes_within cmp o (length xs) xs ys (omega arith) same

-- ---- lists in order

-- what is below y is below what is not below y
below_more : {X : Type 0} (cmp : X → X → Ordering) → IsTotalOrder cmp → (a y z : X) → cmp a y ≡ Less → is_lt (cmp z y) ≡ false → cmp a z ≡ Less
below_more {X} cmp o a y z below above = by (cmp y z) refl
  where
    by : (r : Ordering) → cmp y z ≡ r → cmp a z ≡ Less
    by Less e = o.trans a y z below e
    by Equal e = sym (alike_right o y z a e) ∙ below
    by Greater e = let turned : cmp z y ≡ Less = o.antisymm z y ∙ ap ordering_reverse e in let yes = ap is_lt turned in cc

-- what is below the first element of a list in order is alike to none of it
none_alike : {X : Type 0} (cmp : X → X → Ordering) → IsTotalOrder cmp → (a y : X) (ys : List X) → cmp a y ≡ Less → IsSorted cmp (y ∷ ys) → alike cmp a (y ∷ ys) ≡ []
unfolding Above
none_alike cmp o a y [] below up = rw below refl
none_alike cmp o a y (z ∷ zs) below up =
    let rest : alike cmp a (z ∷ zs) ≡ [] = none_alike cmp o a z zs (below_more cmp o a y z below (sorted_head cmp y (z ∷ zs) up)) (sorted_tail cmp y (z ∷ zs) up) in
    rw below rest

heads : {X : Type 0} (x y : X) (xs ys : List X) → x ∷ xs ≡ y ∷ ys → x ≡ y
heads x y xs ys e = cc

tails : {X : Type 0} (b : Bool) (x : X) (xs ys : List X) → cond b (x ∷ xs) xs ≡ cond b (x ∷ ys) ys → xs ≡ ys
tails true x xs ys e = cc
tails false x xs ys e = e

first_alike : {X : Type 0} (cmp : X → X → Ordering) → IsTotalOrder cmp → (x : X) (xs : List X) → alike cmp x (x ∷ xs) ≡ x ∷ alike cmp x xs
first_alike cmp o x xs = keeps_first (is_eq (cmp x x)) x (alike cmp x xs) (ap is_eq (tied_itself o x))

first_same : {X : Type 0} (cmp : X → X → Ordering) → IsTotalOrder cmp → (x y : X) (xs ys : List X) → IsSorted cmp (x ∷ xs) → IsSorted cmp (y ∷ ys) → ((a : X) → alike cmp a (x ∷ xs) ≡ alike cmp a (y ∷ ys)) → x ≡ y
first_same cmp o x y xs ys one two same = by (cmp x y) refl
  where
    by : (r : Ordering) → cmp x y ≡ r → x ≡ y
    by Less e = let no = none_alike cmp o x y ys e two in let is = sym (first_alike cmp o x xs) ∙ same x ∙ no in cc
    by Equal e = heads x y (alike cmp x xs) (alike cmp x ys) (sym (first_alike cmp o x xs) ∙ same x ∙ keeps_first (is_eq (cmp x y)) y (alike cmp x ys) (ap is_eq e))
    by Greater e =
        let turned : cmp y x ≡ Less = o.antisymm y x ∙ ap ordering_reverse e in
        let no = none_alike cmp o y x xs turned one in
        let is = sym (first_alike cmp o y ys) ∙ sym (same y) ∙ no in cc

-- lists in order with the same elements of each key are one list
pub same_sorted : {X : Type 0} (cmp : X → X → Ordering) → IsTotalOrder cmp → (xs ys : List X) → IsSorted cmp xs → IsSorted cmp ys → ((a : X) → alike cmp a xs ≡ alike cmp a ys) → xs ≡ ys
same_sorted cmp o [] [] one two same = refl
same_sorted cmp o [] (y ∷ ys) one two same = let none = same y ∙ first_alike cmp o y ys in cc
same_sorted cmp o (x ∷ xs) [] one two same = let none = sym (same x) ∙ first_alike cmp o x xs in cc
same_sorted {X} cmp o (x ∷ xs) (y ∷ ys) one two same =
    let e : x ≡ y = first_same cmp o x y xs ys one two same in
    let again : (a : X) → alike cmp a (x ∷ xs) ≡ alike cmp a (x ∷ ys) = subst (λ w. (a : X) → alike cmp a (x ∷ xs) ≡ alike cmp a (w ∷ ys)) (sym e) same in
    let rest : xs ≡ ys = same_sorted cmp o xs ys (sorted_tail cmp x xs one) (sorted_tail cmp y ys two) (λ a. tails (is_eq (cmp a x)) x (alike cmp a xs) (alike cmp a ys) (again a)) in
    cc

-- ---- orders that tell different elements apart

-- as many elements, each of them a
copies : {X : Type 0} (cmp : X → X → Ordering) → IsExact cmp → (a : X) (xs : List X) → alike cmp a xs ≡ replicate (length (alike cmp a xs)) a
copies cmp exact a [] = refl
copies {X} cmp exact a (x ∷ xs) = by (is_eq (cmp a x)) refl (copies cmp exact a xs)
  where
    by : (b : Bool) → is_eq (cmp a x) ≡ b → alike cmp a xs ≡ replicate (length (alike cmp a xs)) a → cond b (x ∷ alike cmp a xs) (alike cmp a xs) ≡ replicate (length (cond b (x ∷ alike cmp a xs) (alike cmp a xs))) a
    by true e rest = let is : a ≡ x = exact a x (equal_is (cmp a x) e) in cc
    by false e rest = rest

-- permutations of each other have the same elements of each key, where the order is exact
pub exact_alike : {X : Type 0} (cmp : X → X → Ordering) → IsExact cmp → (xs ys : List X) → IsPermutation xs ys → (a : X) → alike cmp a xs ≡ alike cmp a ys
exact_alike cmp exact xs ys moved a =
    let count : length (alike cmp a ys) ≡ length (alike cmp a xs) = rw (length-filter, length-filter) (sum_by-IsPermutation (λ r. cond (is_eq (cmp a r)) 1 0) xs ys moved) in
    copies cmp exact a xs ∙ ap (λ n. replicate n a) (sym count) ∙ sym (copies cmp exact a ys)

-- the same list, where both are in an exact order and have the same elements
pub exact_sorted : {X : Type 0} (cmp : X → X → Ordering) → IsTotalOrder cmp → IsExact cmp → (xs ys : List X) → IsPermutation xs ys → IsSorted cmp xs → IsSorted cmp ys → xs ≡ ys
exact_sorted cmp o exact xs ys moved one two = same_sorted cmp o xs ys one two (exact_alike cmp exact xs ys moved)

-- ---- what a stable sort gives

ties_alike : (r : Ordering) → not (is_lt r) && not (is_lt (ordering_reverse r)) ≡ is_eq r
ties_alike Less = refl
ties_alike Equal = refl
ties_alike Greater = refl

ties_is : {X : Type 0} (cmp : X → X → Ordering) → IsTotalOrder cmp → (a r : X) → ties (λ x y. is_lt (cmp x y)) a r ≡ is_eq (cmp a r)
ties_is cmp o a r = ap (λ w. not (is_lt (cmp a r)) && not (is_lt w)) (o.antisymm r a) ∙ ties_alike (cmp a r)

-- a stable sort of rows is the one that the live rows are made by
pub stable_is_sorted : (cmp : Row → Row → Ordering) → IsTotalOrder cmp → (rows out : List Row) → IsSorted cmp out → IsStable cmp rows out → out ≡ sorted cmp rows
stable_is_sorted cmp o rows out up stable =
    let same : (a : Row) (xs : List Row) → filter (ties (λ x y. is_lt (cmp x y)) a) xs ≡ alike cmp a xs = λ a xs. filter_agree (ties (λ x y. is_lt (cmp x y)) a) (λ r. is_eq (cmp a r)) (ties_is cmp o a) xs in
    same_sorted cmp o out (sorted cmp rows) up (sorted_rises cmp o rows)
    (λ a. sym (same a out) ∙ stable a ∙ same a rows ∙ sym (sorted_keeps cmp o a rows))
