-- Answers for granules that others narrow, and those of a condition without a test.
use Rattle.std.proofs.Common.{◌≡◌, ℕ, zero, suc, ◌+◌, ◌<◌, ◌≤◌, ◌⊎◌, inl, inr, min, Bool, true, false, ◌&&◌, ◌||◌, List, [], ◌∷◌, ◌++◌, drop, length, map, replicate, slice_get, get_or, take, Some, refl, sym, ap, ap₂, ◌∙◌, arith}
use Rattle.std.specs.List.{fold, zip}
use Rattle.std.proofs.lemmas.List.{at_drop_more, drop_all, length-map, map-append, take_more}
use Rattle.std.proofs.lemmas.List.Sums.{fold_more, fold_push}
use Rattle.std.proofs.lemmas.Option.{none-some, slice_get_past}
use Rattle.std.proofs.lemmas.Slice.Zip.{length-zip}
use Rattle.mt_values.specs.declared.expr.Test.{Test}
use Rattle.mt_values.specs.Conditions.{Condition, Always, Holds, Not, And, Or, tests_of}
use Rattle.predicate.specs.Boxes.{can}
use Rattle.predicate.specs.Masks.{both}
use Rattle.predicate.specs.declared.extent.Can.{Can}
use Rattle.predicate.specs.declared.extent.Extent.{Extent}

-- ---- the answers of two lists

-- a granule that one of two lists does not choose, both do not
pub one_skips : (a b : List Bool) (k : ℕ) → slice_get (both a b) k ≡ Some false → (slice_get a k ≡ Some false) ⊎ (slice_get b k ≡ Some false)
one_skips [] b k e = absurd (none-some false (sym (slice_get_past [] k (omega arith)) ∙ e))
one_skips (x ∷ a) [] k e = absurd (none-some false (sym (slice_get_past [] k (omega arith)) ∙ e))
one_skips (true ∷ a) (y ∷ b) zero e = inr e
one_skips (false ∷ a) (y ∷ b) zero e = inl refl
one_skips (x ∷ a) (y ∷ b) (suc k) e = one_skips a b k e

-- as many answers as in each
pub both_length : (a b : List Bool) (n : ℕ) → length a ≡ n → length b ≡ n → length (both a b) ≡ n
both_length a b n la lb = length-map (zip a b) (λ p. p.0 && p.1) ∙ (length-zip a b ∙ omega (arith, la, lb))

-- the next answer of two lists
pub both_next : (a b : List Bool) (i : ℕ) (x y : Bool) → i < length a → i < length b → both (drop i a) (drop i b) ≡ (get_or a i x && get_or b i y) ∷ both (drop (i + 1) a) (drop (i + 1) b)
both_next a b i x y one other =
    at_drop_more (λ (xs : List Bool). both xs (drop i b)) a i x one
    ∙ at_drop_more (λ (ys : List Bool). both (get_or a i x ∷ drop (i + 1) a) ys) b i y other

-- past the last there is none
pub both_past : (a b : List Bool) (i : ℕ) → length b ≤ i → both (drop i a) (drop i b) ≡ []
both_past a b i past = ap (both (drop i a)) (drop_all i b past) ∙ none (drop i a)
  where
    none : (xs : List Bool) → both xs [] ≡ []
    none [] = refl
    none (x ∷ xs) = refl

module _ {X : Type 0} (f : X → List Bool) where
  -- so it is where several lists narrow one
  pub narrowed_length : (first : List Bool) (xs : List X) (n : ℕ) → length first ≡ n → ((x : X) → length (f x) ≡ n) → length (fold both first (map f xs)) ≡ n
  narrowed_length first [] n one each = one
  narrowed_length first (x ∷ xs) n one each = narrowed_length (both first (f x)) xs n (both_length first (f x) n one (each x)) each

  -- one list more
  pub narrowed_more : (first : List Bool) (xs : List X) (i : ℕ) (d : X) → i < length xs
      → fold both first (map f (take (i + 1) xs)) ≡ both (fold both first (map f (take i xs))) (f (get_or xs i d))
  narrowed_more first xs i d below =
      ap (λ (ys : List X). fold both first (map f ys)) (take_more xs i d below)
      ∙ ap (fold both first) (map-append f (take i xs) (get_or xs i d ∷ []))
      ∙ fold_push both first (map f (take i xs)) (f (get_or xs i d))

-- a granule is skipped where one of the lists skips it
pub narrowed_skips : {X : Type 0} (P : ℕ → Type 0) (f : X → List Bool) (first : List Bool) (xs : List X) → ((k : ℕ) → slice_get first k ≡ Some false → P k)
    → ((n : ℕ) (x : X) → slice_get xs n ≡ Some x → (k : ℕ) → slice_get (f x) k ≡ Some false → P k) → (k : ℕ) → slice_get (fold both first (map f xs)) k ≡ Some false → P k
narrowed_skips P f first [] one each k skipped = one k skipped
narrowed_skips P f first (x ∷ xs) one each k skipped =
    narrowed_skips P f (both first (f x)) xs (λ j e. elim (one_skips first (f x) j e) [
      | inl left ↦ one j left
      | inr right ↦ each 0 x refl j right
    ]) (λ n y there. each (suc n) y there) k skipped

-- what one item more makes of those before it
pub fold_further : {X Y : Type 0} (f : Y → X → Y) (a : Y) (xs : List X) (i : ℕ) (d : X) → i < length xs → fold f a (take (i + 1) xs) ≡ f (fold f a (take i xs)) (get_or xs i d)
fold_further f a xs i d below = fold_more f a xs i d below

-- ---- conditions without a test

no_left : {X : Type 0} (xs ys : List X) → xs ++ ys ≡ [] → xs ≡ []
no_left [] ys none = refl
no_left (x ∷ xs) ys none = cc

no_right : {X : Type 0} (xs ys : List X) → xs ++ ys ≡ [] → ys ≡ []
no_right [] ys none = none
no_right (x ∷ xs) ys none = cc

-- what it may be is the same in each box
pub untested : (c : Condition Test) (a b : Extent) → tests_of c ≡ [] → can c a ≡ can c b
untested Always a b none = refl
untested (Holds t) a b none = cc
untested (Not c) a b none = ap (λ (k : Can). record { yes = k.no; no = k.yes }) (untested c a b none)
untested (And c d) a b none =
    ap₂ (λ (j k : Can). record { yes = j.yes && k.yes; no = j.no || k.no }) (untested c a b (no_left (tests_of c) (tests_of d) none)) (untested d a b (no_right (tests_of c) (tests_of d) none))
untested (Or c d) a b none =
    ap₂ (λ (j k : Can). record { yes = j.yes || k.yes; no = j.no && k.no }) (untested c a b (no_left (tests_of c) (tests_of d) none)) (untested d a b (no_right (tests_of c) (tests_of d) none))

-- one answer for each
pub alike : {X : Type 0} (f : X → Bool) (y : Bool) (xs : List X) → ((x : X) → f x ≡ y) → map f xs ≡ replicate (length xs) y
alike f y [] each = refl
alike f y (x ∷ xs) each = ap₂ (λ (b : Bool) (bs : List Bool). b ∷ bs) (each x) (alike f y xs each)

same_twice : (y : Bool) → (y && y) ≡ y
same_twice true = refl
same_twice false = refl

both_alike : (y : Bool) (m n : ℕ) → both (replicate m y) (replicate n y) ≡ replicate (min m n) y
both_alike y zero n = ap (λ k. replicate k y) (none n)
  where
    none : (n : ℕ) → 0 ≡ min 0 n
    none n = omega arith
both_alike y (suc m) zero = ap (λ k. replicate k y) (none m)
  where
    none : (m : ℕ) → 0 ≡ min (suc m) 0
    none m = omega arith
both_alike y (suc m) (suc n) =
    ap₂ (λ (b : Bool) (bs : List Bool). b ∷ bs) (same_twice y) (both_alike y m n) ∙ ap (λ k. replicate k y) (next m n)
  where
    next : (m n : ℕ) → suc (min m n) ≡ min (suc m) (suc n)
    next m n = omega arith

-- where lists narrow one so, the fewest answers are left
pub narrowed_alike : {X : Type 0} (f : X → List Bool) (count : X → ℕ) (y : Bool) (n : ℕ) (xs : List X) → ((x : X) → f x ≡ replicate (count x) y)
    → fold both (replicate n y) (map f xs) ≡ replicate (fold (λ m x. min m (count x)) n xs) y
narrowed_alike f count y n [] each = refl
narrowed_alike f count y n (x ∷ xs) each =
    ap (λ (b : List Bool). fold both b (map f xs)) (ap (both (replicate n y)) (each x) ∙ both_alike y n (count x))
    ∙ narrowed_alike f count y (min n (count x)) xs each
