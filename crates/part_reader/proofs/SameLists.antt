-- Lists by their places: two that are one, what is at a place, and the first place at which something fails.
use Rattle.std.proofs.Common.{◌≡◌, ℕ, zero, suc, ◌<◌, ◌≤◌, ◌⊎◌, inl, inr, List, [], ◌∷◌, ◌++◌, Option, Some, None, refl, sym, ap, ap₂, ◌∙◌, subst, length, map, min, slice_get, arith}
use Rattle.std.specs.List.{range_with_len}
use Rattle.std.proofs.lemmas.Bool.{cases_lt}
use Rattle.std.proofs.lemmas.List.{length_push}
use Rattle.std.proofs.lemmas.List.FromFn.{get_or-map-range_with_len, length-map-range_with_len}
use Rattle.std.proofs.lemmas.Option.{same_Some, slice_get-get_or, slice_get_within}
use Rattle.part_damage.proofs.PrimaryMarksKeysRead.{slice_get-push_new, slice_get-push_old}
use Rattle.part_reader.specs.Compared.{IsFirstFailing, first_of}

pub same_list : {X : Type 0} (xs ys : List X) → length xs ≡ length ys → ((i : ℕ) (y : X) → slice_get ys i ≡ Some y → slice_get xs i ≡ Some y) → xs ≡ ys
same_list [] [] e each = refl
same_list [] (y ∷ ys) e each = absurd (omega (arith, e))
same_list (x ∷ xs) [] e each = absurd (omega (arith, e))
same_list (x ∷ xs) (y ∷ ys) e each = ap₂ (λ z zs. z ∷ zs) (same_Some x y (each 0 y refl)) (same_list xs ys (omega (arith, e)) (λ i z here. each (suc i) z here))

-- there is an item at each place
pub item_there : {X : Type 0} (xs : List X) (i : ℕ) → i < length xs → (x : X) × (slice_get xs i ≡ Some x)
item_there [] i below = absurd (omega (arith, below))
item_there (x ∷ xs) zero below = (x, refl)
item_there (x ∷ xs) (suc i) below = item_there xs i (omega (arith, below))

-- of a list without items there is none at a place
pub none_at : {X : Type 0} (xs : List X) (i : ℕ) (x : X) → xs ≡ [] → slice_get xs i ≡ Some x → ⊥
none_at xs i x none here = let both : slice_get [] i ≡ Some x = ap (λ l. slice_get l i) (sym none) ∙ here in cc

-- an item at a place is one of those before, or the last
pub at_push : {X : Type 0} (P : ℕ → X → Type 0) (xs new : List X) (x : X) → new ≡ xs ++ x ∷ [] → ((i : ℕ) (y : X) → slice_get xs i ≡ Some y → P i y) → P (length xs) x → (i : ℕ) (y : X) → slice_get new i ≡ Some y → P i y
at_push P xs new x is each last i y here = by (cases_lt i (length xs))
  where
    there : slice_get (xs ++ x ∷ []) i ≡ Some y
    there = ap (λ l. slice_get l i) (sym is) ∙ here

    by : (i < length xs) ⊎ (length xs ≤ i) → P i y
    by (inl before) = each i y (sym (slice_get-push_old xs x i before) ∙ there)
    by (inr after) =
        let place : length xs ≡ i = omega (arith, after, slice_get_within (xs ++ x ∷ []) i y there, length_push xs x) in
        let same : x ≡ y = same_Some x y (sym (slice_get-push_new xs x i place) ∙ there) in
        subst (P i) same (subst (λ k. P k x) place last)

pub mapped_at : {Y : Type 0} (f : ℕ → Y) (n i : ℕ) → i < n → slice_get (map f (range_with_len 0 n)) i ≡ Some (f i)
mapped_at f n i below =
    slice_get-get_or (map f (range_with_len 0 n)) i (f i) (omega (arith, length-map-range_with_len f 0 n))
    ∙ ap Some (get_or-map-range_with_len f 0 n i i (f i) below (omega arith))

-- ---- the first place at which something fails

-- it fails where something else does that holds at the same places
pub failing_like : (P Q : ℕ → Type 0) (o : Option ℕ) → ((i : ℕ) → P i → Q i) → ((i : ℕ) → Q i → P i) → IsFirstFailing P o → IsFirstFailing Q o
failing_like P Q None there back h = λ i. there i (h i)
failing_like P Q (Some i) there back h = (λ j below. there j (h.0 j below), λ q. h.1 (back i q))

-- the first place at which one of two fails
pub failing_both : (P Q : ℕ → Type 0) (a b : Option ℕ) → IsFirstFailing P a → IsFirstFailing Q b → IsFirstFailing (λ i. P i × Q i) (first_of a b)
failing_both P Q None None p q = λ i. (p i, q i)
failing_both P Q None (Some b) p q = (λ j below. (p j, q.0 j below), λ h. q.1 h.1)
failing_both P Q (Some a) None p q = (λ j below. (p.0 j below, q j), λ h. p.1 h.0)
failing_both P Q (Some a) (Some b) p q = (λ j below. (p.0 j (omega (arith, below)), q.0 j (omega (arith, below))), fails (cases_lt a b))
  where
    fails : (a < b) ⊎ (b ≤ a) → P (min a b) × Q (min a b) → ⊥
    fails (inl less) h = let same : min a b ≡ a = omega (arith, less) in p.1 (subst P same h.0)
    fails (inr more) h = let same : min a b ≡ b = omega (arith, more) in q.1 (subst Q same h.1)
