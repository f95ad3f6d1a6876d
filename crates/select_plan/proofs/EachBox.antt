-- A granule that several lists of answers choose, each of them chooses.
use Rattle.std.proofs.Common.{◌≡◌, ◌↔◌, ℕ, zero, suc, Bool, true, false, List, [], ◌∷◌, map, slice_get, Some, refl, sym, ap, ◌∙◌, arith, All}
use Rattle.std.specs.List.{fold}
use Rattle.std.specs.Option.{unwrap_or}
use Rattle.std.proofs.lemmas.Bool.{false≢true}
use Rattle.std.proofs.lemmas.List.Elements.{All-cons, All-head, All-nil, All-tail}
use Rattle.std.proofs.lemmas.Option.{none-some, slice_get_past}
use Rattle.mt_model.specs.predicate.Masks.{both}

abbrev no_answers : List Bool
no_answers = []

-- a list without answers has none
none_chosen : (k : ℕ) → slice_get no_answers k ≡ Some true → ⊥
none_chosen k e = none-some true (sym (slice_get_past [] k (omega arith)) ∙ e)

not_both : Some false ≡ Some true → ⊥
not_both e = false≢true (ap (λ o. unwrap_or o true) e)

-- what two lists choose, each chooses
each_true : (a b : List Bool) (k : ℕ) → slice_get (both a b) k ≡ Some true → (slice_get a k ≡ Some true) × (slice_get b k ≡ Some true)
each_true [] b k e = absurd (none_chosen k e)
each_true (x ∷ a) [] k e = absurd (none_chosen k e)
each_true (true ∷ a) (true ∷ b) zero e = (refl, refl)
each_true (true ∷ a) (false ∷ b) zero e = absurd (not_both e)
each_true (false ∷ a) (y ∷ b) zero e = absurd (not_both e)
each_true (x ∷ a) (y ∷ b) (suc k) e = each_true a b k e

-- what each of two lists chooses, both choose
both_true : (a b : List Bool) (k : ℕ) → slice_get a k ≡ Some true → slice_get b k ≡ Some true → slice_get (both a b) k ≡ Some true
both_true [] b k one other = absurd (none_chosen k one)
both_true (x ∷ a) [] k one other = absurd (none_chosen k other)
both_true (true ∷ a) (true ∷ b) zero one other = refl
both_true (true ∷ a) (false ∷ b) zero one other = absurd (not_both other)
both_true (false ∷ a) (y ∷ b) zero one other = absurd (not_both one)
both_true (x ∷ a) (y ∷ b) (suc k) one other = both_true a b k one other

module _ {X : Type 0} (f : X → List Bool) (k : ℕ) where
  -- so it is of one list that several narrow
  each_chooses : (first : List Bool) (xs : List X) → slice_get (fold both first (map f xs)) k ≡ Some true → (slice_get first k ≡ Some true) × All (λ x. slice_get (f x) k ≡ Some true) xs
  each_chooses first [] e = (e, All-nil (λ x. slice_get (f x) k ≡ Some true))
  each_chooses first (x ∷ xs) e =
      let rest = each_chooses (both first (f x)) xs e in
      let two = each_true first (f x) k rest.0 in
      (two.0, All-cons (λ x. slice_get (f x) k ≡ Some true) x xs two.1 rest.1)

  all_choose : (first : List Bool) (xs : List X) → slice_get first k ≡ Some true → All (λ x. slice_get (f x) k ≡ Some true) xs → slice_get (fold both first (map f xs)) k ≡ Some true
  all_choose first [] e all = e
  all_choose first (x ∷ xs) e all =
      all_choose (both first (f x)) xs (both_true first (f x) k e (All-head (λ y. slice_get (f y) k ≡ Some true) x xs all)) (All-tail (λ y. slice_get (f y) k ≡ Some true) x xs all)

  pub chosen_by_each : (first : List Bool) (xs : List X) → (slice_get (fold both first (map f xs)) k ≡ Some true) ↔ ((slice_get first k ≡ Some true) × All (λ x. slice_get (f x) k ≡ Some true) xs)
  chosen_by_each first xs = (each_chooses first xs, λ p. all_choose first xs p.0 p.1)
