-- The elements of a list with one more.
use Rattle.std.proofs.Common.{◌≡◌, ℕ, List, [], ◌∷◌, ◌++◌, take, drop, refl, sym, subst, ◌⊎◌, inl, inr, arith}
use Rattle.std.proofs.lemmas.List.{take-append-drop}
use Rattle.std.proofs.lemmas.List.Elements.{Contains-append_left, Contains-append_right, Contains-append_cases, Contains-push_cases}
use Rattle.std.specs.List.{Contains as HasItem, insert}

module _ {X : Type 0} where
  pub item_first : (x : X) (xs : List X) → HasItem (x ∷ xs) x
  item_first x xs = (0, omega arith, refl)

  pub item_none : (x : X) → HasItem [] x → ⊥
  item_none x has = omega (arith, has.1)

  -- the first one, or one of the rest
  pub item_split : (x : X) (xs : List X) (y : X) → HasItem (x ∷ xs) y → (x ≡ y) ⊎ HasItem xs y
  item_split x xs y has = elim (Contains-append_cases (x ∷ []) xs y has) [
    | inl front ↦ elim (Contains-push_cases [] x y front) [ inl none ↦ absurd (item_none y none) | inr same ↦ inl same ]
    | inr back ↦ inr back
  ]

  module _ (xs : List X) (n : ℕ) (x : X) where
    -- the new one is an element
    pub item_new : HasItem (insert xs n x) x
    item_new = Contains-append_right (take n xs) (x ∷ drop n xs) x (item_first x (drop n xs))

    -- and the old ones
    pub item_kept : (y : X) → HasItem xs y → HasItem (insert xs n x) y
    item_kept y has = elim (Contains-append_cases (take n xs) (drop n xs) y (subst (λ (zs : List X). HasItem zs y) (sym (take-append-drop n xs)) has)) [
      | inl front ↦ Contains-append_left (take n xs) (x ∷ drop n xs) y front
      | inr back ↦ Contains-append_right (take n xs) (x ∷ drop n xs) y (Contains-append_right (x ∷ []) (drop n xs) y back)
    ]

    behind : (y : X) → HasItem ((x ∷ []) ++ drop n xs) y → HasItem xs y ⊎ (x ≡ y)
    behind y has = elim (Contains-append_cases (x ∷ []) (drop n xs) y has) [
      | inl new ↦ elim (Contains-push_cases [] x y new) [ inl none ↦ absurd (item_none y none) | inr same ↦ inr same ]
      | inr back ↦ inl (subst (λ (zs : List X). HasItem zs y) (take-append-drop n xs) (Contains-append_right (take n xs) (drop n xs) y back))
    ]

    -- and no others
    pub item_cases : (y : X) → HasItem (insert xs n x) y → HasItem xs y ⊎ (x ≡ y)
    item_cases y has = elim (Contains-append_cases (take n xs) (x ∷ drop n xs) y has) [
      | inl front ↦ inl (subst (λ (zs : List X). HasItem zs y) (take-append-drop n xs) (Contains-append_left (take n xs) (drop n xs) y front))
      | inr back ↦ behind y back
    ]
