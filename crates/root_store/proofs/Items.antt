-- Elements of lists that a map or a filter gave, and how many pass a test.
use Rattle.std.proofs.Common.{◌≡◌, ℕ, ◌+◌, ◌≤◌, Bool, true, false, cond, List, [], ◌∷◌, map, filter, refl, sym, ap, ◌∙◌, subst, ◌⊎◌, inl, inr, arith}
use Rattle.std.proofs.lemmas.List.Elements.{Contains-append_cases, Contains-push_cases}
use Rattle.std.proofs.lemmas.List.Sums.{sum_by-cons}
use Rattle.std.specs.List.{Contains as HasItem, count_by}
use Rattle.table_core.proofs.PartSetItems.{item_first, item_none}
use Rattle.table_core.proofs.PartSetOrphans.{item_more}

pub item_either : {X : Type 0} (x y : X) (xs : List X) → HasItem (x ∷ xs) y → (x ≡ y) ⊎ HasItem xs y
item_either x y xs has = elim (Contains-append_cases (x ∷ []) xs y has) [
  | inl first ↦ elim (Contains-push_cases [] x y first) [ inl none ↦ absurd (item_none y none) | inr same ↦ inl same ]
  | inr more ↦ inr more
]

-- what a map gave comes from an element
pub mapped : {X Y : Type 0} (f : X → Y) (xs : List X) (y : Y) → HasItem (map f xs) y → (x : X) × HasItem xs x × (f x ≡ y)
mapped f [] y has = absurd (item_none y has)
mapped f (x ∷ xs) y has = elim (item_either (f x) y (map f xs) has) [
  | inl same ↦ (x, item_first x xs, same)
  | inr more ↦ (let found = mapped f xs y more in (found.0, item_more x found.0 xs found.1, found.2))
]

module _ {X : Type 0} (f : X → Bool) where
  kept_or : (b : Bool) (y x : X) (zs : List X) → HasItem zs x → HasItem (cond b (y ∷ zs) zs) x
  kept_or true y x zs has = item_more y x zs has
  kept_or false y x zs has = has

  -- a filter keeps what passes
  pub filtered : (xs : List X) (x : X) → HasItem xs x → f x ≡ true → HasItem (filter f xs) x
  filtered [] x has passes = absurd (item_none x has)
  filtered (y ∷ ys) x has passes = elim (item_either y x ys has) [
    | inl same ↦ subst (λ (b : Bool). HasItem (cond b (y ∷ filter f ys) (filter f ys)) x) (sym (ap f same ∙ passes)) (subst (HasItem (y ∷ filter f ys)) same (item_first y (filter f ys)))
    | inr more ↦ kept_or (f y) y x (filter f ys) (filtered ys x more passes)
  ]

  one_more : (x : X) (xs : List X) → count_by f (x ∷ xs) ≡ cond (f x) 1 0 + count_by f xs
  one_more x xs = sum_by-cons (λ (y : X). cond (f y) 1 0) x xs

  one_here : (x y : X) (xs : List X) → x ≡ y → f y ≡ true → count_by f (x ∷ xs) ≡ 1 + count_by f xs
  one_here x y xs same passes = one_more x xs ∙ ap (λ (b : Bool). cond b 1 0 + count_by f xs) (ap f same ∙ passes)

  no_fewer : (x : X) (xs : List X) → count_by f xs ≤ count_by f (x ∷ xs)
  no_fewer x xs = let e = one_more x xs in omega (arith, e)

  -- one that passes is counted
  pub one_counts : (xs : List X) (p : X) → HasItem xs p → f p ≡ true → 1 ≤ count_by f xs
  one_counts [] p has passes = absurd (item_none p has)
  one_counts (x ∷ xs) p has passes = elim (item_either x p xs has) [
    | inl same ↦ (let e = one_here x p xs same passes in omega (arith, e))
    | inr more ↦ (let le = no_fewer x xs in let one = one_counts xs p more passes in omega (arith, le, one))
  ]

  -- two that differ count twice
  pub two_count : (xs : List X) (p q : X) → (p ≡ q → ⊥) → HasItem xs p → HasItem xs q → f p ≡ true → f q ≡ true → 2 ≤ count_by f xs
  two_count [] p q apart first second passes also = absurd (item_none p first)
  two_count (x ∷ xs) p q apart first second passes also = elim (item_either x p xs first) [
    | inl same ↦ elim (item_either x q xs second) [
      | inl other ↦ absurd (apart (sym same ∙ other))
      | inr more ↦ (let e = one_here x p xs same passes in let one = one_counts xs q more also in omega (arith, e, one))
    ]
    | inr behind ↦ elim (item_either x q xs second) [
      | inl other ↦ (let e = one_here x q xs other also in let one = one_counts xs p behind passes in omega (arith, e, one))
      | inr more ↦ (let le = no_fewer x xs in let two = two_count xs p q apart behind more passes also in omega (arith, le, two))
    ]
  ]

-- what is counted is there
pub counted_one : {X : Type 0} (f : X → Bool) (xs : List X) → 1 ≤ count_by f xs → (x : X) × HasItem xs x × (f x ≡ true)
counted_one f [] some = absurd (omega arith)
counted_one {X} f (x ∷ xs) some = by (f x) refl (counted_one f xs)
  where
    by : (b : Bool) → f x ≡ b → (1 ≤ count_by f xs → (y : X) × HasItem xs y × (f y ≡ true)) → (y : X) × HasItem (x ∷ xs) y × (f y ≡ true)
    by true passes rest = (x, item_first x xs, passes)
    by false other rest =
        let e = one_more f x xs in
        let off : ◌≡◌ {A = ℕ} (cond (f x) 1 0) 0 = ap (λ (b : Bool). cond {A = ℕ} b 1 0) other in
        let found = rest (omega (arith, e, off, some)) in
        (found.0, item_more x found.0 xs found.1, found.2)

-- what a filter keeps was there, and passes
pub unfiltered : {X : Type 0} (f : X → Bool) (xs : List X) (x : X) → HasItem (filter f xs) x → HasItem xs x × (f x ≡ true)
unfiltered f [] x has = absurd (item_none x has)
unfiltered {X} f (y ∷ ys) x has = by (f y) refl has (unfiltered f ys x)
  where
    by : (b : Bool) → f y ≡ b → HasItem (cond b (y ∷ filter f ys) (filter f ys)) x → (HasItem (filter f ys) x → HasItem ys x × (f x ≡ true)) → HasItem (y ∷ ys) x × (f x ≡ true)
    by false other has rest = let more = rest has in (item_more y x ys more.0, more.1)
    by true passes has rest = elim (item_either y x (filter f ys) has) [
      | inl same ↦ (subst (HasItem (y ∷ ys)) same (item_first y ys), sym (ap f same) ∙ passes)
      | inr behind ↦ (let more = rest behind in (item_more y x ys more.0, more.1))
    ]

-- a map takes each element
pub map_item : {X Y : Type 0} (f : X → Y) (xs : List X) (x : X) → HasItem xs x → HasItem (map f xs) (f x)
map_item f [] x has = absurd (item_none x has)
map_item f (y ∷ ys) x has = elim (item_either y x ys has) [
  | inl same ↦ subst (HasItem (f y ∷ map f ys)) (ap f same) (item_first (f y) (map f ys))
  | inr more ↦ item_more (f y) (f x) (map f ys) (map_item f ys x more)
]
