-- The front of rising mutations whose numbers are at or below one.
use Rattle.std.proofs.Common.{◌≡◌, ℕ, ◌+◌, ◌<◌, ◌≤◌, Bool, true, false, cond, eqb, leb, ltb, List, [], ◌∷◌, ◌++◌, length, get_or, take, drop, filter, refl, sym, ap, ◌∙◌, subst, inl, inr, arith}
use Rattle.std.proofs.lemmas.Bool.{cases_lt}
use Rattle.std.proofs.lemmas.Bool.Decides.{nat_tests}
use Rattle.std.proofs.lemmas.List.{get_or-drop, get_or-take, length-drop, length-take-le, take-append-drop}
use Rattle.std.proofs.lemmas.List.Quantifiers.{all_pairs_push}
use Rattle.std.proofs.lemmas.List.Elements.{All-head, All-tail, filter-append}
use Rattle.std.specs.List.{All, AllWithin}
use Rattle.std.specs.List.Sorted.{IsPartitionedBy}
use Rattle.part_set.specs.part_name.declared.part.PartName.{PartName}
use Rattle.part_set.specs.part_name.PartNames.{data_version}
use Rattle.mt_values.specs.declared.mutation.Mutation.{Mutation}
use Rattle.part_set.specs.part_name.Pending.{MayMerge, Rise, pending_for}

-- ---- a filter that passes all, or none

module _ {X : Type 0} (p : X → Bool) where
  filter_all : (xs : List X) → All (λ x. p x ≡ true) xs → filter p xs ≡ xs
  filter_all [] all = refl
  filter_all (x ∷ xs) all =
      ap (λ (b : Bool). cond b (x ∷ filter p xs) (filter p xs)) (All-head (λ (y : X). p y ≡ true) x xs all)
      ∙ ap (λ (ys : List X). x ∷ ys) (filter_all xs (All-tail (λ (y : X). p y ≡ true) x xs all))

  filter_none : (xs : List X) → All (λ x. p x ≡ false) xs → filter p xs ≡ []
  filter_none [] none = refl
  filter_none (x ∷ xs) none =
      ap (λ (b : Bool). cond b (x ∷ filter p xs) (filter p xs)) (All-head (λ (y : X). p y ≡ false) x xs none)
      ∙ filter_none xs (All-tail (λ (y : X). p y ≡ false) x xs none)

  -- what passes is the rest, where none of the front does and all of the rest
  pub filter_rest : (xs : List X) (n : ℕ) → n ≤ length xs → AllWithin (λ x. p x ≡ false) xs 0 n → AllWithin (λ x. p x ≡ true) xs n (length xs) → filter p xs ≡ drop n xs
  filter_rest xs n within front back =
      ap (λ (ys : List X). filter p ys) (sym (take-append-drop n xs))
      ∙ (filter-append p (take n xs) (drop n xs)
      ∙ (ap (λ (ys : List X). ys ++ filter p (drop n xs))
      (filter_none (take n xs) (λ k d inside.
      let low : k < n = omega (arith, inside, length-take-le n xs within) in
      subst (λ (x : X). p x ≡ false) (sym (get_or-take n xs k d low)) (front k d (omega arith) low)))
      ∙ filter_all (drop n xs) (λ k d inside.
      subst (λ (x : X). p x ≡ true) (sym (get_or-drop n xs k d)) (back (n + k) d (omega arith) (omega (arith, inside, length-drop n xs))))))

-- ---- the numbers at or below one come first

passed_low : (a b n : ℕ) → a < b → leb b n ≡ true → leb a n ≡ true
passed_low a b n less is = grind (arith, nat_tests)

at_most_tested : (m n : ℕ) → m ≤ n → ltb n m ≡ false
at_most_tested m n most = grind (arith, nat_tests)

above_tested : (m n : ℕ) → n < m → ltb n m ≡ true
above_tested m n above = grind (arith, nat_tests)

pub same_from_test : (m n : ℕ) → eqb m n ≡ true → m ≡ n
same_from_test m n is = grind (arith, nat_tests)

pub test_from_same : (m n : ℕ) → m ≡ n → eqb m n ≡ true
test_from_same m n same = grind (arith, nat_tests)

-- the mutations above a data version are those from a place on
pub pending_rest : (xs : List Mutation) (name : PartName) (n : ℕ) → n ≤ length xs → AllWithin (λ m. m.number ≤ data_version name) xs 0 n → AllWithin (λ m. data_version name < m.number) xs n (length xs) → drop n xs ≡ pending_for xs name
pending_rest xs name n within front back =
    sym (filter_rest (λ (m : Mutation). ltb (data_version name) m.number) xs n within
    (λ k d low inside. at_most_tested (get_or xs k d).number (data_version name) (front k d low inside))
    (λ k d low inside. above_tested (get_or xs k d).number (data_version name) (back k d low inside)))

-- a mutation parts two parts exactly where not as many lie at or below the one data version as below the other
module _ (xs : List Mutation) (a b : PartName) (i j : ℕ) (i_within : i ≤ length xs) (j_within : j ≤ length xs)
    (i_front : AllWithin (λ m. m.number ≤ data_version a) xs 0 i) (i_back : AllWithin (λ m. data_version a < m.number) xs i (length xs))
    (j_front : AllWithin (λ m. m.number ≤ data_version b) xs 0 j) (j_back : AllWithin (λ m. data_version b < m.number) xs j (length xs)) where
  pub none_parts : i ≡ j → MayMerge xs a b
  none_parts same k d inside parted = elim (cases_lt k i) [
    | inl low ↦ (
        let first = i_front k d (omega arith) low in
        let second = j_front k d (omega arith) (omega (arith, low, same)) in
        elim parted [ inl up ↦ omega (arith, up.0, first) | inr down ↦ omega (arith, down.0, second) ]
        )
    | inr high ↦ (
        let first = i_back k d (omega (arith, high)) inside in
        let second = j_back k d (omega (arith, high, same)) inside in
        elim parted [ inl up ↦ omega (arith, up.1, second) | inr down ↦ omega (arith, down.1, first) ]
        )
  ]

  pub same_counts : (d : Mutation) → MayMerge xs a b → i ≡ j
  same_counts d may = elim (cases_lt i j) [
    | inl less ↦ absurd (may i d (omega (arith, less, j_within)) (inl (i_back i d (omega arith) (omega (arith, less, j_within)), j_front i d (omega arith) less)))
    | inr not_less ↦ elim (cases_lt j i) [
      | inl more ↦ absurd (may j d (omega (arith, more, i_within)) (inr (j_back j d (omega arith) (omega (arith, more, i_within)), i_front j d (omega arith) more)))
      | inr not_more ↦ omega (arith, not_less, not_more)
    ]
  ]

-- those at or below a bound come first
pub tested_first : (xs : List Mutation) (n : ℕ) → Rise xs → IsPartitionedBy (λ m. leb m.number n) xs
tested_first xs n rise i j d below inside is = elim (cases_lt i j) [
  | inl less ↦ passed_low (get_or xs i d).number (get_or xs j d).number n (rise i j d less inside) is
  | inr not_less ↦ (let same : j ≡ i = omega (arith, below, not_less) in subst (λ (k : ℕ). leb (get_or xs k d).number n ≡ true) same is)
]

pub most_from_test : (m n : ℕ) → leb m n ≡ true → m ≤ n
most_from_test m n is = grind (arith, nat_tests)

pub above_from_test : (m n : ℕ) → leb m n ≡ false → n < m
above_from_test m n is = grind (arith, nat_tests)

-- one more, above all
pub rise_more : (xs : List Mutation) (m : Mutation) → Rise xs → All (λ x. x.number < m.number) xs → Rise (xs ++ m ∷ [])
rise_more xs m rise above = all_pairs_push (λ (a b : Mutation). a.number < b.number) xs m rise (λ k d inside. above k d inside)
