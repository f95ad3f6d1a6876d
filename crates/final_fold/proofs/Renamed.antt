-- A condition over the values of the columns that its tests name.
use Rattle.std.proofs.Common.{◌≡◌, ◌≢◌, ℕ, zero, suc, ◌+◌, ◌<◌, ◌⊎◌, inl, inr, true, false, not, ◌&&◌, ◌||◌, cond, List, [], ◌∷◌, ◌++◌, Some, refl, sym, ap, ap₂, ◌∙◌, length, map, get_or, slice_get, take, All, arith, option_and_then}
use Rattle.std.specs.List.{AllPairs}
use Rattle.std.proofs.Math.Dec.{eqb}
use Rattle.std.proofs.lemmas.Bool.Decides.{eqb_tells}
use Rattle.std.proofs.lemmas.List.Elements.{All-cons, All-head, All-nil, All-tail}
use Rattle.std.proofs.lemmas.Option.{get_or_from_slice_get, same_Some, slice_get_within}
use Rattle.mt_values.specs.declared.expr.Test.{Test}
use Rattle.mt_values.specs.Conditions.{Condition, Always, And, Holds, Not, Or, map_tests, tests_of}
use Rattle.mt_values.specs.Order.{key_of}
use Rattle.mt_values.specs.Tests.{eval, meets_at, meets_some}
use Rattle.mt_values.specs.Values.{Row}
use Rattle.final_fold.specs.Asked.{moved_to}
use Rattle.final_fold.proofs.Picking.{found_at}

-- the first position of a number in a list
abbrev pub place_in : List ℕ → ℕ → ℕ
place_in [] p = 0
place_in (q ∷ qs) p = cond (eqb q p) 0 (suc (place_in qs p))

-- where no number comes twice, it is the only one
pub place_found : (read : List ℕ) (i p : ℕ) → AllPairs (λ a b. a ≢ b) read → slice_get read i ≡ Some p → place_in read p ≡ i
place_found [] i p once here = cc
place_found (q ∷ qs) zero p once here = by (eqb_tells q p)
  where
    by : ((eqb q p ≡ true) × (q ≡ p)) ⊎ ((eqb q p ≡ false) × (q ≢ p)) → place_in (q ∷ qs) p ≡ zero
    by (inl same) = ap (λ b. cond b 0 (suc (place_in qs p))) same.0
    by (inr other) = absurd (other.1 (same_Some q p here))
place_found (q ∷ qs) (suc i) p once here =
    by (place_found qs i p (λ a b d before within. once (suc a) (suc b) d (omega (arith, before)) (omega (arith, within))) here) (slice_get_within qs i p here) (eqb_tells q p)
  where
    by : place_in qs p ≡ i → i < length qs → ((eqb q p ≡ true) × (q ≡ p)) ⊎ ((eqb q p ≡ false) × (q ≢ p)) → place_in (q ∷ qs) p ≡ suc i
    by rest inside (inl same) = absurd (once 0 (suc i) p (omega arith) (omega (arith, inside)) (same.1 ∙ sym (get_or_from_slice_get qs i p p here)))
    by rest inside (inr other) = ap (λ b. cond b 0 (suc (place_in qs p))) other.0 ∙ ap suc rest

-- a test of the column at its position among those that are read
abbrev pub at_place : List ℕ → Test → Test
at_place read t = record t { column = place_in read t.column }

-- the positions found are those of the tests' columns
pub moved_is : (read shown : List ℕ) (tests : List Test) → AllPairs (λ a b. a ≢ b) read → map (slice_get read) shown ≡ map Some (map (λ (t : Test). t.column) tests) → moved_to shown tests ≡ map (at_place read) tests
moved_is read [] [] once e = refl
moved_is read [] (t ∷ ts) once e = cc
moved_is read (i ∷ is) [] once e = cc
moved_is read (i ∷ is) (t ∷ ts) once e =
    let first : slice_get read i ≡ Some t.column = cc in
    let rest : map (slice_get read) is ≡ map Some (map (λ (x : Test). x.column) ts) = cc in
    ap₂ (λ (x : Test) (xs : List Test). x ∷ xs) (ap (λ p. record t { column = p }) (sym (place_found read i t.column once first))) (moved_is read is ts once rest)

-- each test's column is at its position
abbrev pub AreFound : List ℕ → List Test → Type 0
AreFound read tests = All (λ (t : Test). slice_get read (place_in read t.column) ≡ Some t.column) tests

pub tests_found : (read shown : List ℕ) (tests : List Test) → AllPairs (λ a b. a ≢ b) read → map (slice_get read) shown ≡ map Some (map (λ (t : Test). t.column) tests) → AreFound read tests
tests_found read shown [] once e = All-nil (λ (t : Test). slice_get read (place_in read t.column) ≡ Some t.column)
tests_found read [] (t ∷ ts) once e = cc
tests_found read (i ∷ is) (t ∷ ts) once e =
    let first : slice_get read i ≡ Some t.column = cc in
    let rest : map (slice_get read) is ≡ map Some (map (λ (x : Test). x.column) ts) = cc in
    All-cons (λ (x : Test). slice_get read (place_in read x.column) ≡ Some x.column) t ts (ap (slice_get read) (place_found read i t.column once first) ∙ first) (tests_found read is ts once rest)

all_parts : {X : Type 0} (P : X → Type 0) (xs ys : List X) → All P (xs ++ ys) → All P xs × All P ys
all_parts P [] ys all = (All-nil P, all)
all_parts P (x ∷ xs) ys all =
    let rest = all_parts P xs ys (All-tail P x (xs ++ ys) all) in
    (All-cons P x xs (All-head P x (xs ++ ys) all) rest.0, rest.1)

module _ (read : List ℕ) (row : Row) (within : All (λ p. p < length row) read) where
  test_same : (t : Test) → slice_get read (place_in read t.column) ≡ Some t.column → meets_at (key_of read row) (at_place read t) ≡ meets_at row t
  test_same t here = ap (meets_some t) (found_at row read (place_in read t.column) within ∙ ap (option_and_then (slice_get row)) here)

  -- over the values of the columns that are read the condition is what it is over the row
  pub condition_same : (c : Condition Test) → AreFound read (tests_of c) → eval (map_tests (at_place read) c) (key_of read row) ≡ eval c row
  condition_same Always found = refl
  condition_same (Holds t) found = test_same t (All-head (λ (x : Test). slice_get read (place_in read x.column) ≡ Some x.column) t [] found)
  condition_same (Not c) found = ap not (condition_same c found)
  condition_same (And a b) found =
      let parts = all_parts (λ (x : Test). slice_get read (place_in read x.column) ≡ Some x.column) (tests_of a) (tests_of b) found in
      ap₂ (λ x y. x && y) (condition_same a parts.0) (condition_same b parts.1)
  condition_same (Or a b) found =
      let parts = all_parts (λ (x : Test). slice_get read (place_in read x.column) ≡ Some x.column) (tests_of a) (tests_of b) found in
      ap₂ (λ x y. x || y) (condition_same a parts.0) (condition_same b parts.1)

-- one test more
pub moved_more : (positions : List ℕ) (tests : List Test) (i p : ℕ) (t : Test) → length positions ≡ length tests → i < length tests → p ≡ get_or positions i p → t ≡ get_or tests i t
    → moved_to (take (i + 1) positions) (take (i + 1) tests) ≡ moved_to (take i positions) (take i tests) ++ record t { column = p } ∷ []
moved_more [] [] i p t even within p_is t_is = absurd (omega (arith, within))
moved_more [] (u ∷ us) i p t even within p_is t_is = absurd (omega (arith, even))
moved_more (q ∷ qs) [] i p t even within p_is t_is = absurd (omega (arith, even))
moved_more (q ∷ qs) (u ∷ us) zero p t even within p_is t_is = ap₂ (λ (x : Test) (n : ℕ). record x { column = n } ∷ []) (sym t_is) (sym p_is)
moved_more (q ∷ qs) (u ∷ us) (suc i) p t even within p_is t_is =
    let next : suc i + 1 ≡ suc (i + 1) = omega arith in
    ap (λ n. moved_to (take n (q ∷ qs)) (take n (u ∷ us))) next ∙ ap (λ (ts : List Test). record u { column = q } ∷ ts) (moved_more qs us i p t (omega (arith, even)) (omega (arith, within)) p_is t_is)
