-- The answers of conditions on the rows of a granule, condition by condition.
use Rattle.std.proofs.Common.{◌≡◌, ℕ, suc, ◌+◌, ◌<◌, ◌≤◌, arith, Bool, true, false, cond, not, ◌&&◌, ◌||◌, List, [], ◌∷◌, ◌++◌, refl, sym, ap, ◌∙◌, length, map, get_or, take, replicate, length-append}
use Rattle.std.specs.List.{filter, list_all, range_with_len}
use Rattle.std.proofs.lemmas.Bool.{false≢true}
use Rattle.std.proofs.lemmas.List.{get_or_default, length-map, take_more}
use Rattle.std.proofs.lemmas.List.Folds.{list_all-append, list_all-map}
use Rattle.std.proofs.lemmas.List.FromFn.{length-range_with_len}
use Rattle.mt_values.specs.Grid.{Cells, row_at, rows_of}
use Rattle.mt_values.specs.Lists.{where_true}
use Rattle.mt_values.specs.Tests.{eval}
use Rattle.mt_values.proofs.Wheres.{passed_next, taken_next}
use Rattle.mt_values.specs.Values.{Row}
use Rattle.part_damage.specs.predicate.Masks.{both}
use Rattle.part_reader.specs.declared.sieves.Sieve.{Sieve}
use Rattle.part_reader.specs.Sieves.{asking_of, count_true, passes}

-- a row meets a condition where it is asked in the granule
abbrev pub meets_one : ℕ → Row → Sieve → Bool
meets_one granule row s = not (get_or s.granules.now granule false) || eval s.condition row

-- so it is with each of some
abbrev pub meets_each : List Sieve → ℕ → Row → Bool
meets_each sieves granule row = list_all (meets_one granule row) sieves

pub each_meets : (sieves : List Sieve) (granule : ℕ) (row : Row) → meets_each sieves granule row ≡ passes (asking_of sieves) granule row
each_meets sieves granule row = sym (list_all-map (λ p. not (get_or p.1 granule false) || eval p.0 row) (λ (s : Sieve). (s.condition, s.granules.now)) sieves)

both_maps : {X : Type 0} (f g : X → Bool) (xs : List X) → both (map f xs) (map g xs) ≡ map (λ x. f x && g x) xs
both_maps f g [] = refl
both_maps f g (x ∷ xs) = ap (λ bs. (f x && g x) ∷ bs) (both_maps f g xs)

and_true : (b : Bool) → (b && true) ≡ b
and_true false = refl
and_true true = refl

module _ (columns : List Cells) (n granule : ℕ) where
  -- the answers of some
  abbrev pub answers : List Sieve → List Bool
  answers sieves = map (meets_each sieves granule) (rows_of columns n)

  pub answers_none : replicate n true ≡ answers []
  answers_none = ap (λ k. replicate k true) (sym (length-map (range_with_len 0 n) (row_at columns) ∙ length-range_with_len 0 n)) ∙ all_true (rows_of columns n)
    where
      all_true : {X : Type 0} (xs : List X) → replicate (length xs) true ≡ map (λ x. true) xs
      all_true [] = refl
      all_true (x ∷ xs) = ap (λ bs. true ∷ bs) (all_true xs)

  module _ (sieves : List Sieve) (i : ℕ) (s : Sieve) (within : i < length sieves) (is : s ≡ get_or sieves i s) where
    one : (row : Row) → (meets_each (take i sieves) granule row && meets_one granule row s) ≡ meets_each (take (i + 1) sieves) granule row
    one row =
        ap (λ b. meets_each (take i sieves) granule row && b) (sym (and_true (meets_one granule row s)))
        ∙ sym (list_all-append (meets_one granule row) (take i sieves) (s ∷ []))
        ∙ ap (λ x. list_all (meets_one granule row) (take i sieves ++ x ∷ [])) is
        ∙ ap (list_all (meets_one granule row)) (sym (take_more sieves i s within))

    -- with one more that is asked
    pub answers_more : get_or s.granules.now granule false ≡ true → both (answers (take i sieves)) (map (eval s.condition) (rows_of columns n)) ≡ answers (take (i + 1) sieves)
    answers_more asked =
        both_maps (meets_each (take i sieves) granule) (eval s.condition) (rows_of columns n)
        ∙ (λ k. map (λ row. same row k) (rows_of columns n))
      where
        same : (row : Row) → (meets_each (take i sieves) granule row && eval s.condition row) ≡ meets_each (take (i + 1) sieves) granule row
        same row = ap (λ b. meets_each (take i sieves) granule row && (not b || eval s.condition row)) (sym asked) ∙ one row

    -- with one more that is not
    pub answers_same : get_or s.granules.now granule false ≡ false → answers (take i sieves) ≡ answers (take (i + 1) sieves)
    answers_same asked = (λ k. map (λ row. same row k) (rows_of columns n))
      where
        same : (row : Row) → meets_each (take i sieves) granule row ≡ meets_each (take (i + 1) sieves) granule row
        same row = sym (and_true (meets_each (take i sieves) granule row)) ∙ ap (λ b. meets_each (take i sieves) granule row && (not b || eval s.condition row)) (sym asked) ∙ one row

-- ---- where a mask is true

-- at most all answers are
pub true_few : (mask : List Bool) → count_true mask ≤ length mask
true_few [] = omega arith
true_few (true ∷ mask) = let rest = true_few mask in omega (arith, rest)
true_few (false ∷ mask) = let rest = true_few mask in omega (arith, rest)

-- that many items are taken
pub where_count : {X : Type 0} (m : List Bool) (xs : List X) → length m ≡ length xs → length (where_true m xs) ≡ count_true m
where_count [] xs even = refl
where_count (b ∷ m) [] even = absurd (omega (arith, even))
where_count (true ∷ m) (x ∷ xs) even = ap suc (where_count m xs (omega (arith, even)))
where_count (false ∷ m) (x ∷ xs) even = where_count m xs (omega (arith, even))

-- so none where no answer is
pub where_gone : {X : Type 0} (m : List Bool) (xs : List X) → count_true m ≡ 0 → where_true m xs ≡ []
where_gone [] xs none = refl
where_gone (b ∷ m) [] none = refl
where_gone (true ∷ m) (x ∷ xs) none = absurd (omega (arith, none))
where_gone (false ∷ m) (x ∷ xs) none = where_gone m xs none

-- and all where each answer is
pub where_whole : {X : Type 0} (m : List Bool) (xs : List X) → list_all (λ b. b) m ≡ true → length m ≡ length xs → where_true m xs ≡ xs
where_whole [] [] all even = refl
where_whole [] (x ∷ xs) all even = absurd (omega (arith, even))
where_whole (b ∷ m) [] all even = absurd (omega (arith, even))
where_whole (true ∷ m) (x ∷ xs) all even = ap (λ ys. x ∷ ys) (where_whole m xs all (omega (arith, even)))
where_whole (false ∷ m) (x ∷ xs) all even = absurd (false≢true all)

-- a mask made by a test keeps the items that pass it
pub where_filter : {X : Type 0} (f : X → Bool) (xs : List X) → where_true (map f xs) xs ≡ filter f xs
where_filter f [] = refl
where_filter f (x ∷ xs) = by (where_filter f xs) (f x) refl
  where
    by : where_true (map f xs) xs ≡ filter f xs → (b : Bool) → f x ≡ b → where_true (map f (x ∷ xs)) (x ∷ xs) ≡ filter f (x ∷ xs)
    by rest true is =
        ap (λ b. where_true (b ∷ map f xs) (x ∷ xs)) is ∙ ap (λ ys. x ∷ ys) rest ∙ ap (λ b. cond b (x ∷ filter f xs) (filter f xs)) (sym is)
    by rest false is =
        ap (λ b. where_true (b ∷ map f xs) (x ∷ xs)) is ∙ rest ∙ ap (λ b. cond b (x ∷ filter f xs) (filter f xs)) (sym is)

-- ---- how many answers are true

module _ (mask : List Bool) (i : ℕ) (within : i < length mask) where
  pub count_more : get_or mask i false ≡ true → count_true (take (i + 1) mask) ≡ count_true (take i mask) + 1
  count_more is =
      ap length (taken_next mask mask i within refl true is (sym is ∙ get_or_default mask i false true within))
      ∙ length-append (where_true (take i mask) (take i mask)) (true ∷ [])

  pub count_skip : get_or mask i false ≡ false → count_true (take (i + 1) mask) ≡ count_true (take i mask)
  count_skip is = ap length (passed_next mask mask i within refl false is (sym is ∙ get_or_default mask i false false within))
