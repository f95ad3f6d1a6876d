-- Bytes of a granule among those that were read ahead.
use Rattle.std.proofs.Common.{◌≡◌, ℕ, zero, suc, ◌+◌, ◌-◌, ◌<◌, ◌≤◌, ◌⊎◌, inl, inr, min, List, [], ◌∷◌, ◌++◌, Option, refl, sym, ap, ◌∙◌, subst, length, length-drop, take, drop, get_or, slice_range, arith, ◌≢◌}
use Rattle.std.proofs.Math.ListN.{set}
use Rattle.std.proofs.lemmas.Bool.{cases_eq, cases_lt}
use Rattle.std.proofs.lemmas.List.{drop-drop, drop_all, get_or-set_other, get_or-set_same, length-set, take-take, take_all, take_at}
use Rattle.mt_base.specs.declared.name.FileId.TheVariants as file
use Rattle.mt_outside.specs.Files.{Files, bytes_of}
use Rattle.part_reader.specs.declared.ahead.Ahead.{Ahead}
use Rattle.part_reader.specs.declared.files.Span.{Span}
use Rattle.part_reader.specs.Ahead.{AreAhead, IsAhead, IsCovered}
use Rattle.part_reader.specs.Granules.{IsSpanRead, PartColumn}

module _ {X : Type 0} where
  take_nil : (k : ℕ) (xs : List X) → xs ≡ [] → take k xs ≡ []
  take_nil zero xs e = refl
  take_nil (suc k) xs e = ap (take (suc k)) e

  drop_take : (n m : ℕ) (xs : List X) → drop n (take m xs) ≡ take (m - n) (drop n xs)
  drop_take zero m xs = let none : m - 0 ≡ m = omega arith in ap (λ k. take k xs) (sym none)
  drop_take (suc n) zero xs = let none : 0 - suc n ≡ 0 = omega arith in ap (λ k. take k (drop (suc n) xs)) (sym none)
  drop_take (suc n) (suc m) [] = sym (take_nil (suc m - suc n) [] refl)
  drop_take (suc n) (suc m) (x ∷ xs) = let same : suc m - suc n ≡ m - n = omega arith in drop_take n m xs ∙ ap (λ k. take k (drop n xs)) (sym same)

  -- between places that are both cut to the length
  pub range_within : (xs : List X) (n m : ℕ) → slice_range xs (min n (length xs)) (min m (length xs)) ≡ slice_range xs n m
  range_within xs n m = either (cases_lt n (length xs))
    where
      either : (n < length xs) ⊎ (length xs ≤ n) → slice_range xs (min n (length xs)) (min m (length xs)) ≡ slice_range xs n m
      either (inl below) =
          let here : min n (length xs) ≡ n = omega (arith, below) in
          ap (λ k. take (min m (length xs) - k) (drop k xs)) here ∙ inside (cases_lt m (length xs))
        where
          inside : (m < length xs) ⊎ (length xs ≤ m) → take (min m (length xs) - n) (drop n xs) ≡ take (m - n) (drop n xs)
          inside (inl lt) = let e : min m (length xs) ≡ m = omega (arith, lt) in ap (λ k. take (k - n) (drop n xs)) e
          inside (inr past) =
              take_all (min m (length xs) - n) (drop n xs) (omega (arith, length-drop n xs, past)) ∙ sym (take_all (m - n) (drop n xs) (omega (arith, length-drop n xs, past)))
      either (inr past) =
          let end : min n (length xs) ≡ length xs = omega (arith, past) in
          let none : min m (length xs) - length xs ≡ 0 = omega arith in
          ap (λ k. take (min m (length xs) - k) (drop k xs)) end ∙ ap (λ k. take k (drop (length xs) xs)) none ∙ sym (take_nil (m - n) [] refl) ∙ sym (ap (take (m - n)) (drop_all n xs past))

  -- a part of a part
  pub range_inside : (xs : List X) (s e a b : ℕ) → s ≤ a → b ≤ e → slice_range (slice_range xs s e) (a - s) (b - s) ≡ slice_range xs a b
  range_inside xs s e a b from to =
      let many : b - s - (a - s) ≡ b - a = omega (arith, from) in
      let place : s + (a - s) ≡ a = omega (arith, from) in
      ap (take (b - s - (a - s))) (drop_take (a - s) (e - s) (drop s xs)) ∙ ap (λ k. take k (take (e - s - (a - s)) (drop (a - s) (drop s xs)))) many
      ∙ take-take (b - a) (e - s - (a - s)) (drop (a - s) (drop s xs)) (omega (arith, from, to))
      ∙ ap (take (b - a)) (drop-drop (a - s) s xs ∙ ap (λ k. drop k xs) place)

-- the bytes of a granule that is covered are those of the file
pub covered_read : (c : PartColumn) (most : ℕ) (ahead : Ahead) (span : Span) (bytes : List ℕ) → IsAhead c.told most c.number ahead → IsCovered ahead span
    → bytes ≡ slice_range ahead.bytes.items (span.start - ahead.span.start) (span.end - ahead.span.start) → IsSpanRead c span bytes
covered_read c most ahead span bytes is covered e files known =
    e ∙ ap (λ bs. slice_range bs (span.start - ahead.span.start) (span.end - ahead.span.start)) (is.read files known)
    ∙ range_inside (bytes_of (file.Column c.number) files) ahead.span.start ahead.span.end span.start span.end covered.start covered.end

-- one of the columns is read on
pub ahead_set : (told : Option Files) (most : ℕ) (places : List ℕ) (aheads after : List Ahead) (i : ℕ) (new : Ahead) → AreAhead told most places aheads → i < length places → after ≡ set aheads i new → IsAhead told most (get_or places i 0) new → AreAhead told most places after
ahead_set told most places aheads after i new are below e is = subst (AreAhead told most places) (sym e) (record {
  even = length-set aheads i new ∙ are.even;
  each = λ k d lt. either k d lt (cases_eq k i);
})
  where
    either : (k : ℕ) (d : Ahead) → k < length places → (k ≡ i) ⊎ (k ≢ i) → IsAhead told most (get_or places k 0) (get_or (set aheads i new) k d)
    either k d lt (inl same) =
        let here : get_or (set aheads i new) k d ≡ new = ap (λ j. get_or (set aheads i new) j d) same ∙ get_or-set_same aheads i new d (omega (arith, below, are.even)) in
        subst (IsAhead told most (get_or places k 0)) (sym here) (subst (λ j. IsAhead told most (get_or places j 0) new) (sym same) is)
    either k d lt (inr other) = subst (IsAhead told most (get_or places k 0)) (sym (get_or-set_other aheads i k new d other)) (are.each k d lt)

-- what was lent out is there again
pub ahead_back : (told : Option Files) (most len : ℕ) (places : List ℕ) (items new : List Ahead) → length items ≡ len → AreAhead told most places items → AreAhead told most places new → AreAhead told most places (take len (new ++ drop (length new) items))
ahead_back told most len places items new is before are =
    subst (AreAhead told most places) (sym (take_at new (drop (length new) items) len (are.even ∙ sym before.even ∙ is))) are
