-- The places of a text whose bytes pass a test, and the first of them.
use Rattle.std.proofs.Common.{◌≡◌, ℕ, zero, suc, ◌+◌, ◌-◌, ◌<◌, ◌≤◌, ◌⊎◌, inl, inr, Bool, true, false, List, [], ◌∷◌, Option, Some, None, length, slice_index, refl, sym, ap, subst, ◌∙◌, arith}
use Rattle.std.proofs.lemmas.Bool.{cases_lt}
use Rattle.memchr.specs.Find.{IsFirstByte, NoneBefore, Nowhere, Passes, TakesFirst, places, places_from}

module _ (test : ℕ → Bool) (hay : List ℕ) where
  not_passed : (i k : ℕ) → test (slice_index hay i) ≡ false → i ≤ k → ¬ (i < k) → ¬ Passes test hay k
  not_passed i k refused low not_after passes =
      let same : i ≡ k = either (cases_lt i k) in
      let here : test (slice_index hay i) ≡ true = ap (λ j. test (slice_index hay j)) same ∙ passes in
      cc
    where
      either : (i < k) ⊎ (k ≤ i) → i ≡ k
      either (inl less) = absurd (not_after less)
      either (inr le) = omega arith

  -- no place passes where there is none among the first n
  none_passes : (i n : ℕ) → places_from test hay i n ≡ [] → Nowhere (Passes test hay) i (i + n)
  unfolding places_from
  none_passes i zero none = λ k low less. absurd (omega arith)
  none_passes i (suc n) none = by (test (slice_index hay i)) refl (none_passes (i + 1) n)
    where
      by : (c : Bool) → test (slice_index hay i) ≡ c → (places_from test hay (i + 1) n ≡ [] → Nowhere (Passes test hay) (i + 1) (i + 1 + n)) → Nowhere (Passes test hay) i (i + suc n)
      by true passes more = let told : i ∷ places_from test hay (i + 1) n ≡ [] = rw passes at none in cc
      by false refused more =
          let told : places_from test hay (i + 1) n ≡ [] = rw refused at none in
          λ k low less. either k low less (more told) (cases_lt i k)
        where
          either : (k : ℕ) → i ≤ k → k < i + suc n → Nowhere (Passes test hay) (i + 1) (i + 1 + n) → (i < k) ⊎ (k ≤ i) → ¬ Passes test hay k
          either k low less rest (inl above) = rest k (omega arith) (omega arith)
          either k low less rest (inr le) = not_passed i k refused low (λ above. omega arith)

  -- the first of them is the first that passes
  first_passes : (i n x : ℕ) (xs : List ℕ) → places_from test hay i n ≡ x ∷ xs → NoneBefore (Passes test hay) i (i + n) x × Passes test hay x
  unfolding places_from
  first_passes i zero x xs is = cc
  first_passes i (suc n) x xs is = by (test (slice_index hay i)) refl (first_passes (i + 1) n x xs)
    where
      by : (c : Bool) → test (slice_index hay i) ≡ c → (places_from test hay (i + 1) n ≡ x ∷ xs → NoneBefore (Passes test hay) (i + 1) (i + 1 + n) x × Passes test hay x) → NoneBefore (Passes test hay) i (i + suc n) x × Passes test hay x
      by true passes more =
          let told : i ∷ places_from test hay (i + 1) n ≡ x ∷ xs = rw passes at is in
          let here : i ≡ x = cc in
          (record { low = omega arith; high = omega arith; before = λ k low less. absurd (omega arith) }, subst (Passes test hay) here passes)
      by false refused more =
          let told : places_from test hay (i + 1) n ≡ x ∷ xs = rw refused at is in
          let rest = more told in
          (record { low = omega (arith, rest.0.low); high = omega (arith, rest.0.high); before = λ k low less. either k low less rest.0.before (cases_lt i k) }, rest.1)
        where
          either : (k : ℕ) → i ≤ k → k < x → Nowhere (Passes test hay) (i + 1) x → (i < k) ⊎ (k ≤ i) → ¬ Passes test hay k
          either k low less before (inl above) = before k (omega arith) less
          either k low less before (inr le) = not_passed i k refused low (λ above. omega arith)

  all_places : places_from test hay 0 (length hay - 0) ≡ places_from test hay 0 (length hay)
  all_places = let size : length hay - 0 ≡ length hay = omega arith in ap (places_from test hay 0) size

  -- no place passes
  pub no_mark : places test hay ≡ [] → Nowhere (Passes test hay) 0 (length hay)
  no_mark none =
      let size : 0 + length hay ≡ length hay = omega arith in
      subst (Nowhere (Passes test hay) 0) size (none_passes 0 (length hay) (sym all_places ∙ none))

  -- the first place that passes
  pub first_mark : (x : ℕ) (xs : List ℕ) → places test hay ≡ x ∷ xs → NoneBefore (Passes test hay) 0 (length hay) x × Passes test hay x
  first_mark x xs is =
      let size : 0 + length hay ≡ length hay = omega arith in
      subst (λ n. NoneBefore (Passes test hay) 0 n x × Passes test hay x) size (first_passes 0 (length hay) x xs (sym all_places ∙ is))

  -- what an iterator over them gives first is the first place that passes
  pub is_first : (taken left : List ℕ) (r : Option ℕ) → taken ≡ places test hay → TakesFirst taken r left → IsFirstByte test hay r
  is_first taken left None all none = no_mark (sym all ∙ none.0)
  is_first taken left (Some x) all first = first_mark x left (sym all ∙ first)
