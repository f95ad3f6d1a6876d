-- The last row, and the newest.
use Rattle.std.proofs.Common.{◌≡◌, ◌⊎◌, ℕ, zero, suc, ◌+◌, ◌<◌, ◌≤◌, Bool, true, false, ◌&&◌, nat_le, nat_lt, List, [], ◌∷◌, ◌++◌, drop, get_or, length, take, refl, sym, ap, ap₂, ◌∙◌, subst, inl, inr, arith, add-one, length-append, length-take}
use Rattle.std.specs.List.{Contains}
use Rattle.std.proofs.lemmas.Bool.Decides.{nat_tests}
use Rattle.std.proofs.lemmas.List.Elements.{All-weaker, Contains-append_left, Contains-push, Contains-push_cases}
use Rattle.std.proofs.lemmas.List.Sums.{AllPass-from_list_all, list_all-from_AllPass}
use Rattle.mt_values.specs.Values.{Row}
use Rattle.part_history.specs.mt_model.Rules.{LeavesNewest, version_at}
use Rattle.mt_plain.specs.Outcomes.{AreExactly, are_at_most, are_below}
use Rattle.mt_plain.proofs.Exactly.{exactly_none}

-- ---- the parts of a list at a place

pub parts_at : {X : Type 0} (earlier : List X) (x : X) (later : List X) (d : X)
    → (take (length earlier) (earlier ++ x ∷ later) ≡ earlier) × (get_or (earlier ++ x ∷ later) (length earlier) d ≡ x) × (drop (suc (length earlier)) (earlier ++ x ∷ later) ≡ later)
parts_at [] x later d = (refl, refl, refl)
parts_at (y ∷ earlier) x later d = let p = parts_at earlier x later d in (ap (λ zs. y ∷ zs) p.0, p.1, p.2)

pub whole_at : {X : Type 0} (xs : List X) (i : ℕ) (d : X) → i < length xs → xs ≡ take i xs ++ get_or xs i d ∷ drop (i + 1) xs
whole_at xs i d below = rw add-one (by xs i d below)
  where
    by : {X : Type 0} (xs : List X) (i : ℕ) (d : X) → i < length xs → xs ≡ take i xs ++ get_or xs i d ∷ drop (suc i) xs
    by [] i d below = absurd (omega arith)
    by (x ∷ xs) zero d below = refl
    by (x ∷ xs) (suc i) d below = ap (λ zs. x ∷ zs) (by xs i d (omega arith))

-- ---- the newest

at_most_true : (a b : ℕ) → nat_le a b ≡ true → a ≤ b
at_most_true a b h = grind (arith, nat_tests)

true_at_most : (a b : ℕ) → a ≤ b → nat_le a b ≡ true
true_at_most a b h = grind (arith, nat_tests)

below_true : (a b : ℕ) → nat_lt a b ≡ true → a < b
below_true a b h = grind (arith, nat_tests)

true_below : (a b : ℕ) → a < b → nat_lt a b ≡ true
true_below a b h = grind (arith, nat_tests)

both_true : (a b : Bool) → (a && b) ≡ true → (a ≡ true) × (b ≡ true)
both_true true b h = (refl, h)
both_true false b h = cc

module _ (version : ℕ) (rows : List Row) where
  abbrev number : Row → ℕ
  number row = version_at version row

  -- the row may be left, and it is among the first so many
  abbrev pub IsAmong : ℕ → List Row → Type 0
  IsAmong n out = (h : LeavesNewest version rows out) × (length h.earlier < n)

  -- whether the row between others is the newest
  abbrev pub passes : List Row → Row → List Row → Bool
  passes earlier row later = are_at_most version (number row) earlier && are_below version (number row) later

  newest_from : (n : ℕ) (earlier : List Row) (row : Row) (later : List Row) → length earlier < n → rows ≡ earlier ++ row ∷ later → passes earlier row later ≡ true → IsAmong n (row ∷ [])
  newest_from n earlier row later short is test =
      let two = both_true (are_at_most version (number row) earlier) (are_below version (number row) later) test in (
        record {
          earlier = earlier;
          newest = row;
          later = later;
          rows_are = is;
          none_above = All-weaker (λ r. nat_le (number r) (number row) ≡ true) (λ r. number r ≤ number row) (λ r h. at_most_true (number r) (number row) h) earlier (AllPass-from_list_all (λ r. nat_le (number r) (number row)) earlier two.0);
          all_below = All-weaker (λ r. nat_lt (number r) (number row) ≡ true) (λ r. number r < number row) (λ r h. below_true (number r) (number row) h) later (AllPass-from_list_all (λ r. nat_lt (number r) (number row)) later two.1);
          out_is = refl;
        },
        short,
      )

  newest_passes : (out : List Row) (h : LeavesNewest version rows out) → passes h.earlier h.newest h.later ≡ true
  newest_passes out h =
      let row = h.newest in
      ap₂ (λ a b. a && b)
      (list_all-from_AllPass (λ r. nat_le (number r) (number row)) h.earlier (All-weaker (λ r. number r ≤ number row) (λ r. nat_le (number r) (number row) ≡ true) (λ r k. true_at_most (number r) (number row) k) h.earlier h.none_above))
      (list_all-from_AllPass (λ r. nat_lt (number r) (number row)) h.later (All-weaker (λ r. number r < number row) (λ r. nat_lt (number r) (number row) ≡ true) (λ r k. true_below (number r) (number row) k) h.later h.all_below))

  -- where the newest stands at this place
  newest_at : (i : ℕ) (d : Row) (out : List Row) (h : LeavesNewest version rows out) → length h.earlier ≡ i
      → (passes (take i rows) (get_or rows i d) (drop (i + 1) rows) ≡ true) × (out ≡ get_or rows i d ∷ [])
  newest_at i d out h is =
      let parts = parts_at h.earlier h.newest h.later d in
      let before : take i rows ≡ h.earlier = ap₂ (λ n (rs : List Row). take n rs) (sym is) h.rows_are ∙ parts.0 in
      let one : get_or rows i d ≡ h.newest = ap₂ (λ n (rs : List Row). get_or rs n d) (sym is) h.rows_are ∙ parts.1 in
      let after : drop (i + 1) rows ≡ h.later = rw add-one (ap₂ (λ n (rs : List Row). drop (suc n) rs) (sym is) h.rows_are ∙ parts.2) in
      (ap (λ (rs : List Row). passes rs (get_or rows i d) (drop (i + 1) rows)) before ∙ ap₂ (λ (r : Row) (rs : List Row). passes h.earlier r rs) one after ∙ newest_passes out h, h.out_is ∙ ap (λ r. r ∷ []) (sym one))

  earlier_or_here : (i : ℕ) (out : List Row) → IsAmong (i + 1) out → IsAmong i out ⊎ ((h : LeavesNewest version rows out) × (length h.earlier ≡ i))
  earlier_or_here i out h = by (nat_lt (length earlier) i) refl
    where
      earlier : List Row
      earlier = h.0.earlier

      by : (b : Bool) → nat_lt (length h.0.earlier) i ≡ b → IsAmong i out ⊎ ((k : LeavesNewest version rows out) × (length k.earlier ≡ i))
      by true e = inl (h.0, below_true (length h.0.earlier) i e)
      by false e = let least : i ≤ length h.0.earlier = grind (arith, nat_tests) in let most : length h.0.earlier < i + 1 = h.1 in inr (h.0, omega arith)

  further : (i : ℕ) (out : List Row) → IsAmong i out → IsAmong (i + 1) out
  further i out h = let below : length h.0.earlier < i = h.1 in (h.0, omega arith)

  pub none_yet : AreExactly [] (IsAmong 0)
  none_yet = exactly_none (IsAmong 0) (λ out h. let below : length h.0.earlier < 0 = h.1 in omega arith)

  pub newest_found : (outs : List (List Row)) (i : ℕ) (d row : Row) → i < length rows → row ≡ get_or rows i d → passes (take i rows) row (drop (i + 1) rows) ≡ true
      → AreExactly outs (IsAmong i) → AreExactly (outs ++ (row ∷ []) ∷ []) (IsAmong (i + 1))
  newest_found outs i d row below own test are out = (λ h. into (Contains-push_cases outs (row ∷ []) out h), λ h. back (earlier_or_here i out h))
    where
      here : IsAmong (i + 1) (row ∷ [])
      here =
          let is : rows ≡ take i rows ++ row ∷ drop (i + 1) rows = whole_at rows i d below ∙ ap (λ r. take i rows ++ r ∷ drop (i + 1) rows) (sym own) in
          let short : length (take i rows) < i + 1 = omega (arith, length-take i rows) in
          newest_from (i + 1) (take i rows) row (drop (i + 1) rows) short is test

      into : Contains outs out ⊎ (row ∷ [] ≡ out) → IsAmong (i + 1) out
      into (inl h) = further i out ((are out).0 h)
      into (inr is) = subst (IsAmong (i + 1)) is here

      back : IsAmong i out ⊎ ((h : LeavesNewest version rows out) × (length h.earlier ≡ i)) → Contains (outs ++ (row ∷ []) ∷ []) out
      back (inl h) = Contains-append_left outs ((row ∷ []) ∷ []) out ((are out).1 h)
      back (inr h) = subst (Contains (outs ++ (row ∷ []) ∷ [])) (sym ((newest_at i d out h.0 h.1).1 ∙ ap (λ r. r ∷ []) (sym own))) (Contains-push outs (row ∷ []))

  pub newest_not_here : (outs : List (List Row)) (i : ℕ) (d row : Row) → row ≡ get_or rows i d → passes (take i rows) row (drop (i + 1) rows) ≡ false
      → AreExactly outs (IsAmong i) → AreExactly outs (IsAmong (i + 1))
  newest_not_here outs i d row own test are out = (λ h. further i out ((are out).0 h), λ h. back (earlier_or_here i out h))
    where
      clash : (h : LeavesNewest version rows out) → length h.earlier ≡ i → ⊥
      clash h is =
          let one : passes (take i rows) (get_or rows i d) (drop (i + 1) rows) ≡ true = (newest_at i d out h is).0 in
          let other : passes (take i rows) (get_or rows i d) (drop (i + 1) rows) ≡ false = subst (λ r. passes (take i rows) r (drop (i + 1) rows) ≡ false) own test in
          two_ways one other
        where
          two_ways : {b : Bool} → b ≡ true → b ≡ false → ⊥
          two_ways e f = cc

      back : IsAmong i out ⊎ ((h : LeavesNewest version rows out) × (length h.earlier ≡ i)) → Contains outs out
      back (inl h) = (are out).1 h
      back (inr h) = absurd (clash h.0 h.1)

  pub newest_exactly : (outs : List (List Row)) (n : ℕ) → n ≡ length rows → AreExactly outs (IsAmong n) → AreExactly outs (LeavesNewest version rows)
  newest_exactly outs n all are out = (λ h. ((are out).0 h).0, λ h. (are out).1 (h, among h))
    where
      among : (h : LeavesNewest version rows out) → length h.earlier < n
      among h =
          let long : length rows ≡ length (h.earlier ++ h.newest ∷ h.later) = ap length h.rows_are in
          omega (arith, length-append h.earlier (h.newest ∷ h.later))
