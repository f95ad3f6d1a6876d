-- The last row, and the last of the rows with the greatest version, as functions.
use Rattle.std.proofs.Common.{◌≡◌, ℕ, ◌<◌, ◌≤◌, Bool, true, false, cond, nat_le, List, [], ◌∷◌, ◌++◌, refl, sym, ap, ◌∙◌, append-nil, le-leb, leb-true, arith}
use Rattle.std.specs.List.{All}
use Rattle.std.proofs.lemmas.List.Elements.{All-head, All-tail}
use Rattle.mt_values.specs.Values.{Row}
use Rattle.mt_model.specs.Rules.{LeavesLast, LeavesNewest, last_of, version_at}

-- ---- the last row

pub last_after : (xs : List Row) (y : Row) (ys : List Row) → last_of (xs ++ y ∷ ys) ≡ last_of (y ∷ ys)
last_after [] y ys = refl
last_after (x ∷ []) y ys = refl
last_after (x ∷ next ∷ xs) y ys = last_after (next ∷ xs) y ys

pub last_is : (rows out : List Row) → LeavesLast rows out → out ≡ last_of rows
last_is rows out h = h.out_is ∙ sym (ap last_of h.rows_are ∙ last_after h.earlier h.last [])

pub last_leaves : (row : Row) (rows : List Row) → LeavesLast (row ∷ rows) (last_of (row ∷ rows))
last_leaves row [] = record { earlier = []; last = row; rows_are = refl; out_is = refl }
last_leaves row (next ∷ rows) =
    let h = last_leaves next rows in
    record { earlier = row ∷ h.earlier; last = h.last; rows_are = ap (λ zs. row ∷ zs) h.rows_are; out_is = h.out_is }

-- ---- the greatest version

not_le : (a b : ℕ) → b < a → nat_le a b ≡ false
not_le a b h = by (nat_le a b) refl
  where
    by : (c : Bool) → nat_le a b ≡ c → c ≡ false
    by true e = let most : a ≤ b = leb-true a b e in absurd (omega arith)
    by false e = refl

module _ (version : ℕ) where
  abbrev number : Row → ℕ
  number row = version_at version row

  -- the row that is kept, after rows more
  abbrev pub newest_from : Row → List Row → Row
  newest_from best [] = best
  newest_from best (row ∷ rows) = cond (nat_le (number best) (number row)) (newest_from row rows) (newest_from best rows)

  abbrev pub newest_of : List Row → List Row
  newest_of [] = []
  newest_of (row ∷ rows) = newest_from row rows ∷ []

  takes_later : (best row : Row) (rows : List Row) → number best ≤ number row → newest_from best (row ∷ rows) ≡ newest_from row rows
  takes_later best row rows h = ap (λ b. cond b (newest_from row rows) (newest_from best rows)) (le-leb (number best) (number row) h)

  keeps_best : (best row : Row) (rows : List Row) → number row < number best → newest_from best (row ∷ rows) ≡ newest_from best rows
  keeps_best best row rows h = ap (λ b. cond b (newest_from row rows) (newest_from best rows)) (not_le (number best) (number row) h)

  -- rows before a row of which none is above it change nothing
  front_drops : (front : List Row) (best row : Row) (rows : List Row) → All (λ r. number r ≤ number row) front → newest_from best (front ++ row ∷ rows) ≡ newest_from best (row ∷ rows)
  front_drops [] best row rows below = refl
  front_drops (x ∷ front) best row rows below = by (nat_le (number best) (number x)) refl (front_drops front x row rows more) (front_drops front best row rows more)
    where
      at_most : number x ≤ number row
      at_most = All-head (λ r. number r ≤ number row) x front below

      more : All (λ r. number r ≤ number row) front
      more = All-tail (λ r. number r ≤ number row) x front below

      by : (b : Bool) → nat_le (number best) (number x) ≡ b → newest_from x (front ++ row ∷ rows) ≡ newest_from x (row ∷ rows) → newest_from best (front ++ row ∷ rows) ≡ newest_from best (row ∷ rows)
          → cond b (newest_from x (front ++ row ∷ rows)) (newest_from best (front ++ row ∷ rows)) ≡ newest_from best (row ∷ rows)
      by true e one other =
          let least : number best ≤ number x = grind arith in
          let whole : number best ≤ number row = omega (arith, at_most) in
          one ∙ takes_later x row rows at_most ∙ sym (takes_later best row rows whole)
      by false e one other = other

  -- rows that are all below the best one change nothing
  back_drops : (best : Row) (back rows : List Row) → All (λ r. number r < number best) back → newest_from best (back ++ rows) ≡ newest_from best rows
  back_drops best [] rows below = refl
  back_drops best (x ∷ back) rows below =
      keeps_best best x (back ++ rows) (All-head (λ r. number r < number best) x back below)
      ∙ back_drops best back rows (All-tail (λ r. number r < number best) x back below)

  -- rows of which a row is the newest count as this row alone
  run_drops : (best : Row) (earlier : List Row) (newest : Row) (later rows : List Row) → All (λ r. number r ≤ number newest) earlier → All (λ r. number r < number newest) later
      → newest_from best (earlier ++ newest ∷ (later ++ rows)) ≡ newest_from best (newest ∷ rows)
  run_drops best earlier newest later rows above below = front_drops earlier best newest (later ++ rows) above ∙ by (nat_le (number best) (number newest)) refl
    where
      all_less : number newest < number best → All (λ r. number r < number best) later
      all_less h = λ k d lt. let one = below k d lt in omega arith

      by : (b : Bool) → nat_le (number best) (number newest) ≡ b → cond b (newest_from newest (later ++ rows)) (newest_from best (later ++ rows)) ≡ cond b (newest_from newest rows) (newest_from best rows)
      by true e = back_drops newest later rows below
      by false e =
          let less : number newest < number best = grind arith in
          back_drops best later rows (all_less less)

  -- the same, where these rows come first
  first_drops : (earlier : List Row) (newest : Row) (later rows : List Row) → All (λ r. number r ≤ number newest) earlier → All (λ r. number r < number newest) later
      → newest_of (earlier ++ newest ∷ (later ++ rows)) ≡ newest_of (newest ∷ rows)
  first_drops [] newest later rows above below = ap (λ r. r ∷ []) (back_drops newest later rows below)
  first_drops (x ∷ earlier) newest later rows above below =
      ap (λ r. r ∷ []) (run_drops x earlier newest later rows (All-tail (λ r. number r ≤ number newest) x earlier above) below
      ∙ takes_later x newest rows (All-head (λ r. number r ≤ number newest) x earlier above))

  branch_same : (b : Bool) (p q r s : Row) → p ≡ r → q ≡ s → cond b p q ≡ cond b r s
  branch_same true p q r s h k = h
  branch_same false p q r s h k = k

  later_drops : (best : Row) (front earlier : List Row) (newest : Row) (later rows : List Row) → All (λ r. number r ≤ number newest) earlier → All (λ r. number r < number newest) later
      → newest_from best (front ++ (earlier ++ newest ∷ (later ++ rows))) ≡ newest_from best (front ++ newest ∷ rows)
  later_drops best [] earlier newest later rows above below = run_drops best earlier newest later rows above below
  later_drops best (y ∷ front) earlier newest later rows above below =
      branch_same (nat_le (number best) (number y))
      (newest_from y (front ++ (earlier ++ newest ∷ (later ++ rows)))) (newest_from best (front ++ (earlier ++ newest ∷ (later ++ rows))))
      (newest_from y (front ++ newest ∷ rows)) (newest_from best (front ++ newest ∷ rows))
      (later_drops y front earlier newest later rows above below) (later_drops best front earlier newest later rows above below)

  pub within_drops : (front earlier : List Row) (newest : Row) (later rows : List Row) → All (λ r. number r ≤ number newest) earlier → All (λ r. number r < number newest) later
      → newest_of (front ++ (earlier ++ newest ∷ (later ++ rows))) ≡ newest_of (front ++ newest ∷ rows)
  within_drops [] earlier newest later rows above below = first_drops earlier newest later rows above below
  within_drops (x ∷ front) earlier newest later rows above below = ap (λ r. r ∷ []) (later_drops x front earlier newest later rows above below)

  pub newest_is : (rows out : List Row) → LeavesNewest version rows out → out ≡ newest_of rows
  newest_is rows out h =
      h.out_is ∙ sym (ap newest_of (h.rows_are ∙ ap (λ zs. h.earlier ++ h.newest ∷ zs) (sym (append-nil h.later)))
      ∙ first_drops h.earlier h.newest h.later [] h.none_above h.all_below)
