-- Rows in memory, and those of the same inputs that come after them.
use Rattle.std.proofs.Common.{◌≡◌, ℕ, zero, false, List, [], ◌∷◌, ◌++◌, take, refl, ap, ap₂, ◌∙◌, subst, sym}
use Rattle.std.specs.Cmp.{IsTotalOrder}
use Rattle.std.specs.List.{All}
use Rattle.std.specs.List.Sorted.{IsSorted}
use Rattle.std.specs.Ordering.{is_lt}
use Rattle.std.specs.declared.cmp.Ordering.{Ordering}
use Rattle.std.specs.declared.cmp.Ordering.TheVariants.{Less}
use Rattle.std.proofs.lemmas.List.Elements.{All-append, All-cons, All-head, All-nil, All-same, All-tail, All-weaker}
use Rattle.mt_values.specs.Order.{key_cmp}
use Rattle.mt_values.specs.Values.{Row}
use Rattle.row_merge.specs.Merged.{rows_of_all}
use Rattle.row_merge.specs.Merging.{AreReady, IsTaken, TakesFirst, joined}
use Rattle.row_merge.proofs.Keys.{key_total}
use Rattle.row_merge.proofs.Sorted.{Up, at_most_trans, less_then, up_of}

module _ (places : List ℕ) (row : Row) where
  abbrev cmp : Row → Row → Ordering
  cmp = key_cmp places

  o : IsTotalOrder (key_cmp places)
  o = key_total places

  -- the row comes before another one, or that does not come before it
  abbrev Before : Row → Type 0
  Before x = key_cmp places row x ≡ Less

  abbrev NotAfter : Row → Type 0
  NotAfter x = is_lt (key_cmp places x row) ≡ false

  -- what holds of the first row of an input in order holds of all
  pub whole_before : (rows rest : List Row) → (rows ≡ [] → rest ≡ []) → All Before (take 1 rows) → IsSorted cmp (rows ++ rest) → All Before (rows ++ rest)
  whole_before [] rest ready lead sorted = All-same Before rest [] (ready refl) (All-nil Before)
  whole_before (x ∷ xs) rest ready lead sorted =
      let less : key_cmp places row x ≡ Less = All-head Before x (take zero xs) lead in
      let up : Up cmp (x ∷ (xs ++ rest)) = up_of cmp o (x ∷ (xs ++ rest)) sorted in
      All-cons Before x (xs ++ rest) less (All-weaker (λ y. is_lt (cmp y x) ≡ false) Before (λ y k. less_then cmp o row x y less k) (xs ++ rest) up.0)

  whole_not_after : (rows rest : List Row) → (rows ≡ [] → rest ≡ []) → All NotAfter (take 1 rows) → IsSorted cmp (rows ++ rest) → All NotAfter (rows ++ rest)
  whole_not_after [] rest ready lead sorted = All-same NotAfter rest [] (ready refl) (All-nil NotAfter)
  whole_not_after (x ∷ xs) rest ready lead sorted =
      let least : is_lt (key_cmp places x row) ≡ false = All-head NotAfter x (take zero xs) lead in
      let up : Up cmp (x ∷ (xs ++ rest)) = up_of cmp o (x ∷ (xs ++ rest)) sorted in
      All-cons NotAfter x (xs ++ rest) least (All-weaker (λ y. is_lt (cmp y x) ≡ false) NotAfter (λ y k. at_most_trans cmp o row x y least k) (xs ++ rest) up.0)

  -- what holds of the first rows of inputs holds of all their rows
  pub all_not_after : (ahead rests : List (List Row)) → AreReady ahead rests → All (λ others. All NotAfter (take 1 others)) ahead → All (IsSorted cmp) (joined ahead rests) → All NotAfter (rows_of_all (joined ahead rests))
  all_not_after [] rests ready leads sorted = All-nil NotAfter
  all_not_after (rows ∷ ahead) [] ready leads sorted = absurd ready
  all_not_after (rows ∷ ahead) (rest ∷ rests) ready leads sorted =
      All-append NotAfter (rows ++ rest) (rows_of_all (joined ahead rests))
      (whole_not_after rows rest ready.0 (All-head (λ others. All NotAfter (take 1 others)) rows ahead leads) (All-head (IsSorted cmp) (rows ++ rest) (joined ahead rests) sorted))
      (all_not_after ahead rests ready.1 (All-tail (λ others. All NotAfter (take 1 others)) rows ahead leads) (All-tail (IsSorted cmp) (rows ++ rest) (joined ahead rests) sorted))

  taken_around : (front : List (List Row)) (rows : List Row) (back rests : List (List Row)) → AreReady (front ++ (row ∷ rows) ∷ back) rests
      → All (λ others. All Before (take 1 others)) front → All (λ others. All NotAfter (take 1 others)) back → All (IsSorted cmp) (joined (front ++ (row ∷ rows) ∷ back) rests)
      → IsTaken places (joined (front ++ (row ∷ rows) ∷ back) rests) row (joined (front ++ rows ∷ back) rests)
  taken_around [] rows back [] ready before after sorted = absurd ready
  taken_around [] rows back (rest ∷ rests) ready before after sorted =
      let up : Up cmp (row ∷ (rows ++ rest)) = up_of cmp o (row ∷ (rows ++ rest)) (All-head (IsSorted cmp) (row ∷ (rows ++ rest)) (joined back rests) sorted) in
      record {
        front = [];
        rows = rows ++ rest;
        back = joined back rests;
        left_is = refl;
        new_is = refl;
        before = All-nil Before;
        after = All-append NotAfter (rows ++ rest) (rows_of_all (joined back rests)) up.0
            (all_not_after back rests ready.1 after (All-tail (IsSorted cmp) (row ∷ (rows ++ rest)) (joined back rests) sorted));
      }
  taken_around (others ∷ front) rows back [] ready before after sorted = absurd ready
  taken_around (others ∷ front) rows back (rest ∷ rests) ready before after sorted =
      let left = joined (front ++ (row ∷ rows) ∷ back) rests in
      let t = taken_around front rows back rests ready.1 (All-tail (λ xs. All Before (take 1 xs)) others front before) after (All-tail (IsSorted cmp) (others ++ rest) left sorted) in
      record {
        front = (others ++ rest) ∷ t.front;
        rows = t.rows;
        back = t.back;
        left_is = ap (λ zs. (others ++ rest) ∷ zs) t.left_is;
        new_is = ap (λ zs. (others ++ rest) ∷ zs) t.new_is;
        before = All-append Before (others ++ rest) (rows_of_all t.front)
            (whole_before others rest ready.0 (All-head (λ xs. All Before (take 1 xs)) others front before) (All-head (IsSorted cmp) (others ++ rest) left sorted)) t.before;
        after = t.after;
      }

  -- the first row in memory is the next of all, where each input without one has none left
  pub taken_of_all : (ahead rests new : List (List Row)) (input : ℕ) → TakesFirst places ahead input row new → AreReady ahead rests → All (IsSorted cmp) (joined ahead rests)
      → IsTaken places (joined ahead rests) row (joined new rests)
  taken_of_all ahead rests new input t ready sorted =
      subst (λ xs. IsTaken places (joined ahead rests) row (joined xs rests)) (sym t.new_is)
      (subst (λ xs. IsTaken places (joined xs rests) row (joined (t.front ++ t.rows ∷ t.back) rests)) (sym t.ahead_is)
      (taken_around t.front t.rows t.back rests (subst (λ xs. AreReady xs rests) t.ahead_is ready) t.before t.after (subst (λ xs. All (IsSorted cmp) (joined xs rests)) t.ahead_is sorted)))

-- no row is in memory: none is left
pub none_left : (ahead rests : List (List Row)) → AreReady ahead rests → All (λ (rows : List Row). rows ≡ []) ahead → rows_of_all (joined ahead rests) ≡ []
none_left [] rests ready all = refl
none_left (rows ∷ ahead) [] ready all = absurd ready
none_left (rows ∷ ahead) (rest ∷ rests) ready all =
    let none = All-head (λ (xs : List Row). xs ≡ []) rows ahead all in
    ap₂ (λ xs ys. (xs ++ ys) ++ rows_of_all (joined ahead rests)) none (ready.0 none) ∙ none_left ahead rests ready.1 (All-tail (λ (xs : List Row). xs ≡ []) rows ahead all)
