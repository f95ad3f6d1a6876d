-- Columns that are shown as they are selected.
use Rattle.std.proofs.Common.{◌≡◌, ℕ, zero, suc, ◌+◌, ◌<◌, List, [], ◌∷◌, ◌++◌, Some, refl, sym, ap, ap₂, ◌∙◌, length, map, get_or, slice_get, filter_map, All, arith, option_and_then}
use Rattle.std.specs.List.{concat, cons_option, flat_map}
use Rattle.std.specs.List.Sorted.{IsSorted}
use Rattle.std.specs.Ordering.{is_lt}
use Rattle.std.proofs.lemmas.List.{get_or-map, length-map}
use Rattle.std.proofs.lemmas.List.Elements.{All-head, All-tail, All-weaker}
use Rattle.std.proofs.lemmas.Option.{slice_get-get_or}
use Rattle.mt_values.specs.Values.{Row}
use Rattle.mt_values.specs.Order.{key_cmp, key_of, row_cmp}
use Rattle.mt_values.specs.Printing.{line}

-- ---- what a list has at places

module _ {X : Type 0} where
  there : (xs : List X) (p : ℕ) → p < length xs → (x : X) × (slice_get xs p ≡ Some x)
  there [] p lt = absurd (omega arith)
  there (x ∷ xs) p lt = (get_or (x ∷ xs) p x, slice_get-get_or (x ∷ xs) p x lt)

  module _ (xs : List X) where
    pub found_at : (places : List ℕ) (i : ℕ) → All (λ p. p < length xs) places → slice_get (filter_map (slice_get xs) places) i ≡ option_and_then (slice_get xs) (slice_get places i)
    found_at [] i within = refl
    found_at (p ∷ ps) zero within =
        let t = there xs p (All-head (λ q. q < length xs) p ps within) in
        ap (λ o. slice_get (cons_option o (filter_map (slice_get xs) ps)) 0) t.1 ∙ sym t.1
    found_at (p ∷ ps) (suc i) within =
        let t = there xs p (All-head (λ q. q < length xs) p ps within) in
        ap (λ o. slice_get (cons_option o (filter_map (slice_get xs) ps)) (suc i)) t.1 ∙ found_at ps i (All-tail (λ q. q < length xs) p ps within)

    -- what is shown of the places that are read is what the selected places have
    pub shown_at : (read shown places : List ℕ) → All (λ p. p < length xs) read → map (slice_get read) shown ≡ map Some places → filter_map (slice_get (filter_map (slice_get xs) read)) shown ≡ filter_map (slice_get xs) places
    shown_at read [] [] within e = refl
    shown_at read [] (p ∷ ps) within e = cc
    shown_at read (i ∷ is) [] within e = cc
    shown_at read (i ∷ is) (p ∷ ps) within e =
        let first : slice_get read i ≡ Some p = cc in
        let rest : map (slice_get read) is ≡ map Some ps = cc in
        ap₂ cons_option (found_at read i within ∙ ap (option_and_then (slice_get xs)) first) (shown_at read is ps within rest)

-- ---- rows

pub rows_shown : (rows : List Row) (read shown places : List ℕ) → All (λ place. All (λ (row : Row). place < length row) rows) read → map (slice_get read) shown ≡ map Some places → map (key_of shown) (map (key_of read) rows) ≡ map (key_of places) rows
rows_shown [] read shown places have e = refl
rows_shown (row ∷ rows) read shown places have e =
    ap₂ (λ (r : Row) (rs : List Row). r ∷ rs)
    (shown_at row read shown places (All-weaker (λ place. All (λ (r : Row). place < length r) (row ∷ rows)) (λ place. place < length row) (λ place all. All-head (λ (r : Row). place < length r) row rows all) read have) e)
    (rows_shown rows read shown places (All-weaker (λ place. All (λ (r : Row). place < length r) (row ∷ rows)) (λ place. All (λ (r : Row). place < length r) rows) (λ place all. All-tail (λ (r : Row). place < length r) row rows all) read have) e)

pub shown_lines : (shown : List ℕ) (rows : List Row) → flat_map (λ row. line (key_of shown row)) rows ≡ concat (map line (map (key_of shown) rows))
shown_lines shown [] = refl
shown_lines shown (row ∷ rows) = ap (λ (ls : List ℕ). line (key_of shown row) ++ ls) (shown_lines shown rows)

-- sorted by the columns that are shown is sorted as rows of these
pub shown_rising : (shown : List ℕ) (rows : List Row) → IsSorted (key_cmp shown) rows → IsSorted row_cmp (map (key_of shown) rows)
shown_rising shown rows up k d low high =
    let long = length-map rows (key_of shown) in
    let more : k + 1 < length rows = omega (arith, high, long) in
    let here : k < length rows = omega (arith, more) in
    ap₂ (λ (a b : Row). is_lt (row_cmp a b)) (get_or-map (key_of shown) rows (k + 1) d d more) (get_or-map (key_of shown) rows k d d here) ∙ up k d low more
