-- Rows that are lent, one by one.
use Rattle.std.proofs.Common.{◌≡◌, ℕ, ◌+◌, ◌-◌, ◌<◌, ◌≤◌, suc, Bool, true, false, cond, is_gt, List, [], ◌∷◌, ◌++◌, length, drop, take, get_or, drop-cons, add-one, length-drop, refl, sym, ap, ◌∙◌, arith}
use Rattle.std.specs.Borrow.{Bor}
use Rattle.std.specs.List.{All, prefix_len}
use Rattle.std.specs.Ordering.{is_le}
use Rattle.std.specs.declared.cmp.Ordering.{Ordering}
use Rattle.std.specs.declared.cmp.Ordering.TheVariants.{Less, Equal, Greater}
use Rattle.std.proofs.lemmas.List.{drop-map, map-append, take-map, take_all, take_more}
use Rattle.std.proofs.lemmas.List.Elements.{All-drop, All-head, All-same, All-take}
use Rattle.mt_values.specs.Order.{key_cmp}
use Rattle.mt_values.specs.Values.{Row}
use Rattle.row_merge.specs.Merged.{rows_of}

-- the rest of a slice
pub rest_is : (rows : List (Bor Row)) (at : ℕ) → at ≤ length rows → take (length rows - at) (drop at rows) ≡ drop at rows
rest_is rows at within = take_all (length rows - at) (drop at rows) (omega (arith, length-drop at rows))

pub back_of : (n : ℕ) (rows : List (Bor Row)) → rows_of (drop n rows) ≡ drop n (rows_of rows)
back_of n rows = sym (drop-map (λ row. row.now) n rows)

pub front_of : (n : ℕ) (rows : List (Bor Row)) → rows_of (take n rows) ≡ take n (rows_of rows)
front_of n rows = sym (take-map (λ row. row.now) n rows)

pub next_is : (rows : List (Bor Row)) (i : ℕ) (row : Bor Row) → i < length rows → row ≡ get_or rows i row → rows_of (drop i rows) ≡ row.now ∷ rows_of (drop (i + 1) rows)
next_is rows i row below is =
    ap rows_of (drop-cons rows i row below) ∙ ap (λ r. rows_of (r ∷ drop (suc i) rows)) (sym is) ∙ ap (λ n. row.now ∷ rows_of (drop n rows)) (sym (add-one i))

pub all_back : (P : Row → Type 0) (rows : List (Bor Row)) (n : ℕ) → All P (rows_of rows) → All P (rows_of (drop n rows))
all_back P rows n h = All-same P (rows_of (drop n rows)) (drop n (rows_of rows)) (back_of n rows) (All-drop P n (rows_of rows) h)

pub all_at : (P : Row → Type 0) (rows : List (Bor Row)) (i : ℕ) (row : Bor Row) → i < length rows → row ≡ get_or rows i row → All P (rows_of rows) → P row.now
all_at P rows i row below is h =
    All-head P row.now (rows_of (drop (i + 1) rows)) (All-same P (row.now ∷ rows_of (drop (i + 1) rows)) (rows_of (drop i rows)) (sym (next_is rows i row below is)) (all_back P rows i h))

-- ---- how many do not come after a row

gt_is_not_le : (r : Ordering) → is_gt r ≡ true → is_le r ≡ false
gt_is_not_le Less h = cc
gt_is_not_le Equal h = cc
gt_is_not_le Greater h = refl

not_gt_is_le : (r : Ordering) → is_gt r ≡ false → is_le r ≡ true
not_gt_is_le Less h = refl
not_gt_is_le Equal h = refl
not_gt_is_le Greater h = cc

module _ (places : List ℕ) (row : Row) where
  abbrev pub up_to : Row → Bool
  up_to other = is_le (key_cmp places other row)

  next_count : (rows : List (Bor Row)) (i : ℕ) (other : Bor Row) (b : Bool) → i < length rows → other ≡ get_or rows i other → up_to other.now ≡ b
      → prefix_len up_to (rows_of (drop i rows)) ≡ cond b (1 + prefix_len up_to (rows_of (drop (i + 1) rows))) 0
  next_count rows i other b below is e =
      ap (prefix_len up_to) (next_is rows i other below is) ∙ ap (λ c. cond c (1 + prefix_len up_to (rows_of (drop (i + 1) rows))) 0) e

  pub count_stops : (rows : List (Bor Row)) (i count : ℕ) (other : Bor Row) (found : Ordering) → i < length rows → other ≡ get_or rows i other → found ≡ key_cmp places other.now row → is_gt found ≡ true
      → prefix_len up_to (rows_of rows) ≡ count + prefix_len up_to (rows_of (drop i rows)) → count ≡ prefix_len up_to (rows_of rows)
  count_stops rows i count other found below is order greater so_far =
      let none = next_count rows i other false below is (ap is_le (sym order) ∙ gt_is_not_le found greater) in
      omega arith

  pub count_goes_on : (rows : List (Bor Row)) (i count : ℕ) (other : Bor Row) (found : Ordering) → i < length rows → other ≡ get_or rows i other → found ≡ key_cmp places other.now row → is_gt found ≡ false
      → prefix_len up_to (rows_of rows) ≡ count + prefix_len up_to (rows_of (drop i rows)) → prefix_len up_to (rows_of rows) ≡ (count + 1) + prefix_len up_to (rows_of (drop (i + 1) rows))
  count_goes_on rows i count other found below is order not_greater so_far =
      let one = next_count rows i other true below is (ap is_le (sym order) ∙ not_gt_is_le found not_greater) in
      omega arith

-- ---- the rows so far, and one more

pub front_and_next : (rows : List (Bor Row)) (i : ℕ) (row : Bor Row) → i < length rows → row ≡ get_or rows i row → rows_of (take (i + 1) rows) ≡ rows_of (take i rows) ++ row.now ∷ []
front_and_next rows i row below is =
    ap rows_of (take_more rows i row below ∙ ap (λ r. take i rows ++ r ∷ []) (sym is)) ∙ map-append (λ r. r.now) (take i rows) (row ∷ [])

pub all_front : (P : Row → Type 0) (rows : List (Bor Row)) (n : ℕ) → All P (rows_of rows) → All P (rows_of (take n rows))
all_front P rows n h = All-same P (rows_of (take n rows)) (take n (rows_of rows)) (front_of n rows) (All-take P n (rows_of rows) h)
