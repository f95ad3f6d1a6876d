-- Columns that got one value each: their rows are those that they had, and one row more.
use Rattle.std.proofs.Common.{◌≡◌, ℕ, zero, suc, ◌+◌, ◌<◌, List, [], ◌∷◌, ◌++◌, Some, refl, sym, ap, ap₂, ◌∙◌, length, slice_get, get_or, arith}
use Rattle.std.specs.List.{cons_option}
use Rattle.std.proofs.lemmas.List.{length_push}
use Rattle.std.proofs.lemmas.List.FromFn.{map-range_with_len_more, fill_by_all}
use Rattle.std.proofs.lemmas.List.Elements.{All-nil, All-cons, All-head, All-tail}
use Rattle.std.proofs.lemmas.Option.{get_or_from_slice_get}
use Rattle.mt_values.specs.Grid.{Cells, row_at, rows_of}
use Rattle.mt_values.specs.Values.{Row}
use Rattle.mt_values.proofs.Grids.{AreEven, length-rows_of, slice_get-rows_of}
use Rattle.tsv_fields.specs.Columns.{types_in, with_last, with_row_last}

pub types_in-with_row_last : (columns : List Cells) (row : Row) → length row ≡ length columns → types_in (with_row_last columns row) ≡ types_in columns
types_in-with_row_last [] row len = refl
types_in-with_row_last (c ∷ cs) [] len = absurd (omega arith)
types_in-with_row_last (c ∷ cs) (v ∷ vs) len = ap (λ ts. c.col_type ∷ ts) (types_in-with_row_last cs vs (omega arith))

pub AreEven-with_row_last : (n : ℕ) (columns : List Cells) (row : Row) → AreEven columns n → length row ≡ length columns → AreEven (with_row_last columns row) (n + 1)
AreEven-with_row_last n [] row even len = All-nil (λ (c : Cells). length c.values ≡ n + 1)
AreEven-with_row_last n (c ∷ cs) [] even len = absurd (omega arith)
AreEven-with_row_last n (c ∷ cs) (v ∷ vs) even len =
    let here : length c.values ≡ n = All-head (λ (x : Cells). length x.values ≡ n) c cs even in
    All-cons (λ (x : Cells). length x.values ≡ n + 1) (with_last c v) (with_row_last cs vs) (omega (arith, length_push c.values v))
    (AreEven-with_row_last n cs vs (All-tail (λ (x : Cells). length x.values ≡ n) c cs even) (omega arith))

slice_get_before : {X : Type 0} (xs : List X) (y : X) (k : ℕ) → k < length xs → slice_get (xs ++ y ∷ []) k ≡ slice_get xs k
slice_get_before [] y k below = absurd (omega arith)
slice_get_before (x ∷ xs) y zero below = refl
slice_get_before (x ∷ xs) y (suc k) below = slice_get_before xs y k (omega arith)

slice_get_last : {X : Type 0} (xs : List X) (y : X) (k : ℕ) → length xs ≡ k → slice_get (xs ++ y ∷ []) k ≡ Some y
slice_get_last [] y zero same = refl
slice_get_last [] y (suc k) same = absurd (omega arith)
slice_get_last (x ∷ xs) y zero same = absurd (omega arith)
slice_get_last (x ∷ xs) y (suc k) same = slice_get_last xs y k (omega arith)

-- the rows that there were
row_at_before : (n k : ℕ) (columns : List Cells) (row : Row) → k < n → AreEven columns n → length row ≡ length columns → row_at (with_row_last columns row) k ≡ row_at columns k
row_at_before n k [] row below even len = refl
row_at_before n k (c ∷ cs) [] below even len = absurd (omega arith)
row_at_before n k (c ∷ cs) (v ∷ vs) below even len =
    let here : length c.values ≡ n = All-head (λ (x : Cells). length x.values ≡ n) c cs even in
    ap₂ cons_option (slice_get_before c.values v k (omega arith))
    (row_at_before n k cs vs below (All-tail (λ (x : Cells). length x.values ≡ n) c cs even) (omega arith))

-- the new one
pub row_at_last : (n : ℕ) (columns : List Cells) (row : Row) → AreEven columns n → length row ≡ length columns → row_at (with_row_last columns row) n ≡ row
row_at_last n [] [] even len = refl
row_at_last n [] (v ∷ vs) even len = absurd (omega arith)
row_at_last n (c ∷ cs) [] even len = absurd (omega arith)
row_at_last n (c ∷ cs) (v ∷ vs) even len =
    ap₂ cons_option (slice_get_last c.values v n (All-head (λ (x : Cells). length x.values ≡ n) c cs even))
    (row_at_last n cs vs (All-tail (λ (x : Cells). length x.values ≡ n) c cs even) (omega arith))

-- one row more
pub rows_of-with_row_last : (n : ℕ) (columns : List Cells) (row : Row) → AreEven columns n → length row ≡ length columns → rows_of (with_row_last columns row) (n + 1) ≡ rows_of columns n ++ row ∷ []
rows_of-with_row_last n columns row even len =
    let new = row_at (with_row_last columns row) in
    let same : (k : ℕ) → k < n → get_or (rows_of columns n) k [] ≡ new k =
    λ k below. get_or_from_slice_get (rows_of columns n) k (row_at columns k) [] (slice_get-rows_of columns n k below) ∙ sym (row_at_before n k columns row below even len) in
    map-range_with_len_more new 0 n n (omega arith)
    ∙ ap₂ (λ rows r. rows ++ r ∷ []) (sym (fill_by_all new (rows_of columns n) n [] (length-rows_of columns n) same)) (row_at_last n columns row even len)
