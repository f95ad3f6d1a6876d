-- Rows and columns: a column of the rows that columns make, rows picked by an order, and their types.
use Rattle.std.proofs.Common.{◌≡◌, ℕ, zero, suc, ◌+◌, ◌<◌, ◌≤◌, List, [], ◌∷◌, ◌++◌, Option, Some, None, refl, sym, ap, ap₂, ◌∙◌, subst, length, map, get_or, take, drop, slice_get, filter_map, All, arith, add-one, option_and_then, option_map, subst₂}
use Rattle.std.specs.List.{range_with_len, cons_option}
use Rattle.std.specs.List.Sorted.{IsPermutation}
use Rattle.std.proofs.lemmas.List.{length-map, map-id, drop_all, drop_more, take_more}
use Rattle.std.proofs.lemmas.List.FromFn.{length-range_with_len, get_or-range_with_len, get_or-map-range_with_len, map-range_with_len_more, fill_by_all}
use Rattle.std.proofs.lemmas.List.Elements.{All-head, All-tail, All-map, All-cons, All-nil, All-weaker, filter_map-append}
use Rattle.std.proofs.lemmas.List.Sorted.{IsPermutation-map, length_permutation, All-permutation}
use Rattle.std.proofs.lemmas.Option.{slice_get-get_or, slice_get-map, slice_get_within}
use Rattle.mt_values.specs.declared.value.ColType.{ColType}
use Rattle.mt_values.specs.declared.value.Value.{Value}
use Rattle.mt_values.specs.declared.value.Value.TheVariants as value
use Rattle.mt_values.specs.Grid.{Cells, grid_of, row_at, rows_of, column_of, AreOfType, AreRowsOf, HaveTypeAt, picked, IsOrderBy}
use Rattle.mt_values.specs.Values.{Row, type_of, types_of}

-- ---- lists by their places

filter_map_shift : {Y : Type 0} (f g : ℕ → Option Y) (e : (k : ℕ) → f (k + 1) ≡ g k) (a n : ℕ) → filter_map f (range_with_len (a + 1) n) ≡ filter_map g (range_with_len a n)
filter_map_shift f g e a zero = refl
filter_map_shift f g e a (suc n) = ap₂ cons_option (e a) (filter_map_shift f g e (a + 1) n)

-- the items at all places are the list
pub items_at_all : {X : Type 0} (xs : List X) → filter_map (slice_get xs) (range_with_len 0 (length xs)) ≡ xs
items_at_all [] = refl
items_at_all (x ∷ xs) = ap (λ ys. x ∷ ys) (filter_map_shift (slice_get (x ∷ xs)) (slice_get xs) (λ k. ap (slice_get (x ∷ xs)) (add-one k)) 0 (length xs) ∙ items_at_all xs)

-- one place more
pub range_more : (n : ℕ) → range_with_len 0 (n + 1) ≡ range_with_len 0 n ++ n ∷ []
range_more n =
    sym (map-id (range_with_len 0 (n + 1))) ∙ map-range_with_len_more (λ k. k) 0 n n (omega arith) ∙ ap (λ ks. ks ++ n ∷ []) (map-id (range_with_len 0 n))

filter_map_on_range : {Y : Type 0} (f g : ℕ → Option Y) (a n : ℕ) → ((k : ℕ) → a ≤ k → k < a + n → f k ≡ g k) → filter_map f (range_with_len a n) ≡ filter_map g (range_with_len a n)
filter_map_on_range f g a zero e = refl
filter_map_on_range f g a (suc n) e = ap₂ cons_option (e a (omega arith) (omega arith)) (filter_map_on_range f g (a + 1) n (λ k p q. e k (omega arith) (omega arith)))

filter_map-map : {X Y Z : Type 0} (f : Y → Option Z) (g : X → Y) (xs : List X) → filter_map f (map g xs) ≡ filter_map (λ x. f (g x)) xs
filter_map-map f g [] = refl
filter_map-map f g (x ∷ xs) = ap (cons_option (f (g x))) (filter_map-map f g xs)

pub All-range : (P : ℕ → Type 0) (n : ℕ) → ((k : ℕ) → k < n → P k) → All P (range_with_len 0 n)
All-range P n h k d q =
    let below : k < n = omega (arith, length-range_with_len 0 n) in
    subst P (sym (get_or-range_with_len 0 n k d below)) (h (0 + k) (omega arith))

-- one item more of those that f keeps
pub filter_map_more : {X Y : Type 0} (f : X → Option Y) (xs : List X) (i : ℕ) (x : X) (y : Y) → i < length xs → x ≡ get_or xs i x → f x ≡ Some y → filter_map f (take (i + 1) xs) ≡ filter_map f (take i xs) ++ y ∷ []
filter_map_more f xs i x y h e v =
    ap (filter_map f) (take_more xs i x h)
    ∙ filter_map-append f (take i xs) (get_or xs i x ∷ [])
    ∙ ap (λ z. filter_map f (take i xs) ++ cons_option (f z) []) (sym e)
    ∙ ap (λ o. filter_map f (take i xs) ++ cons_option o []) v

-- the same at a place of an order
pub picked_more : {Y : Type 0} (f : ℕ → Option Y) (order : List ℕ) (i : ℕ) (y : Y) → i < length order → f (get_or order i 0) ≡ Some y → filter_map f (take (i + 1) order) ≡ filter_map f (take i order) ++ y ∷ []
picked_more f order i y h v =
    ap (filter_map f) (take_more order i 0 h)
    ∙ filter_map-append f (take i order) (get_or order i 0 ∷ [])
    ∙ ap (λ o. filter_map f (take i order) ++ cons_option o []) v

-- ---- the rows of columns

any_value : Value
any_value = value.UInt8 0

row_at-cons : (c : Cells) (cs : List Cells) (k : ℕ) → k < length c.values → row_at (c ∷ cs) k ≡ get_or c.values k any_value ∷ row_at cs k
row_at-cons c cs k h = ap (λ o. cons_option o (row_at cs k)) (slice_get-get_or c.values k any_value h)

-- the columns have n values each
abbrev pub AreEven : List Cells → ℕ → Type 0
AreEven columns n = All (λ (c : Cells). length c.values ≡ n) columns

even_head : (c : Cells) (cs : List Cells) (n : ℕ) → AreEven (c ∷ cs) n → length c.values ≡ n
even_head c cs n h = All-head (λ (c : Cells). length c.values ≡ n) c cs h

even_tail : (c : Cells) (cs : List Cells) (n : ℕ) → AreEven (c ∷ cs) n → AreEven cs n
even_tail c cs n h = All-tail (λ (c : Cells). length c.values ≡ n) c cs h

-- a row has the value of each column
slice_get-row_at : (columns : List Cells) (n k place : ℕ) (c : Cells) → AreEven columns n → k < n → slice_get columns place ≡ Some c → slice_get (row_at columns k) place ≡ slice_get c.values k
slice_get-row_at [] n k place c even below is = cc
slice_get-row_at (x ∷ xs) n k zero c even below is =
    let within : k < length x.values = omega (arith, even_head x xs n even) in
    let same : x ≡ c = cc in
    ap (λ r. slice_get r 0) (row_at-cons x xs k within) ∙ sym (slice_get-get_or x.values k any_value within) ∙ ap (λ (y : Cells). slice_get y.values k) same
slice_get-row_at (x ∷ xs) n k (suc place) c even below is =
    let within : k < length x.values = omega (arith, even_head x xs n even) in
    ap (λ r. slice_get r (suc place)) (row_at-cons x xs k within) ∙ slice_get-row_at xs n k place c (even_tail x xs n even) below is

-- a column of the rows of columns is that column
pub column_of-rows_of : (columns : List Cells) (n place : ℕ) (c : Cells) → AreEven columns n → slice_get columns place ≡ Some c → length c.values ≡ n → column_of place (rows_of columns n) ≡ c.values
column_of-rows_of columns n place c even is len =
    filter_map-map (λ row. slice_get row place) (row_at columns) (range_with_len 0 n)
    ∙ filter_map_on_range (λ k. slice_get (row_at columns k) place) (slice_get c.values) 0 n (λ k p q. slice_get-row_at columns n k place c even (omega arith) is)
    ∙ ap (λ m. filter_map (slice_get c.values) (range_with_len 0 m)) (sym len)
    ∙ items_at_all c.values

pub length-rows_of : (columns : List Cells) (n : ℕ) → length (rows_of columns n) ≡ n
length-rows_of columns n = length-map (range_with_len 0 n) (row_at columns) ∙ length-range_with_len 0 n

-- the row at a place
pub slice_get-rows_of : (columns : List Cells) (n k : ℕ) → k < n → slice_get (rows_of columns n) k ≡ Some (row_at columns k)
slice_get-rows_of columns n k h =
    let e : k < length (rows_of columns n) = omega (arith, length-rows_of columns n) in
    slice_get-get_or (rows_of columns n) k (row_at columns k) e
    ∙ ap Some (get_or_of_rows k h)
  where
    get_or_of_rows : (k : ℕ) → k < n → get_or (rows_of columns n) k (row_at columns k) ≡ row_at columns k
    get_or_of_rows k h = get_or-map-range_with_len (row_at columns) 0 n k k (row_at columns k) h (omega arith)

types_of-row_at : (columns : List Cells) (n k : ℕ) → AreEven columns n → All AreOfType columns → k < n → types_of (row_at columns k) ≡ map (λ (c : Cells). c.col_type) columns
types_of-row_at [] n k even typed below = refl
types_of-row_at (c ∷ cs) n k even typed below =
    let within : k < length c.values = omega (arith, even_head c cs n even) in
    let here : type_of (get_or c.values k any_value) ≡ c.col_type = All-head AreOfType c cs typed k any_value within in
    ap types_of (row_at-cons c cs k within)
    ∙ ap₂ (λ t ts. t ∷ ts) here (types_of-row_at cs n k (even_tail c cs n even) (All-tail AreOfType c cs typed) below)

-- the rows of typed columns are of their types
pub AreRowsOf-rows_of : (columns : List Cells) (n : ℕ) → AreEven columns n → All AreOfType columns → AreRowsOf (map (λ (c : Cells). c.col_type) columns) (rows_of columns n)
AreRowsOf-rows_of columns n even typed =
    let types = map (λ (c : Cells). c.col_type) columns in
    All-map (λ row. types_of row ≡ types) (row_at columns) (range_with_len 0 n)
    (All-range (λ k. types_of (row_at columns k) ≡ types) n (λ k h. types_of-row_at columns n k even typed h))

-- ---- the columns of rows

-- the columns of these types, from a place on
abbrev pub columns_from : ℕ → List ColType → List Row → List Cells
columns_from i [] rows = []
columns_from i (t ∷ types) rows = record { col_type = t; values = column_of i rows } ∷ columns_from (i + 1) types rows

-- the value of a row at a place is the row's value of that column
pub slice_get-column_of : (i : ℕ) (rows : List Row) (k : ℕ) → All (λ row. i < length row) rows → slice_get (column_of i rows) k ≡ option_and_then (λ row. slice_get row i) (slice_get rows k)
slice_get-column_of i [] k h = refl
slice_get-column_of i (row ∷ rows) zero h =
    let within = All-head (λ row. i < length row) row rows h in
    let e = slice_get-get_or row i any_value within in
    ap (λ o. slice_get (cons_option o (column_of i rows)) 0) e ∙ sym e
slice_get-column_of i (row ∷ rows) (suc k) h =
    let within = All-head (λ row. i < length row) row rows h in
    ap (λ o. slice_get (cons_option o (column_of i rows)) (suc k)) (slice_get-get_or row i any_value within)
    ∙ slice_get-column_of i rows k (All-tail (λ row. i < length row) row rows h)

-- what has the types of a row has its length
length_typed : (types : List ColType) (row : Row) → types_of row ≡ types → length row ≡ length types
length_typed types row e = sym (length-map row type_of) ∙ ap length e

pub lengths_typed : (types : List ColType) (rows : List Row) → AreRowsOf types rows → All (λ row. length row ≡ length types) rows
lengths_typed types rows h = All-weaker (λ row. types_of row ≡ types) (λ row. length row ≡ length types) (λ row e. length_typed types row e) rows h

pub HaveTypeAt-typed : (types : List ColType) (rows : List Row) (place : ℕ) (t : ColType) → AreRowsOf types rows → slice_get types place ≡ Some t → HaveTypeAt place t rows
HaveTypeAt-typed types rows place t h e =
    All-weaker (λ row. types_of row ≡ types) (λ row. slice_get (types_of row) place ≡ Some t) (λ row f. ap (λ ts. slice_get ts place) f ∙ e) rows h

-- a row with a type at a place has a value there
pub within_typed : (place : ℕ) (t : ColType) (row : Row) → slice_get (types_of row) place ≡ Some t → place < length row
within_typed place t row e =
    let w = slice_get_within (types_of row) place t e in
    omega (arith, length-map row type_of)

pub type_at : (place : ℕ) (t : ColType) (row : Row) (v : Value) → slice_get (types_of row) place ≡ Some t → slice_get row place ≡ Some v → type_of v ≡ t
type_at place t row v e f =
    let m = slice_get-map type_of row place in
    let g : option_map type_of (slice_get row place) ≡ Some (type_of v) = ap (option_map type_of) f in
    cc

pub length-column_of : (i : ℕ) (rows : List Row) → All (λ row. i < length row) rows → length (column_of i rows) ≡ length rows
length-column_of i [] h = refl
length-column_of i (row ∷ rows) h =
    ap (λ o. length (cons_option o (column_of i rows))) (slice_get-get_or row i any_value (All-head (λ row. i < length row) row rows h))
    ∙ ap suc (length-column_of i rows (All-tail (λ row. i < length row) row rows h))

-- the rows go on for these many values past a place
abbrev pub HaveLength : ℕ → List Row → Type 0
HaveLength n rows = All (λ row. length row ≡ n) rows

reach : (i n m : ℕ) (rows : List Row) → HaveLength n rows → n ≡ i + suc m → All (λ row. i < length row) rows
reach i n m rows h e = All-weaker (λ row. length row ≡ n) (λ row. i < length row) (λ row l. omega arith) rows h

pub AreEven-columns_from : (i : ℕ) (types : List ColType) (rows : List Row) → HaveLength (i + length types) rows → AreEven (columns_from i types rows) (length rows)
AreEven-columns_from i [] rows h = All-nil (λ (c : Cells). length c.values ≡ length rows)
AreEven-columns_from i (t ∷ types) rows h =
    All-cons (λ (c : Cells). length c.values ≡ length rows) (record { col_type = t; values = column_of i rows }) (columns_from (i + 1) types rows)
    (length-column_of i rows (reach i (i + suc (length types)) (length types) rows h refl))
    (AreEven-columns_from (i + 1) types rows (rw (longer i (length types)) at h))
  where
    longer : (i m : ℕ) → i + suc m ≡ i + 1 + m
    longer i m = omega arith

pub types-columns_from : (i : ℕ) (types : List ColType) (rows : List Row) → map (λ (c : Cells). c.col_type) (columns_from i types rows) ≡ types
types-columns_from i [] rows = refl
types-columns_from i (t ∷ types) rows = ap (λ ts. t ∷ ts) (types-columns_from (i + 1) types rows)

pub columns_from-push : (i : ℕ) (types : List ColType) (t : ColType) (rows : List Row) (place : ℕ) → place ≡ i + length types → columns_from i (types ++ t ∷ []) rows ≡ columns_from i types rows ++ record { col_type = t; values = column_of place rows } ∷ []
columns_from-push i [] t rows place e =
    let same : i ≡ place = omega arith in
    ap (λ j. record { col_type = t; values = column_of j rows } ∷ []) same
columns_from-push i (s ∷ types) t rows place e =
    ap (λ cs. record { col_type = s; values = column_of i rows } ∷ cs) (columns_from-push (i + 1) types t rows place (omega arith))

row_at-columns_from : (i : ℕ) (types : List ColType) (rows : List Row) (k : ℕ) → HaveLength (i + length types) rows → k < length rows → row_at (columns_from i types rows) k ≡ drop i (get_or rows k [])
row_at-columns_from i [] rows k h below =
    let len : length (get_or rows k []) ≡ i + 0 = h k [] below in
    sym (drop_all i (get_or rows k []) (omega arith))
row_at-columns_from i (t ∷ types) rows k h below =
    let row = get_or rows k [] in
    let len : length row ≡ i + suc (length types) = h k [] below in
    let all = reach i (i + suc (length types)) (length types) rows h refl in
    let longer : i + suc (length types) ≡ i + 1 + length types = omega arith in
    let within : i < length row = omega arith in
    let here = slice_get-column_of i rows k all ∙ ap (option_and_then (λ r. slice_get r i)) (slice_get-get_or rows k [] below) ∙ slice_get-get_or row i any_value within in
    ap₂ cons_option here (row_at-columns_from (i + 1) types rows k (subst (λ n. HaveLength n rows) longer h) below)
    ∙ sym (drop_more row i any_value within)

-- the rows of the columns of rows are those rows
pub rows_of-columns_from : (types : List ColType) (rows : List Row) → HaveLength (length types) rows → rows_of (columns_from 0 types rows) (length rows) ≡ rows
rows_of-columns_from types rows h =
    let same : length types ≡ 0 + length types = omega arith in
    sym (fill_by_all (row_at (columns_from 0 types rows)) rows (length rows) [] refl
    (λ k below. sym (row_at-columns_from 0 types rows k (subst (λ n. HaveLength n rows) same h) below)))

-- ---- rows in an order

-- the values of a column of the picked rows are the picked values of the column
pub column_of-picked : (i : ℕ) (rows : List Row) (order : List ℕ) → All (λ row. i < length row) rows → filter_map (slice_get (column_of i rows)) order ≡ column_of i (picked rows order)
column_of-picked i rows [] h = refl
column_of-picked i rows (p ∷ order) h =
    ap₂ cons_option (slice_get-column_of i rows p h) (column_of-picked i rows order h)
    ∙ option_step (slice_get rows p)
  where
    option_step : (o : Option Row) → cons_option (option_and_then (λ row. slice_get row i) o) (column_of i (picked rows order)) ≡ column_of i (cons_option o (picked rows order))
    option_step None = refl
    option_step (Some row) = refl

-- every place of an order is one of a row
pub places_below : (columns : List ℕ) (rows : List Row) (order : List ℕ) → IsOrderBy columns rows order → All (λ p. p < length rows) order
places_below columns rows order by =
    All-permutation (λ p. p < length rows) (range_with_len 0 (length rows)) order by.places (All-range (λ p. p < length rows) (length rows) (λ k h. h))

-- rows at places that they have
pub picked_within : (rows : List Row) (order : List ℕ) → All (λ p. p < length rows) order → picked rows order ≡ map (λ p. get_or rows p []) order
picked_within rows [] h = refl
picked_within rows (p ∷ order) h =
    ap₂ cons_option (slice_get-get_or rows p [] (All-head (λ p. p < length rows) p order h)) (picked_within rows order (All-tail (λ p. p < length rows) p order h))

-- the rows at all places
pub rows_at_all : (rows : List Row) → map (λ p. get_or rows p []) (range_with_len 0 (length rows)) ≡ rows
rows_at_all rows =
    sym (picked_within rows (range_with_len 0 (length rows)) (All-range (λ p. p < length rows) (length rows) (λ k h. h))) ∙ items_at_all rows

-- an order moves the rows and no more
pub IsPermutation-picked : (columns : List ℕ) (rows : List Row) (order : List ℕ) → IsOrderBy columns rows order → IsPermutation rows (picked rows order)
IsPermutation-picked columns rows order by =
    let moved = IsPermutation-map (λ p. get_or rows p []) (range_with_len 0 (length rows)) order by.places in
    rw (picked_within rows order (places_below columns rows order by)) (rw (rows_at_all rows) at moved)

pub length-picked : (columns : List ℕ) (rows : List Row) (order : List ℕ) → IsOrderBy columns rows order → length (picked rows order) ≡ length rows
length-picked columns rows order by = length_permutation rows (picked rows order) (IsPermutation-picked columns rows order by)

pub AreRowsOf-picked : (types : List ColType) (columns : List ℕ) (rows : List Row) (order : List ℕ) → IsOrderBy columns rows order → AreRowsOf types rows → AreRowsOf types (picked rows order)
AreRowsOf-picked types columns rows order by typed =
    All-permutation (λ row. types_of row ≡ types) rows (picked rows order) (IsPermutation-picked columns rows order by) typed

-- ---- rows at places

pub length_picked_within : (rows : List Row) (order : List ℕ) → All (λ p. p < length rows) order → length (picked rows order) ≡ length order
length_picked_within rows order h = ap length (picked_within rows order h) ∙ length-map order (λ p. get_or rows p [])

pub AreRowsOf_picked_within : (types : List ColType) (rows : List Row) (order : List ℕ) → All (λ p. p < length rows) order → AreRowsOf types rows → AreRowsOf types (picked rows order)
AreRowsOf_picked_within types rows order h typed =
    let at = All-map (λ row. types_of row ≡ types) (λ p. get_or rows p []) order (All-weaker (λ p. p < length rows) (λ p. types_of (get_or rows p []) ≡ types) (λ p below. typed p [] below) order h) in
    subst (AreRowsOf types) (sym (picked_within rows order h)) at

module _ (types : List ColType) (rows : List Row) (order : List ℕ) (typed : AreRowsOf types rows) (within : All (λ p. p < length rows) order) where
  lengths : HaveLength (length types) (picked rows order)
  lengths = lengths_typed types (picked rows order) (AreRowsOf_picked_within types rows order within typed)

  -- the columns of picked rows have a value of each
  pub even_picked : (columns : List Cells) → columns ≡ columns_from 0 types (picked rows order) → AreEven columns (length order)
  even_picked columns made =
      let same : length types ≡ 0 + length types = omega arith in
      let all = AreEven-columns_from 0 types (picked rows order) (subst (λ n. HaveLength n (picked rows order)) same lengths) in
      subst₂ AreEven (sym made) (length_picked_within rows order within) all

  -- and they stand for the picked rows
  pub grid_picked : (columns : List Cells) → columns ≡ columns_from 0 types (picked rows order) → grid_of columns (length order) ≡ record { types = types; rows = picked rows order }
  grid_picked columns made =
      ap₂ grid_of made (sym (length_picked_within rows order within))
      ∙ ap₂ (λ ts rs. record { types = ts; rows = rs }) (types-columns_from 0 types (picked rows order)) (rows_of-columns_from types (picked rows order) lengths)
