-- The keys that are kept of rows, column by column.
use Rattle.std.proofs.Common.{◌≡◌, ℕ, zero, suc, ◌+◌, ◌-◌, ◌*◌, ◌<◌, ◌≤◌, List, [], ◌∷◌, ◌++◌, Option, Some, None, refl, sym, ap, ap₂, ◌∙◌, subst, length, map, take, drop, slice_get, get_or, filter_map, All, arith, option_and_then, option_map, suc-mul, mul_comm, mul-le-mul_right}
use Rattle.std.specs.Int.{div_ceil}
use Rattle.std.specs.List.{range_with_len, cons_option}
use Rattle.std.proofs.lemmas.Grind.{div_ceil_times}
use Rattle.std.proofs.lemmas.List.{drop-map, length-map, take_more}
use Rattle.std.proofs.lemmas.List.Elements.{All-head, All-tail, All-nil, All-cons, All-append, All-drop, All-weaker, filter_map-append}
use Rattle.std.proofs.lemmas.Option.{get_or_from_slice_get, slice_get-get_or, slice_get-map, slice_get_within}
use Rattle.mt_values.specs.declared.value.ColType.{ColType}
use Rattle.mt_values.specs.declared.value.Value.{Value}
use Rattle.mt_values.specs.Grid.{AreRowsOf, Cells, column_of, picked, row_at, rows_of}
use Rattle.mt_values.specs.Order.{key_of}
use Rattle.mt_values.specs.Values.{Row}
use Rattle.mt_values.proofs.Grids.{column_of-picked, length-column_of, picked_within, range_more, rows_at_all, slice_get-column_of}
use Rattle.mt_values.proofs.OrderBy.{all_reach}
use Rattle.column_file.specs.Marks.{granule_starts, granules, mark_keys, with_final}
use Rattle.primary_marks.specs.Columns.{HaveKeys}

-- ---- marked places

-- the granules are no more than cover the rows
pub granule_below : (count size granule : ℕ) → 0 < size → granule < div_ceil count size → size * granule < count
granule_below count size granule some below =
    let covers = (div_ceil_times count size some).1 in
    let room : suc granule * size ≤ div_ceil count size * size = mul-le-mul_right size below in
    omega (arith, suc-mul granule size, mul_comm granule size)

module _ {X : Type 0} where
  -- the first of one granule more
  pub starts_more : (size : ℕ) (xs : List X) (granule : ℕ) (x : X) → slice_get xs (size * granule) ≡ Some x → filter_map (λ k. slice_get xs (size * k)) (range_with_len 0 (granule + 1)) ≡ filter_map (λ k. slice_get xs (size * k)) (range_with_len 0 granule) ++ x ∷ []
  starts_more size xs granule x e =
      ap (filter_map (λ k. slice_get xs (size * k))) (range_more granule)
      ∙ filter_map-append (λ k. slice_get xs (size * k)) (range_with_len 0 granule) (granule ∷ [])
      ∙ ap (λ o. filter_map (λ k. slice_get xs (size * k)) (range_with_len 0 granule) ++ cons_option o []) e

  -- the last of a list
  pub last_only : (xs : List X) (x : X) → slice_get xs (length xs - 1) ≡ Some x → drop (length xs - 1) xs ≡ x ∷ []
  last_only [] x e = cc
  last_only (y ∷ []) x e = let same : y ≡ x = cc in ap (λ z. z ∷ []) same
  last_only (y ∷ z ∷ xs) x e =
      let down : length (y ∷ z ∷ xs) - 1 ≡ suc (length (z ∷ xs) - 1) = omega arith in
      ap (λ n. drop n (y ∷ z ∷ xs)) down ∙ last_only (z ∷ xs) x (sym (ap (slice_get (y ∷ z ∷ xs)) down) ∙ e)

-- ---- marked items of a list that is another's, item by item

filter_map-option_map : {X Y Z : Type 0} (f : Y → Z) (h : X → Option Y) (xs : List X) → filter_map (λ x. option_map f (h x)) xs ≡ map f (filter_map h xs)
filter_map-option_map f h [] = refl
filter_map-option_map {X} {Y} {Z} f h (x ∷ xs) = ap (cons_option (option_map f (h x))) (filter_map-option_map f h xs) ∙ one (h x)
  where
    one : (o : Option Y) → cons_option (option_map f o) (map f (filter_map h xs)) ≡ map f (cons_option o (filter_map h xs))
    one None = refl
    one (Some y) = refl

filter_map-same : {X Y : Type 0} (f g : X → Option Y) → ((x : X) → f x ≡ g x) → (xs : List X) → filter_map f xs ≡ filter_map g xs
filter_map-same f g e [] = refl
filter_map-same f g e (x ∷ xs) = ap₂ cons_option (e x) (filter_map-same f g e xs)

pub map-append : {X Y : Type 0} (f : X → Y) (xs ys : List X) → map f (xs ++ ys) ≡ map f xs ++ map f ys
map-append f [] ys = refl
map-append f (x ∷ xs) ys = ap (λ zs. f x ∷ zs) (map-append f xs ys)

pub map-map : {X Y Z : Type 0} (f : Y → Z) (g : X → Y) (xs : List X) → map f (map g xs) ≡ map (λ x. f (g x)) xs
map-map f g [] = refl
map-map f g (x ∷ xs) = ap (λ zs. f (g x) ∷ zs) (map-map f g xs)

-- one item more
pub map_more : {X Y : Type 0} (f : X → Y) (xs : List X) (i : ℕ) (x : X) (old new : List Y) → i < length xs → x ≡ get_or xs i x → old ≡ map f (take i xs) → new ≡ old ++ f x ∷ [] → new ≡ map f (take (i + 1) xs)
map_more f xs i x old new below is so_far e =
    e ∙ ap₂ (λ ys y. ys ++ f y ∷ []) so_far is ∙ sym (map-append f (take i xs) (get_or xs i x ∷ [])) ∙ ap (map f) (sym (take_more xs i x below))

pub with_final-map : {X Y : Type 0} (f : X → Y) (size : ℕ) (xs : List X) → with_final size (map f xs) ≡ map f (with_final size xs)
with_final-map f size xs =
    let len = length-map xs f in
    let starts : granule_starts size (map f xs) ≡ map f (granule_starts size xs) =
    filter_map-same (λ k. slice_get (map f xs) (size * k)) (λ k. option_map f (slice_get xs (size * k))) (λ k. slice_get-map f xs (size * k)) (range_with_len 0 (granules size (length (map f xs))))
    ∙ filter_map-option_map f (λ k. slice_get xs (size * k)) (range_with_len 0 (granules size (length (map f xs))))
    ∙ ap (λ n. map f (filter_map (λ k. slice_get xs (size * k)) (range_with_len 0 (granules size n)))) len in
    ap₂ (λ a b. a ++ b) starts (ap (λ n. drop (n - 1) (map f xs)) len ∙ drop-map f (length xs - 1) xs) ∙ sym (map-append f (granule_starts size xs) (drop (length xs - 1) xs))

All-cons_option : {Y : Type 0} (P : Y → Type 0) (o : Option Y) (ys : List Y) → ((y : Y) → o ≡ Some y → P y) → All P ys → All P (cons_option o ys)
All-cons_option P None ys holds others = others
All-cons_option P (Some y) ys holds others = All-cons P y ys (holds y refl) others

All-filter_map : {X Y : Type 0} (P : Y → Type 0) (h : X → Option Y) → ((x : X) (y : Y) → h x ≡ Some y → P y) → (xs : List X) → All P (filter_map h xs)
All-filter_map P h holds [] = All-nil P
All-filter_map P h holds (x ∷ xs) = All-cons_option P (h x) (filter_map h xs) (holds x) (All-filter_map P h holds xs)

-- what holds of each holds of the marked ones
pub All-with_final : {X : Type 0} (P : X → Type 0) (size : ℕ) (xs : List X) → All P xs → All P (with_final size xs)
All-with_final {X} P size xs h =
    All-append P (granule_starts size xs) (drop (length xs - 1) xs)
    (All-filter_map P (λ k. slice_get xs (size * k)) (λ k y e. there (size * k) y e) (range_with_len 0 (granules size (length xs))))
    (All-drop P (length xs - 1) xs h)
  where
    there : (i : ℕ) (y : X) → slice_get xs i ≡ Some y → P y
    there i y e =
        let within = slice_get_within xs i y e in
        let same : get_or xs i y ≡ y = let s = slice_get-get_or xs i y within in cc in
        subst P same (h i y within)

-- the rows at the marked places of an order are the marked ones of the rows in that order
pub with_final-picked : (size : ℕ) (rows : List Row) (order : List ℕ) → All (λ p. p < length rows) order → picked rows (with_final size order) ≡ with_final size (picked rows order)
with_final-picked size rows order h =
    picked_within rows (with_final size order) (All-with_final (λ p. p < length rows) size order h)
    ∙ sym (with_final-map (λ p. get_or rows p []) size order)
    ∙ ap (with_final size) (sym (picked_within rows order h))

-- ---- keys by columns

abbrev pub values_of : List Cells → List (List Value)
values_of columns = map (λ (c : Cells). c.values) columns

filter_map-map : {X Y Z : Type 0} (f : Y → Option Z) (g : X → Y) (xs : List X) → filter_map f (map g xs) ≡ filter_map (λ x. f (g x)) xs
filter_map-map f g [] = refl
filter_map-map f g (x ∷ xs) = ap (cons_option (f (g x))) (filter_map-map f g xs)

pub map_on_range : {Y : Type 0} (f g : ℕ → Y) (a n : ℕ) → ((k : ℕ) → k < a + n → f k ≡ g k) → map f (range_with_len a n) ≡ map g (range_with_len a n)
map_on_range f g a zero e = refl
map_on_range f g a (suc n) e = ap₂ (λ x xs. x ∷ xs) (e a (omega arith)) (map_on_range f g (a + 1) n (λ k h. e k (omega arith)))

-- each row reaches to the place
abbrev pub Reach : List Row → ℕ → Type 0
Reach rows place = All (λ row. place < length row) rows

key_values : (primary : List ℕ) (rows : List Row) (k : ℕ) → All (Reach rows) primary → k < length rows → filter_map (λ p. slice_get (column_of p rows) k) primary ≡ key_of primary (get_or rows k [])
key_values [] rows k reach below = refl
key_values (p ∷ primary) rows k reach below =
    ap₂ cons_option
    (slice_get-column_of p rows k (All-head (Reach rows) p primary reach) ∙ ap (option_and_then (λ row. slice_get row p)) (slice_get-get_or rows k [] below))
    (key_values primary rows k (All-tail (Reach rows) p primary reach) below)

-- columns with the values that the rows have at the places of a key stand for the rows' keys
pub keys_of_columns : (columns : List Cells) (primary : List ℕ) (rows : List Row) → values_of columns ≡ map (λ p. column_of p rows) primary → All (Reach rows) primary → rows_of columns (length rows) ≡ map (key_of primary) rows
keys_of_columns columns primary rows is reach =
    map_on_range (row_at columns) (λ k. key_of primary (get_or rows k [])) 0 (length rows) (λ k h. each k (omega arith))
    ∙ sym (map-map (key_of primary) (λ k. get_or rows k []) (range_with_len 0 (length rows)))
    ∙ ap (map (key_of primary)) (rows_at_all rows)
  where
    each : (k : ℕ) → k < length rows → row_at columns k ≡ key_of primary (get_or rows k [])
    each k below =
        sym (filter_map-map (λ vs. slice_get vs k) (λ (c : Cells). c.values) columns)
        ∙ ap (filter_map (λ vs. slice_get vs k)) is
        ∙ filter_map-map (λ vs. slice_get vs k) (λ p. column_of p rows) primary
        ∙ key_values primary rows k reach below

-- and have a value for each row
pub columns_have : (columns : List Cells) (primary : List ℕ) (rows : List Row) → values_of columns ≡ map (λ p. column_of p rows) primary → All (Reach rows) primary → HaveKeys columns (length rows)
columns_have [] primary rows is reach = All-nil (λ (c : Cells). length c.values ≡ length rows)
columns_have (c ∷ cs) [] rows is reach = absurd cc
columns_have (c ∷ cs) (p ∷ primary) rows is reach =
    let first : c.values ≡ column_of p rows = cc in
    let others : values_of cs ≡ map (λ q. column_of q rows) primary = cc in
    All-cons (λ (x : Cells). length x.values ≡ length rows) c cs (ap length first ∙ length-column_of p rows (All-head (Reach rows) p primary reach))
    (columns_have cs primary rows others (All-tail (Reach rows) p primary reach))

-- ---- the columns of a block at marked places

-- a column has a value for each row
pub column_length : (types : List ColType) (rows : List Row) (column : ℕ) (values : List Value) → AreRowsOf types rows → column < length types → values ≡ column_of column rows → length values ≡ length rows
column_length types rows column values typed within is = ap length is ∙ length-column_of column rows (all_reach types rows column typed within)

there_holds : {X : Type 0} (P : X → Type 0) (xs : List X) → All P xs → (i : ℕ) (x : X) → slice_get xs i ≡ Some x → P x
there_holds P xs h i x e =
    let within = slice_get_within xs i x e in
    subst P (get_or_from_slice_get xs i x x e) (h i x within)

-- the rows that are picked have a value of each column
pub reach_all : (types : List ColType) (rows : List Row) (order primary : List ℕ) → AreRowsOf types rows → All (λ p. p < length types) primary → All (Reach (picked rows order)) primary
reach_all types rows order primary typed own =
    All-weaker (λ p. p < length types) (Reach (picked rows order)) (λ p h.
    All-filter_map (λ row. p < length row) (slice_get rows) (there_holds (λ row. p < length row) rows (all_reach types rows p typed h)) order) primary own

-- the picked values of a column
pub column_picked : (types : List ColType) (rows : List Row) (order : List ℕ) (column : ℕ) (values picked_values : List Value) → AreRowsOf types rows → column < length types → values ≡ column_of column rows → picked_values ≡ filter_map (slice_get values) order → picked_values ≡ column_of column (picked rows order)
column_picked types rows order column values picked_values typed within is e =
    e ∙ ap (λ vs. filter_map (slice_get vs) order) is ∙ column_of-picked column rows order (all_reach types rows column typed within)

-- one column more
pub values_more : (columns new : List Cells) (column : Cells) (primary : List ℕ) (i p : ℕ) (rows : List Row) → i < length primary → p ≡ get_or primary i p → values_of columns ≡ map (λ q. column_of q rows) (take i primary) → new ≡ columns ++ column ∷ [] → column.values ≡ column_of p rows → values_of new ≡ map (λ q. column_of q rows) (take (i + 1) primary)
values_more columns new column primary i p rows below there so_far e is =
    ap values_of e ∙ map-append (λ (c : Cells). c.values) columns (column ∷ [])
    ∙ ap₂ (λ vs v. vs ++ v ∷ []) so_far is
    ∙ ap (λ q. map (λ q. column_of q rows) (take i primary) ++ column_of q rows ∷ []) there
    ∙ sym (map-append (λ q. column_of q rows) (take i primary) (get_or primary i p ∷ []))
    ∙ ap (map (λ q. column_of q rows)) (sym (take_more primary i p below))

pub length-picked_within : (rows : List Row) (order : List ℕ) → All (λ p. p < length rows) order → length (picked rows order) ≡ length order
length-picked_within rows order h = ap length (picked_within rows order h) ∙ length-map order (λ p. get_or rows p [])

-- the columns stand for the keys that are kept
pub keys_kept : (columns : List Cells) (types : List ColType) (primary : List ℕ) (size : ℕ) (rows : List Row) (order : List ℕ) → AreRowsOf types rows → All (λ p. p < length types) primary → All (λ p. p < length rows) order → values_of columns ≡ map (λ p. column_of p (picked rows (with_final size order))) primary → rows_of columns (length (with_final size order)) ≡ mark_keys primary size (picked rows order)
keys_kept columns types primary size rows order typed own within is =
    ap (rows_of columns) (sym (length-picked_within rows (with_final size order) (All-with_final (λ p. p < length rows) size order within)))
    ∙ keys_of_columns columns primary (picked rows (with_final size order)) is (reach_all types rows (with_final size order) primary typed own)
    ∙ ap (map (key_of primary)) (with_final-picked size rows order within)
