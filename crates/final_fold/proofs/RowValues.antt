-- Columns that get the values of rows, row by row.
use Rattle.std.proofs.Common.{◌≡◌, ℕ, suc, ◌+◌, ◌<◌, Bool, true, false, cond, List, [], ◌∷◌, ◌++◌, All, append_assoc, append-nil, arith, filter, get_or, length, length-append, map, take, refl, sym, ap, ap₂, ◌∙◌, subst, slice_get, filter_map, Some}
use Rattle.std.specs.List.{cons_option}
use Rattle.std.specs.Option.{option_map}
use Rattle.std.proofs.lemmas.List.{length-map, take_more}
use Rattle.std.proofs.lemmas.List.Elements.{All-cons, All-head, All-nil, All-tail, filter-append, filter_map-append}
use Rattle.std.proofs.lemmas.Option.{same_Some, slice_get-get_or, slice_get-map}
use Rattle.row_merge.specs.column_file.Spellings.{with_values}
use Rattle.mt_values.specs.declared.schema.Column.{Column}
use Rattle.mt_values.specs.declared.schema.Schema.{Schema}
use Rattle.mt_values.specs.declared.value.ColType.{ColType}
use Rattle.mt_values.specs.declared.value.Value.{Value}
use Rattle.mt_values.specs.declared.value.Value.TheVariants as value
use Rattle.mt_values.specs.Grid.{Cells, column_of}
use Rattle.mt_values.specs.Schemas.{column_types}
use Rattle.mt_values.specs.Values.{Row, type_of, types_of}
use Rattle.row_merge.specs.part_reader.Parts.{with_columns}
use Rattle.row_merge.proofs.PartReaderHolding.{each_typed, type_there}
use Rattle.final_fold.specs.Scans.{ArePlacesOf, HaveTypes}

any_value : Value
any_value = value.UInt8 0

-- the value at a place of a row
there : {X : Type 0} (xs : List X) (p : ℕ) → p < length xs → (x : X) × (slice_get xs p ≡ Some x)
there [] p below = absurd (omega arith)
there (x ∷ xs) p below = (get_or (x ∷ xs) p x, slice_get-get_or (x ∷ xs) p x below)

found_many : {X : Type 0} (xs : List X) (places : List ℕ) → All (λ p. p < length xs) places → length (filter_map (slice_get xs) places) ≡ length places
found_many xs [] within = refl
found_many xs (p ∷ ps) within =
    let here = there xs p (All-head (λ q. q < length xs) p ps within) in
    ap (λ o. length (cons_option o (filter_map (slice_get xs) ps))) here.1 ∙ ap suc (found_many xs ps (All-tail (λ q. q < length xs) p ps within))

module _ (row : Row) (places : List ℕ) (columns : List Cells) (within : All (λ place. place < length row) places) (have : map (λ (c : Cells). c.col_type) columns ≡ filter_map (slice_get (types_of row)) places) where
  inside : All (λ place. place < length (types_of row)) places
  inside = subst (λ n. All (λ place. place < n) places) (sym (length-map row type_of)) within

  -- there is a column for each place
  pub row_many : length columns ≡ length places
  row_many = sym (length-map columns (λ (c : Cells). c.col_type)) ∙ ap length have ∙ found_many (types_of row) places inside

  -- the value has the type of its column
  pub row_type : (i : ℕ) (column : Cells) (v : Value) → i < length places → slice_get columns i ≡ Some column → slice_get row (get_or places i 0) ≡ Some v → type_of v ≡ column.col_type
  row_type i column v below column_is is =
      same_Some (type_of v) column.col_type
      (sym (slice_get-map type_of row (get_or places i 0) ∙ ap (option_map type_of) is)
      ∙ type_there (types_of row) places columns i (get_or places i 0) column (each_typed (types_of row) places columns inside have) (slice_get-get_or places i 0 below) column_is)

-- the value of one row in a column
pub one_value : (row : Row) (place : ℕ) (v : Value) → slice_get row place ≡ Some v → column_of place (row ∷ []) ≡ v ∷ []
one_value row place v is = ap (λ o. cons_option o []) is

-- ---- rows one after another

pub with_more : (rows more : List Row) (places : List ℕ) (columns : List Cells) → with_columns more places (with_columns rows places columns) ≡ with_columns (rows ++ more) places columns
with_more rows more [] columns = refl
with_more rows more (p ∷ ps) [] = refl
with_more rows more (p ∷ ps) (c ∷ cs) =
    ap₂ (λ (x : Cells) (xs : List Cells). x ∷ xs)
    (ap (λ vs. let d : Cells = record { col_type = c.col_type; values = vs } in d)
    (append_assoc c.values (column_of p rows) (column_of p more) ∙ ap (λ vs. c.values ++ vs) (sym (filter_map-append (λ (r : Row). slice_get r p) rows more))))
    (with_more rows more ps cs)

pub with_none : (places : List ℕ) (columns : List Cells) → length columns ≡ length places → with_columns [] places columns ≡ columns
with_none [] [] many = refl
with_none [] (c ∷ cs) many = absurd (omega (arith, many))
with_none (p ∷ ps) [] many = refl
with_none (p ∷ ps) (c ∷ cs) many =
    ap₂ (λ (x : Cells) (xs : List Cells). x ∷ xs) (ap (λ vs. let d : Cells = record { col_type = c.col_type; values = vs } in d) (append-nil c.values)) (with_none ps cs (omega (arith, many)))

pub with_types : (rows : List Row) (places : List ℕ) (columns : List Cells) → length columns ≡ length places → map (λ (c : Cells). c.col_type) (with_columns rows places columns) ≡ map (λ (c : Cells). c.col_type) columns
with_types rows [] [] many = refl
with_types rows [] (c ∷ cs) many = absurd (omega (arith, many))
with_types rows (p ∷ ps) [] many = refl
with_types rows (p ∷ ps) (c ∷ cs) many = ap (λ (ts : List ColType). c.col_type ∷ ts) (with_types rows ps cs (omega (arith, many)))

have_values : (place : ℕ) (rows : List Row) → All (λ (r : Row). place < length r) rows → length (column_of place rows) ≡ length rows
have_values place [] all = refl
have_values place (r ∷ rows) all =
    let here : slice_get r place ≡ Some (get_or r place any_value) = slice_get-get_or r place any_value (All-head (λ (x : Row). place < length x) r rows all) in
    ap (λ o. length (cons_option o (column_of place rows))) here ∙ ap suc (have_values place rows (All-tail (λ (x : Row). place < length x) r rows all))

-- each column gets as many values as there are rows
pub with_even : (rows : List Row) (n : ℕ) (places : List ℕ) (columns : List Cells) → length columns ≡ length places → All (λ place. All (λ (r : Row). place < length r) rows) places
    → All (λ (c : Cells). length c.values ≡ n) columns → All (λ (c : Cells). length c.values ≡ n + length rows) (with_columns rows places columns)
with_even rows n [] columns many reach even = All-nil (λ (c : Cells). length c.values ≡ n + length rows)
with_even rows n (p ∷ ps) [] many reach even = All-nil (λ (c : Cells). length c.values ≡ n + length rows)
with_even rows n (p ∷ ps) (c ∷ cs) many reach even =
    All-cons (λ (x : Cells). length x.values ≡ n + length rows) (with_values c (column_of p rows)) (with_columns rows ps cs)
    (length-append c.values (column_of p rows) ∙ ap₂ (λ a b. a + b) (All-head (λ (x : Cells). length x.values ≡ n) c cs even) (have_values p rows (All-head (λ place. All (λ (r : Row). place < length r) rows) p ps reach)))
    (with_even rows n ps cs (omega (arith, many)) (All-tail (λ place. All (λ (r : Row). place < length r) rows) p ps reach) (All-tail (λ (x : Cells). length x.values ≡ n) c cs even))

module _ (f : Row → Bool) (rows : List Row) (i : ℕ) (row : Row) (below : i < length rows) (row_is : row ≡ get_or rows i row) where
  one_more : take (i + 1) rows ≡ take i rows ++ row ∷ []
  one_more = take_more rows i row below ∙ ap (λ r. take i rows ++ r ∷ []) (sym row_is)

  pub passed : f row ≡ true → filter f (take (i + 1) rows) ≡ filter f (take i rows) ++ row ∷ []
  passed is = ap (filter f) one_more ∙ filter-append f (take i rows) (row ∷ []) ∙ ap (λ b. filter f (take i rows) ++ cond b (row ∷ []) []) is

  pub missed : f row ≡ false → filter f (take (i + 1) rows) ≡ filter f (take i rows)
  missed is = ap (filter f) one_more ∙ filter-append f (take i rows) (row ∷ []) ∙ ap (λ b. filter f (take i rows) ++ cond b (row ∷ []) []) is ∙ append-nil (filter f (take i rows))

  -- the columns after one match more
  pub match_added : (places : List ℕ) (olds columns new : List Cells) → f row ≡ true → columns ≡ with_columns (filter f (take i rows)) places olds → new ≡ with_columns (row ∷ []) places columns
      → new ≡ with_columns (filter f (take (i + 1) rows)) places olds
  match_added places olds columns new is are added =
      added ∙ ap (with_columns (row ∷ []) places) are ∙ with_more (filter f (take i rows)) (row ∷ []) places olds ∙ ap (λ rs. with_columns rs places olds) (sym (passed is))

-- a row of the table's types has a value at each of the table's places, of the type of its column
module _ (schema : Schema) (places : List ℕ) (within : ArePlacesOf schema places) (row : Row) (typed : types_of row ≡ column_types schema) where
  wide : length row ≡ length schema.columns
  wide = sym (length-map row type_of) ∙ ap length typed ∙ length-map schema.columns (λ (c : Column). c.col_type)

  pub row_within : All (λ place. place < length row) places
  row_within = subst (λ n. All (λ place. place < n) places) (sym wide) within

  pub row_types : (columns : List Cells) → HaveTypes schema places columns → map (λ (c : Cells). c.col_type) columns ≡ filter_map (slice_get (types_of row)) places
  row_types columns have = have ∙ ap (λ ts. filter_map (slice_get ts) places) (sym typed)

-- all of the rows do
pub rows_reach : (schema : Schema) (places : List ℕ) → ArePlacesOf schema places → (rows : List Row) → All (λ row. types_of row ≡ column_types schema) rows → All (λ place. All (λ (r : Row). place < length r) rows) places
rows_reach schema places within rows typed = λ k d below i e inside. row_within schema places within (get_or rows i e) (typed i e inside) k d below
