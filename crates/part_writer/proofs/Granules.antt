-- Where granules begin, and which keys are kept, once rows get one granule more.
use Rattle.std.proofs.Common.{◌≡◌, ℕ, zero, suc, ◌+◌, ◌*◌, ◌-◌, ◌<◌, ◌≤◌, List, [], ◌∷◌, ◌++◌, Option, refl, sym, ap, ap₂, ◌∙◌, length, length-append, map, take, drop, slice_get, filter_map, arith, mul_comm, zero-add}
use Rattle.std.proofs.lemmas.Grind.{div_ceil_times}
use Rattle.std.proofs.lemmas.List.{take_all, take-append-le}
use Rattle.std.proofs.lemmas.List.Concat.{flat_map-append}
use Rattle.std.proofs.lemmas.List.FromFn.{map-range_with_len_more}
use Rattle.std.specs.Int.{div_ceil}
use Rattle.std.specs.List.{cons_option, range_with_len}
use Rattle.mt_values.specs.declared.value.Value.{Value}
use Rattle.mt_values.specs.ColumnBytes.{column_bytes, value_bytes}
use Rattle.mt_values.specs.Granules.{granule_starts, granules}
use Rattle.mt_values.specs.Grid.{Cells}
use Rattle.mt_values.specs.Values.{Row}
use Rattle.mt_values.specs.declared.value.ColType.{ColType}
use Rattle.primary_marks.specs.column_file.Granules.{granule_start, marks_of}
use Rattle.primary_marks.proofs.MarkedRows.{starts_more}
use Rattle.skip_index.specs.Blocks.{AreWhole}
use Rattle.skip_index.proofs.Grown.{ceil_more, ceil_whole, column_more, map_range, step_below, times_more}
use Rattle.part_writer.specs.Growing.{columns_of, type_at, with_rows}

-- ---- the bytes of a column

pub bytes_more : (vs ws : List Value) → column_bytes (vs ++ ws) ≡ column_bytes vs ++ column_bytes ws
bytes_more vs ws = flat_map-append value_bytes vs ws

-- ---- where its granules begin

-- the end of the last is the number of bytes
pub marks_end : (g : ℕ) (vs : List Value) → 0 < g → (ms : List ℕ) × (marks_of g vs ≡ ms ++ length (column_bytes vs) ∷ [])
marks_end g vs some =
    let n = div_ceil (length vs) g in
    let ceil = div_ceil_times (length vs) g some in (
      map (granule_start g vs) (range_with_len 0 n),
      map-range_with_len_more (granule_start g vs) 0 n n (zero-add n)
          ∙ ap (λ l. map (granule_start g vs) (range_with_len 0 n) ++ length (column_bytes l) ∷ []) (take_all (g * n) vs (omega (arith, ceil.0, mul_comm n g))),
    )

-- one granule more
pub marks_more : (g : ℕ) (vs ws : List Value) → AreWhole g vs → 0 < length ws → length ws ≤ g → marks_of g (vs ++ ws) ≡ marks_of g vs ++ length (column_bytes (vs ++ ws)) ∷ []
marks_more g vs ws whole one few =
    let n = whole.count in
    let all = vs ++ ws in
    let some : 0 < g = omega arith in
    let before : div_ceil (length vs) g ≡ n = ap (λ l. div_ceil l g) whole.length_is ∙ ceil_whole g n some in
    let many : div_ceil (length all) g ≡ n + 1 = ap (λ l. div_ceil l g) (length-append vs ws ∙ ap (λ l. l + length ws) whole.length_is) ∙ ceil_more g n (length ws) one few in
    let past : length all ≤ g * (n + 1) = omega (arith, length-append vs ws, whole.length_is, times_more g n) in
    let within : (k : ℕ) → k < n + 1 → g * k ≤ length vs = λ k below. omega (arith, step_below g k (n + 1) below, times_more g n, whole.length_is) in
    ap (λ k. map (granule_start g all) (range_with_len 0 (k + 1))) many
    ∙ map-range_with_len_more (granule_start g all) 0 (n + 1) (n + 1) (zero-add (n + 1))
    ∙ ap₂ (λ (ms : List ℕ) (m : ℕ). ms ++ m ∷ [])
    (map_range (granule_start g all) (granule_start g vs) 0 (n + 1) (λ k below. ap (λ l. length (column_bytes l)) (take-append-le (g * k) vs ws (within k (omega arith)))))
    (ap (λ l. length (column_bytes l)) (take_all (g * (n + 1)) all past))
    ∙ ap (λ k. map (granule_start g vs) (range_with_len 0 (k + 1)) ++ length (column_bytes all) ∷ []) (sym before)

-- ---- the rows with which granules begin

filter_range : {Y : Type 0} (f h : ℕ → Option Y) (a n : ℕ) → ((k : ℕ) → k < a + n → f k ≡ h k) → filter_map f (range_with_len a n) ≡ filter_map h (range_with_len a n)
filter_range f h a zero e = refl
filter_range f h a (suc n) e = ap₂ cons_option (e a (omega arith)) (filter_range f h (a + 1) n (λ k below. e k (omega arith)))

module _ {X : Type 0} where
  get_first : (xs ys : List X) (i : ℕ) → i < length xs → slice_get (xs ++ ys) i ≡ slice_get xs i
  get_first [] ys i below = absurd (omega (arith, below))
  get_first (x ∷ xs) ys zero below = refl
  get_first (x ∷ xs) ys (suc i) below = get_first xs ys i (omega (arith, below))

  get_after : (xs ys : List X) (i : ℕ) → i ≡ length xs → slice_get (xs ++ ys) i ≡ slice_get ys 0
  get_after [] ys i e = ap (slice_get ys) e
  get_after (x ∷ xs) ys zero e = absurd (omega (arith, e))
  get_after (x ∷ xs) ys (suc i) e = get_after xs ys i (omega (arith, e))

  -- the first of one granule more
  pub first_more : (g : ℕ) (xs ys : List X) → AreWhole g xs → 0 < length ys → length ys ≤ g → granule_starts g (xs ++ ys) ≡ granule_starts g xs ++ take 1 ys
  first_more g xs [] whole one few = absurd (omega arith)
  first_more g xs (y ∷ ys) whole one few =
      let n = whole.count in
      let all : List X = xs ++ y ∷ ys in
      let positive : 0 < g = omega arith in
      let many : granules g (length all) ≡ n + 1 = ap (λ l. div_ceil l g) (length-append xs (y ∷ ys) ∙ ap (λ l. l + length (y ∷ ys)) whole.length_is) ∙ ceil_more g n (length (y ∷ ys)) one few in
      let before : granules g (length xs) ≡ n = ap (λ l. div_ceil l g) whole.length_is ∙ ceil_whole g n positive in
      ap (λ k. filter_map (λ i. slice_get all (g * i)) (range_with_len 0 k)) many
      ∙ starts_more g all n y (get_after xs (y ∷ ys) (g * n) (sym whole.length_is))
      ∙ ap (λ l. l ++ y ∷ [])
      (filter_range (λ i. slice_get all (g * i)) (λ i. slice_get xs (g * i)) 0 n (λ k below. get_first xs (y ∷ ys) (g * k) (omega (arith, step_below g k n (omega arith), whole.length_is)))
      ∙ ap (λ k. filter_map (λ i. slice_get xs (g * i)) (range_with_len 0 k)) (sym before))

  -- the last of all is that of the last granule
  pub last_of : (xs ys : List X) → 0 < length ys → drop (length (xs ++ ys) - 1) (xs ++ ys) ≡ drop (length ys - 1) ys
  last_of [] ys one = refl
  last_of (x ∷ xs) ys one =
      let down : length (x ∷ xs ++ ys) - 1 ≡ suc (length (xs ++ ys) - 1) = omega (arith, length-append xs ys) in
      ap (λ k. drop k (x ∷ xs ++ ys)) down ∙ last_of xs ys one

-- ---- columns that get rows

pub rows_more : (types : List ColType) (places : List ℕ) (rows more : List Row) → with_rows more places (columns_of types places rows) ≡ columns_of types places (rows ++ more)
rows_more types [] rows more = refl
rows_more types (p ∷ ps) rows more =
    ap₂ (λ (vs : List Value) (cs : List Cells). record { col_type = type_at types p; values = vs } ∷ cs) (sym (column_more p rows more)) (rows_more types ps rows more)

pub columns_types : (types : List ColType) (places : List ℕ) (rows : List Row) → map (λ (c : Cells). c.col_type) (columns_of types places rows) ≡ map (type_at types) places
columns_types types [] rows = refl
columns_types types (p ∷ ps) rows = ap (λ ts. type_at types p ∷ ts) (columns_types types ps rows)
