-- Items of the chosen granules of a list.
use Rattle.std.proofs.Common.{◌≡◌, ℕ, zero, suc, ◌+◌, ◌-◌, ◌*◌, ◌<◌, ◌≤◌, min, Bool, true, false, List, [], ◌∷◌, ◌++◌, Option, Some, refl, sym, ap, ap₂, ◌∙◌, length, length-append, length-take, length-drop, take, drop, replicate, get_or, slice_get, filter_map, arith, append_assoc, append-nil, mul-zero, mul-suc}
use Rattle.std.specs.List.{cons_option, range_with_len}
use Rattle.std.proofs.Math.Seq.{take-add}
use Rattle.std.proofs.lemmas.List.{drop-drop, length-map, replicate_more, take_more}
use Rattle.std.proofs.lemmas.List.Elements.{All-head, All-tail, filter_map-append}
use Rattle.std.proofs.lemmas.List.FromFn.{length-range_with_len}
use Rattle.std.proofs.lemmas.Option.{slice_get-get_or}
use Rattle.mt_values.specs.declared.value.ColType.{ColType}
use Rattle.mt_values.specs.declared.value.Value.{Value}
use Rattle.mt_values.specs.declared.value.Value.TheVariants as value
use Rattle.mt_values.specs.Grid.{AreRowsOf, column_of}
use Rattle.mt_values.specs.Values.{Row, type_of, types_of}
use Rattle.part_reader.specs.declared.runs.Run.{Run}
use Rattle.part_reader.specs.Granules.{IsChosenRun, chosen_count, chosen_of}

-- ---- chosen granules, one list of them after another

module _ {X : Type 0} (g : ℕ) where
  drop_none : (xs : List X) → drop (g * 0) xs ≡ xs
  drop_none xs = ap (λ n. drop n xs) (mul-zero g)

  drop_next : (n : ℕ) (xs : List X) → drop (g * n) (drop g xs) ≡ drop (g * suc n) xs
  drop_next n xs = drop-drop (g * n) g xs ∙ ap (λ m. drop m xs) (omega (arith, mul-suc g n))

  pub chosen_append : (cs bs : List Bool) (xs : List X) → chosen_of g (cs ++ bs) xs ≡ chosen_of g cs xs ++ chosen_of g bs (drop (g * length cs) xs)
  chosen_append [] bs xs = ap (chosen_of g bs) (sym (drop_none xs))
  chosen_append (true ∷ cs) bs xs =
      ap (λ l. take g xs ++ l) (chosen_append cs bs (drop g xs)) ∙ sym (append_assoc (take g xs) (chosen_of g cs (drop g xs)) (chosen_of g bs (drop (g * length cs) (drop g xs))))
      ∙ ap (λ l. (take g xs ++ chosen_of g cs (drop g xs)) ++ chosen_of g bs l) (drop_next (length cs) xs)
  chosen_append (false ∷ cs) bs xs =
      chosen_append cs bs (drop g xs) ∙ ap (λ l. chosen_of g cs (drop g xs) ++ chosen_of g bs l) (drop_next (length cs) xs)

  -- granules that are all chosen are a front
  pub chosen_all : (k : ℕ) (xs : List X) → chosen_of g (replicate k true) xs ≡ take (g * k) xs
  chosen_all zero xs = ap (λ n. take n xs) (sym (mul-zero g))
  chosen_all (suc k) xs =
      ap (λ l. take g xs ++ l) (chosen_all k (drop g xs)) ∙ sym (take-add g (g * k) xs) ∙ ap (λ n. take n xs) (omega (arith, mul-suc g k))

  -- how many items they have depends on how many there are
  pub chosen_length : {Y : Type 0} (chosen : List Bool) (xs : List X) (ys : List Y) → length xs ≡ length ys → length (chosen_of g chosen xs) ≡ length (chosen_of g chosen ys)
  chosen_length [] xs ys even = refl
  chosen_length (true ∷ chosen) xs ys even =
      let rest : length (chosen_of g chosen (drop g xs)) ≡ length (chosen_of g chosen (drop g ys)) = chosen_length chosen (drop g xs) (drop g ys) (length-drop g xs ∙ ap (λ n. n - g) even ∙ sym (length-drop g ys)) in
      length-append (take g xs) (chosen_of g chosen (drop g xs)) ∙ ap₂ ◌+◌ (length-take g xs ∙ ap (min g) even ∙ sym (length-take g ys)) rest ∙ sym (length-append (take g ys) (chosen_of g chosen (drop g ys)))
  chosen_length (false ∷ chosen) xs ys even = chosen_length chosen (drop g xs) (drop g ys) (length-drop g xs ∙ ap (λ n. n - g) even ∙ sym (length-drop g ys))

  -- a run more
  pub chosen_run : (chosen : List Bool) (run : Run) (xs : List X) → IsChosenRun chosen run → chosen_of g (take (run.first + run.count) chosen) xs ≡ chosen_of g (take run.first chosen) xs ++ take (g * run.count) (drop (g * run.first) xs)
  chosen_run chosen run xs r =
      let front : length (take run.first chosen) ≡ run.first = omega (arith, length-take run.first chosen, r.within) in
      ap (λ l. chosen_of g l xs) r.all ∙ chosen_append (take run.first chosen) (replicate run.count true) xs
      ∙ ap (λ l. chosen_of g (take run.first chosen) xs ++ l) (chosen_all run.count (drop (g * length (take run.first chosen)) xs) ∙ ap (λ n. take (g * run.count) (drop (g * n) xs)) front)

  -- a granule that is not chosen
  pub chosen_skip : (chosen : List Bool) (granule : ℕ) (xs : List X) → granule < length chosen → get_or chosen granule false ≡ false → chosen_of g (take (granule + 1) chosen) xs ≡ chosen_of g (take granule chosen) xs
  chosen_skip chosen granule xs below not =
      ap (λ l. chosen_of g l xs) (take_more chosen granule false below ∙ ap (λ b. take granule chosen ++ b ∷ []) not)
      ∙ chosen_append (take granule chosen) (false ∷ []) xs ∙ append-nil (chosen_of g (take granule chosen) xs)

-- the granules since the last one that was not chosen
pub run_more : (chosen : List Bool) (first granule : ℕ) → first ≤ granule → granule < length chosen → get_or chosen granule false ≡ true → take granule chosen ≡ take first chosen ++ replicate (granule - first) true → take (granule + 1) chosen ≡ take first chosen ++ replicate (granule + 1 - first) true
run_more chosen first granule before below is all =
    take_more chosen granule false below ∙ ap₂ (λ (l : List Bool) (b : Bool). l ++ b ∷ []) all is ∙ append_assoc (take first chosen) (replicate (granule - first) true) (true ∷ [])
    ∙ ap (λ l. take first chosen ++ l) (replicate_more (granule - first) true ∙ ap (λ n. replicate n true) (omega (arith, before)))

pub run_none : (chosen : List Bool) (n : ℕ) → take n chosen ≡ take n chosen ++ replicate (n - n) true
run_none chosen n = let none : n - n ≡ 0 = omega arith in sym (ap (λ k. take n chosen ++ replicate k true) none ∙ append-nil (take n chosen))

pub run_since : (chosen : List Bool) (run : Run) (granule : ℕ) → run.first ≤ granule → granule ≤ length chosen → run.count ≡ granule - run.first → take granule chosen ≡ take run.first chosen ++ replicate (granule - run.first) true → IsChosenRun chosen run
run_since chosen run granule before within counted all =
    let end : granule ≡ run.first + run.count = omega (arith, before, counted) in
    record {
      within = omega (arith, within, end);
      all = ap (λ n. take n chosen) (sym end) ∙ all ∙ ap (λ n. take run.first chosen ++ replicate n true) (sym counted);
    }

-- ---- a column of rows

-- a function gives something of each item
abbrev pub IsFull : {X Y : Type 0} → (X → Option Y) → List X → Type 0
IsFull f [] = Unit {0}
IsFull {X} {Y} f (x ∷ xs) = ((y : Y) × (f x ≡ Some y)) × IsFull f xs

module _ {X Y : Type 0} (f : X → Option Y) where
  full_drop : (n : ℕ) (xs : List X) → IsFull f xs → IsFull f (drop n xs)
  full_drop zero xs full = full
  full_drop (suc n) [] full = tt
  full_drop (suc n) (x ∷ xs) full = full_drop n xs full.1

  found_take : (n : ℕ) (xs : List X) → IsFull f xs → filter_map f (take n xs) ≡ take n (filter_map f xs)
  found_take zero xs full = refl
  found_take (suc n) [] full = refl
  found_take (suc n) (x ∷ xs) full =
      ap (λ o. cons_option o (filter_map f (take n xs))) full.0.1 ∙ ap (λ l. full.0.0 ∷ l) (found_take n xs full.1) ∙ ap (λ o. take (suc n) (cons_option o (filter_map f xs))) (sym full.0.1)

  found_drop : (n : ℕ) (xs : List X) → IsFull f xs → filter_map f (drop n xs) ≡ drop n (filter_map f xs)
  found_drop zero xs full = refl
  found_drop (suc n) [] full = refl
  found_drop (suc n) (x ∷ xs) full =
      found_drop n xs full.1 ∙ ap (λ o. drop (suc n) (cons_option o (filter_map f xs))) (sym full.0.1)

  -- what it gives of the items of chosen granules
  pub found_chosen : (g : ℕ) (chosen : List Bool) (xs : List X) → IsFull f xs → filter_map f (chosen_of g chosen xs) ≡ chosen_of g chosen (filter_map f xs)
  found_chosen g [] xs full = refl
  found_chosen g (true ∷ chosen) xs full =
      filter_map-append f (take g xs) (chosen_of g chosen (drop g xs))
      ∙ ap₂ (λ (a b : List Y). a ++ b) (found_take g xs full) (found_chosen g chosen (drop g xs) (full_drop g xs full) ∙ ap (chosen_of g chosen) (found_drop g xs full))
  found_chosen g (false ∷ chosen) xs full = found_chosen g chosen (drop g xs) (full_drop g xs full) ∙ ap (chosen_of g chosen) (found_drop g xs full)

full_column : (types : List ColType) (place : ℕ) (rows : List Row) → AreRowsOf types rows → place < length types → IsFull (λ (row : Row). slice_get row place) rows
full_column types place [] typed below = tt
full_column types place (row ∷ rows) typed below =
    let wide : length row ≡ length types = sym (length-map row type_of) ∙ ap length (All-head (λ (r : Row). types_of r ≡ types) row rows typed) in
    let any : Value = value.UInt8 0 in
    ((get_or row place any, slice_get-get_or row place any (omega (arith, wide, below))), full_column types place rows (All-tail (λ (r : Row). types_of r ≡ types) row rows typed) below)

-- the column of the chosen rows
pub column_chosen : (types : List ColType) (g place : ℕ) (chosen : List Bool) (rows : List Row) → AreRowsOf types rows → place < length types → column_of place (chosen_of g chosen rows) ≡ chosen_of g chosen (column_of place rows)
column_chosen types g place chosen rows typed below = found_chosen (λ (row : Row). slice_get row place) g chosen rows (full_column types place rows typed below)

-- how many rows a run has
pub run_length : {X : Type 0} (at many count : ℕ) (xs : List X) → length xs ≡ count → length (take many (drop at xs)) ≡ min many (count - at)
run_length at many count xs counted = length-take many (drop at xs) ∙ ap (min many) (length-drop at xs ∙ ap (λ n. n - at) counted)

-- how many the chosen granules have, with a run more
pub count_run : (g count : ℕ) (chosen : List Bool) (run : Run) → IsChosenRun chosen run → chosen_count g (take (run.first + run.count) chosen) count ≡ chosen_count g (take run.first chosen) count + min (g * run.count) (count - g * run.first)
count_run g count chosen run r =
    ap length (chosen_run g chosen run (range_with_len 0 count) r)
    ∙ length-append (chosen_of g (take run.first chosen) (range_with_len 0 count)) (take (g * run.count) (drop (g * run.first) (range_with_len 0 count)))
    ∙ ap (λ n. chosen_count g (take run.first chosen) count + n) (run_length (g * run.first) (g * run.count) count (range_with_len 0 count) (length-range_with_len 0 count))
