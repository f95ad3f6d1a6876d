-- Granules that are left of a part that is read granule by granule, and the rows that are given of it.
use Rattle.std.proofs.Common.{◌≡◌, ℕ, zero, suc, ◌+◌, ◌-◌, ◌*◌, ◌<◌, ◌≤◌, ◌⊎◌, inl, inr, min, Bool, true, false, List, [], ◌∷◌, ◌++◌, Option, Some, None, refl, sym, ap, ap₂, ◌∙◌, subst, length, length-append, length-drop, length-take-le, take, drop, take-append-drop, replicate, get_or, map, slice_get, filter_map, All, arith, append-nil, append_assoc, mul_comm, mul-le-mul_right, suc-mul, zero-add, ◌/◌}
use Rattle.std.specs.List.{range_with_len}
use Rattle.std.proofs.Math.Nat.{div-zero, mod-le}
use Rattle.std.proofs.lemmas.Bool.{cases_lt, false≢true}
use Rattle.std.proofs.lemmas.Grind.{div_ceil_times}
use Rattle.std.proofs.lemmas.List.{drop-drop, drop_at, get_or-append_right, get_or-drop, get_or-replicate, get_or_append_left, length-replicate, map-append, nil_from_length, take_all, take_at, take_more}
use Rattle.std.proofs.lemmas.List.FromFn.{length-range_with_len}
use Rattle.std.proofs.lemmas.Option.{get_or_from_slice_get, slice_get-get_or, slice_get_within}
use Rattle.mt_base.specs.declared.name.FileId.TheVariants as file
use Rattle.mt_values.specs.declared.schema.Schema.{Schema}
use Rattle.mt_values.specs.declared.value.ColType.{ColType}
use Rattle.mt_values.specs.declared.value.Value.{Value}
use Rattle.mt_values.specs.Grid.{Cells, Grid, column_of, rows_of}
use Rattle.mt_values.specs.Printing.{selected}
use Rattle.mt_values.specs.Schemas.{column_types}
use Rattle.mt_values.specs.Values.{Row}
use Rattle.mt_outside.specs.Files.{Files}
use Rattle.part_damage.specs.column_file.Marks.{granules}
use Rattle.part_damage.specs.part_writer.declared.loaded.Loaded.{Loaded}
use Rattle.part_reader.specs.declared.reading.Part.{Part}
use Rattle.part_reader.specs.declared.reading.PartFault.{PartFault}
use Rattle.part_reader.specs.declared.reading.PartFault.TheVariants.{Fault, NoMemory, Damaged}
use Rattle.part_reader.specs.Faults.{ExplainsAt}
use Rattle.part_reader.specs.Granules.{ExplainsChosen, ExplainsRun, GainsChosen, IsChosenRun, IsRunAdded, PartColumn, chosen_count, chosen_of, column_in, rows_in}
use Rattle.part_reader.specs.Parts.{HoldsAt}
use Rattle.part_reader.specs.Picks.{GainsPicked}
use Rattle.part_reader.specs.Readings.{AreGranuleColumns, ExplainsLeft, GivesGranule, GivesNext, IsFirstLeft, LeavesRows, Reading, count_left, from_granule, granule_items, lone, lone_chosen, rows_left}
use Rattle.part_reader.proofs.ChosenColumns.{chosen_even, chosen_rows, chosen_types, gains_added}
use Rattle.part_reader.proofs.ChosenItems.{chosen_append, chosen_length, chosen_run, run_length}
use Rattle.part_reader.proofs.CutRows.{count_more, count_skip, empty_even, rows_cut, with_empty}
use Rattle.part_reader.proofs.PickedValues.{picks_added}

-- ---- granules of a choice

module _ {X : Type 0} (g : ℕ) where
  chosen_none : (n : ℕ) (xs : List X) → chosen_of g (replicate n false) xs ≡ []
  chosen_none zero xs = refl
  chosen_none (suc n) xs = chosen_none n (drop g xs)

  -- those from one on are of the items from its own on
  chosen_from : (n : ℕ) (chosen : List Bool) (xs : List X) → chosen_of g (from_granule n chosen) xs ≡ chosen_of g (drop n chosen) (drop (g * n) xs)
  chosen_from n chosen xs =
      chosen_append g (replicate n false) (drop n chosen) xs
      ∙ ap (λ l. l ++ chosen_of g (drop n chosen) (drop (g * length (replicate n false)) xs)) (chosen_none n xs)
      ∙ ap (λ k. chosen_of g (drop n chosen) (drop (g * k) xs)) (length-replicate n false)

  -- one granule by itself
  pub chosen_lone : (granule : ℕ) (xs : List X) → chosen_of g (lone_chosen granule) xs ≡ granule_items g granule xs
  chosen_lone granule xs =
      chosen_append g (replicate granule false) (true ∷ []) xs
      ∙ ap (λ l. l ++ (take g (drop (g * length (replicate granule false)) xs) ++ [])) (chosen_none granule xs)
      ∙ append-nil (take g (drop (g * length (replicate granule false)) xs))
      ∙ ap (λ k. take g (drop (g * k) xs)) (length-replicate granule false)

-- a chosen granule as a run
pub lone_run : (left : List Bool) (granule : ℕ) → slice_get left granule ≡ Some true → IsChosenRun left (lone granule)
lone_run left granule there =
    let below = slice_get_within left granule true there in
    record {
      within = omega (arith, below);
      all = take_more left granule false below ∙ ap (λ (b : Bool). take granule left ++ b ∷ []) (get_or_from_slice_get left granule true false there);
    }

module _ {X : Type 0} (g : ℕ) where
  -- the first of the granules that are left, and those after it
  pub first_parted : (left : List Bool) (granule : ℕ) (xs : List X) → slice_get left granule ≡ Some true → chosen_of g (take granule left) xs ≡ [] → chosen_of g left xs ≡ granule_items g granule xs ++ chosen_of g (from_granule (granule + 1) left) xs
  first_parted left granule xs there none =
      let is = lone_run left granule there in
      let front : length (take (granule + 1) left) ≡ granule + 1 = length-take-le (granule + 1) left is.within in
      let one : g * 1 ≡ g = omega arith in
      ap (λ cs. chosen_of g cs xs) (sym (take-append-drop (granule + 1) left))
      ∙ chosen_append g (take (granule + 1) left) (drop (granule + 1) left) xs
      ∙ ap₂ (λ (a b : List X). a ++ b)
      (chosen_run g left (lone granule) xs is ∙ ap (λ l. l ++ take (g * 1) (drop (g * granule) xs)) none ∙ ap (λ n. take n (drop (g * granule) xs)) one)
      (ap (λ k. chosen_of g (drop (granule + 1) left) (drop (g * k) xs)) front ∙ sym (chosen_from g (granule + 1) left xs))

  -- granules without rows have none
  pub none_chosen : (left : List Bool) (count : ℕ) (xs : List X) → length xs ≡ count → chosen_count g left count ≡ 0 → chosen_of g left xs ≡ []
  none_chosen left count xs even none =
      nil_from_length (chosen_of g left xs) (chosen_length g left xs (range_with_len 0 count) (even ∙ sym (length-range_with_len 0 count)) ∙ none)

-- ---- granules from one on

pub from_first : (chosen : List Bool) → from_granule 0 chosen ≡ chosen
from_first chosen = refl

pub from_length : (n : ℕ) (chosen : List Bool) → n ≤ length chosen → length (from_granule n chosen) ≡ length chosen
from_length n chosen within = omega (arith, length-append (replicate n false) (drop n chosen), length-replicate n false, length-drop n chosen, within)

from_kept : (n k : ℕ) (chosen : List Bool) → n ≤ k → get_or (from_granule n chosen) k false ≡ get_or chosen k false
from_kept n k chosen above =
    let there : n + (k - n) ≡ k = omega (arith, above) in
    get_or-append_right (replicate n false) (drop n chosen) n k false (length-replicate n false) above ∙ get_or-drop n chosen (k - n) false ∙ ap (λ j. get_or chosen j false) there

from_passed : (n k : ℕ) (chosen : List Bool) → k < n → get_or (from_granule n chosen) k false ≡ false
from_passed n k chosen below =
    get_or_append_left (replicate n false) (drop n chosen) false k (omega (arith, length-replicate n false, below)) ∙ get_or-replicate n k false false below

-- those that are left later are left now
pub from_among : (n k : ℕ) (left : List Bool) → slice_get (from_granule n left) k ≡ Some true → slice_get left k ≡ Some true
from_among n k left there = either (cases_lt k n)
  where
    value : get_or (from_granule n left) k false ≡ true
    value = get_or_from_slice_get (from_granule n left) k true false there

    either : (k < n) ⊎ (n ≤ k) → slice_get left k ≡ Some true
    either (inl below) = absurd (false≢true (sym (from_passed n k left below) ∙ value))
    either (inr above) =
        let inside = slice_get_within (from_granule n left) k true there in
        let below : k < length left = omega (arith, inside, length-append (replicate n false) (drop n left), length-replicate n false, length-drop n left, above) in
        slice_get-get_or left k false below ∙ ap Some (sym (from_kept n k left above) ∙ value)

pub from_again : (at n : ℕ) (chosen : List Bool) → at ≤ n → from_granule n (from_granule at chosen) ≡ from_granule n chosen
from_again at n chosen above =
    let front : drop at (from_granule at chosen) ≡ drop at chosen = drop_at (replicate at false) (drop at chosen) at (length-replicate at false) in
    let end : at + (n - at) ≡ n = omega (arith, above) in
    ap (λ l. replicate n false ++ l)
    (ap (λ k. drop k (from_granule at chosen)) (sym end) ∙ sym (drop-drop (n - at) at (from_granule at chosen)) ∙ ap (drop (n - at)) front ∙ drop-drop (n - at) at chosen ∙ ap (λ k. drop k chosen) end)

-- ---- the first granule with rows

-- of the chosen granules from one on none before this one has a row
abbrev pub NoneBefore : Loaded → List Bool → ℕ → ℕ → Type 0
NoneBefore loaded chosen from granule = chosen_count loaded.schema.granularity (take granule (from_granule from chosen)) loaded.manifest.rows ≡ 0

module _ (loaded : Loaded) (chosen : List Bool) (from : ℕ) (within : from ≤ length chosen) where
  abbrev size : ℕ
  size = loaded.schema.granularity

  abbrev remaining : List Bool
  remaining = from_granule from chosen

  pub none_passed : NoneBefore loaded chosen from from
  none_passed =
      let front : take from remaining ≡ replicate from false = take_at (replicate from false) (drop from chosen) from (length-replicate from false) in
      ap (λ cs. chosen_count size cs loaded.manifest.rows) front ∙ ap length (chosen_none size from (range_with_len 0 loaded.manifest.rows))

  inside : (granule : ℕ) → granule < length chosen → granule < length remaining
  inside granule below = omega (arith, below, from_length from chosen within)

  pub not_chosen : (granule : ℕ) → from ≤ granule → granule < length chosen → get_or chosen granule false ≡ false → NoneBefore loaded chosen from granule → NoneBefore loaded chosen from (granule + 1)
  not_chosen granule above below not before =
      count_skip size loaded.manifest.rows remaining granule (inside granule below) (from_kept from granule chosen above ∙ not) ∙ before

  pub no_rows : (granule : ℕ) → from ≤ granule → granule < length chosen → get_or chosen granule false ≡ true → rows_in loaded (lone granule) ≤ 0 → NoneBefore loaded chosen from granule → NoneBefore loaded chosen from (granule + 1)
  no_rows granule above below is none before =
      let more = count_more size loaded.manifest.rows remaining granule (inside granule below) (from_kept from granule chosen above ∙ is) in
      omega (arith, more, before, none)

  pub found_first : (granule : ℕ) → from ≤ granule → granule < length chosen → get_or chosen granule false ≡ true → 0 < rows_in loaded (lone granule) → NoneBefore loaded chosen from granule → IsFirstLeft loaded remaining granule
  found_first granule above below is some before = record {
    there = slice_get-get_or remaining granule false (inside granule below) ∙ ap Some (from_kept from granule chosen above ∙ is);
    some = some;
    none_before = before;
  }

  pub none_at_all : (granule : ℕ) → length chosen ≤ granule → NoneBefore loaded chosen from granule → chosen_count size remaining loaded.manifest.rows ≡ 0
  none_at_all granule end before =
      ap (λ cs. chosen_count size cs loaded.manifest.rows) (sym (take_all granule remaining (omega (arith, end, from_length from chosen within)))) ∙ before

-- a granule that has a row is one of the part's
pub rows_within : (loaded : Loaded) (granule : ℕ) → 0 < rows_in loaded (lone granule) → granule < granules loaded.schema.granularity loaded.manifest.rows
rows_within loaded granule some = either (cases_lt granule (granules g n))
  where
    g : ℕ
    g = loaded.schema.granularity

    n : ℕ
    n = loaded.manifest.rows

    either : (granule < granules g n) ⊎ (granules g n ≤ granule) → granule < granules g n
    either (inl h) = h
    either (inr h) =
        let one : g * 1 ≡ g = omega arith in
        let positive : 0 < g = omega (arith, some) in
        let ceil = div_ceil_times n g positive in
        let room : granules g n * g ≤ granule * g = mul-le-mul_right g h in
        absurd (omega (arith, some, ceil.0, room, mul_comm granule g))

-- ---- one granule of a column

pub gains_lone : (c : PartColumn) (granule : ℕ) (old new : Cells) → IsRunAdded c (lone granule) None old new → GainsChosen c (lone_chosen granule) old new
gains_lone c granule old new read =
    let g = c.loaded.schema.granularity in
    let single = lone_chosen granule in
    let long : length single ≡ granule + 1 = omega (arith, length-append (replicate granule false) (true ∷ []), length-replicate granule false) in
    let front : take granule single ≡ replicate granule false = take_at (replicate granule false) (true ∷ []) granule (length-replicate granule false) in
    let nothing : GainsChosen c (replicate granule false) old old = record {
      col_type = refl;
      even = omega (arith, ap length (chosen_none g granule (range_with_len 0 c.loaded.manifest.rows)));
      values = λ values h. ap (λ (vs : List Value). record old { values = vs }) (sym (append-nil old.values) ∙ ap (λ (vs : List Value). old.values ++ vs) (sym (chosen_none g granule values)));
    } in
    let here : slice_get single granule ≡ Some true =
    slice_get-get_or single granule false (omega (arith, long)) ∙ ap Some (get_or-append_right (replicate granule false) (true ∷ []) granule granule false (length-replicate granule false) (omega arith) ∙ first_item granule) in
    subst (λ cs. GainsChosen c cs old new) (take_all (granule + 1) single (omega (arith, long)))
    (gains_added c single (lone granule) old old new (subst (λ cs. GainsChosen c cs old old) (sym front) nothing) read (lone_run single granule here))
  where
    first_item : (n : ℕ) → get_or (true ∷ []) (n - n) false ≡ true
    first_item n = let none : n - n ≡ 0 = omega arith in ap (λ k. get_or (true ∷ []) k false) none

lone_there : (granule : ℕ) → slice_get (lone_chosen granule) granule ≡ Some true
lone_there granule =
    let long : length (lone_chosen granule) ≡ granule + 1 = omega (arith, length-append (replicate granule false) (true ∷ []), length-replicate granule false) in
    slice_get-get_or (lone_chosen granule) granule false (omega (arith, long))
    ∙ ap Some (get_or-append_right (replicate granule false) (true ∷ []) granule granule false (length-replicate granule false) (omega arith) ∙ front granule)
  where
    front : (n : ℕ) → get_or (true ∷ []) (n - n) false ≡ true
    front n = let none : n - n ≡ 0 = omega arith in ap (λ k. get_or (true ∷ []) k false) none

-- the same of the wanted rows of a granule
pub picks_lone : (c : PartColumn) (granule : ℕ) (mask : List Bool) (old new : Cells) → IsRunAdded c (lone granule) (Some mask) old new → length mask ≡ rows_in c.loaded (lone granule) → GainsPicked c (lone_chosen granule) mask old new
picks_lone c granule mask old new read even =
    let g = c.loaded.schema.granularity in
    let single = lone_chosen granule in
    let long : length single ≡ granule + 1 = omega (arith, length-append (replicate granule false) (true ∷ []), length-replicate granule false) in
    let front : take granule single ≡ replicate granule false = take_at (replicate granule false) (true ∷ []) granule (length-replicate granule false) in
    let nothing : GainsPicked c (take granule single) [] old old = record {
      col_type = refl;
      even = omega arith;
      values = λ values h. ap (λ (vs : List Value). record old { values = vs }) (sym (append-nil old.values));
    } in
    let none : length {A = Bool} [] ≡ chosen_count g (take granule single) c.loaded.manifest.rows =
    sym (ap (λ cs. chosen_count g cs c.loaded.manifest.rows) front ∙ ap length (chosen_none g granule (range_with_len 0 c.loaded.manifest.rows))) in
    subst (λ cs. GainsPicked c cs mask old new) (take_all (granule + 1) single (omega (arith, long)))
    (picks_added c single (lone granule) [] mask old old new nothing read (lone_run single granule (lone_there granule)) none even)

module _ {F : Type 0} (files_of : F → Option Files) (schema : Schema) (part : Part F) (places : List ℕ) (rows : List Row) (h : HoldsAt files_of schema part (map file.Column places) rows) where
  -- ---- what is given

  counted : length rows ≡ part.loaded.manifest.rows
  counted = sym (ap (λ (l : Loaded). l.manifest.rows) h.loaded_is)

  -- a granule has as many of the rows as is kept of it
  pub granule_many : (granule : ℕ) → length (granule_items part.loaded.schema.granularity granule rows) ≡ rows_in part.loaded (lone granule)
  granule_many granule =
      let g = part.loaded.schema.granularity in
      let one : g * 1 ≡ g = omega arith in
      run_length (g * granule) g part.loaded.manifest.rows rows counted ∙ ap (λ n. min n (part.loaded.manifest.rows - g * granule)) (sym one)

-- the rows that were left are those that are given, and those that are left then
pub given_parted : {F : Type 0} (files_of : F → Option Files) (old new : Reading F) (given : Grid) → GivesGranule files_of old new given → (rows : List Row) → HoldsAt files_of old.schema old.part (map file.Column old.places) rows
    → rows_left old rows ≡ given.rows ++ rows_left new rows
given_parted files_of old new given gives rows h =
    let g = old.part.loaded.schema.granularity in
    let even : length rows ≡ old.part.loaded.manifest.rows = counted files_of old.schema old.part old.places rows h in
    let none = none_chosen g (take gives.granule old.left) old.part.loaded.manifest.rows rows even gives.first.none_before in
    let after : Reading _ = record old { left = from_granule (gives.granule + 1) old.left } in
    ap (map (selected old.places)) (first_parted g old.left gives.granule rows gives.first.there none)
    ∙ map-append (selected old.places) (granule_items g gives.granule rows) (chosen_of g (from_granule (gives.granule + 1) old.left) rows)
    ∙ ap₂ (λ (a b : List Row). a ++ b) (sym (gives.rows rows h)) (ap (λ r. rows_left r rows) (sym gives.rest))

-- so it is of their numbers
pub count_parted : {F : Type 0} (files_of : F → Option Files) (old new : Reading F) (given : Grid) → GivesGranule files_of old new given → count_left old ≡ length given.rows + count_left new
count_parted files_of old new given gives =
    let g = old.part.loaded.schema.granularity in
    let rows = range_with_len 0 old.part.loaded.manifest.rows in
    let even : length rows ≡ old.part.loaded.manifest.rows = length-range_with_len 0 old.part.loaded.manifest.rows in
    let none = none_chosen g (take gives.granule old.left) old.part.loaded.manifest.rows rows even gives.first.none_before in
    ap length (first_parted g old.left gives.granule rows gives.first.there none)
    ∙ length-append (granule_items g gives.granule rows) (chosen_of g (from_granule (gives.granule + 1) old.left) rows)
    ∙ ap₂ ◌+◌ (granule_length ∙ sym gives.count) (ap count_left (sym gives.rest))
  where
    granule_length : length (granule_items old.part.loaded.schema.granularity gives.granule (range_with_len 0 old.part.loaded.manifest.rows)) ≡ rows_in old.part.loaded (lone gives.granule)
    granule_length =
        let g = old.part.loaded.schema.granularity in
        let count = old.part.loaded.manifest.rows in
        let one : g * 1 ≡ g = omega arith in
        run_length (g * gives.granule) g count (range_with_len 0 count) (length-range_with_len 0 count) ∙ ap (λ n. min n (count - g * gives.granule)) (sym one)

-- in one word
pub next_leaves : {F : Type 0} (files_of : F → Option Files) (old new : Reading F) (given : Option Grid) → GivesNext files_of old new given → (rows : List Row) → HoldsAt files_of old.schema old.part (map file.Column old.places) rows
    → LeavesRows (rows_left old rows) (rows_left new rows) given
next_leaves files_of old new None gives rows h =
    ap (map (selected old.places)) (none_chosen old.part.loaded.schema.granularity old.left old.part.loaded.manifest.rows rows (counted files_of old.schema old.part old.places rows h) gives.1)
next_leaves files_of old new (Some given) gives rows h = given_parted files_of old new given gives rows h

-- ---- columns of a granule

module _ {F : Type 0} (files_of : F → Option Files) (part : Part F) (granule : ℕ) (types : List ColType) (places : List ℕ) (columns : List Cells) (are : AreGranuleColumns (λ number. column_in files_of part number) granule types places columns) where
  abbrev own_size : ℕ
  own_size = part.loaded.schema.granularity

  lone_count : chosen_count own_size (lone_chosen granule) part.loaded.manifest.rows ≡ rows_in part.loaded (lone granule)
  lone_count =
      let rows = range_with_len 0 part.loaded.manifest.rows in
      let one : own_size * 1 ≡ own_size = omega arith in
      ap length (chosen_lone own_size granule rows)
      ∙ run_length (own_size * granule) own_size part.loaded.manifest.rows rows (length-range_with_len 0 part.loaded.manifest.rows)
      ∙ ap (λ n. min n (part.loaded.manifest.rows - own_size * granule)) (sym one)

  pub columns_types : map (λ (c : Cells). c.col_type) columns ≡ filter_map (slice_get types) places
  columns_types = chosen_types files_of part (lone_chosen granule) places are.olds columns are.gained ∙ are.types_are

  pub columns_even : All (λ (c : Cells). length c.values ≡ rows_in part.loaded (lone granule)) columns
  columns_even =
      subst (λ n. All (λ (c : Cells). length c.values ≡ n) columns) (zero-add (chosen_count own_size (lone_chosen granule) part.loaded.manifest.rows) ∙ lone_count)
      (chosen_even files_of part (lone_chosen granule) 0 places are.olds columns are.gained (empty_even places are.olds are.empty))

  pub columns_values : (schema : Schema) (rows : List Row) → HoldsAt files_of schema part (map file.Column places) rows → types ≡ column_types schema
      → map (λ (c : Cells). c.values) columns ≡ map (λ place. column_of place (granule_items own_size granule rows)) places
  columns_values schema rows h same =
      let typed = are.types_are ∙ ap (λ (ts : List ColType). filter_map (slice_get ts) places) same in
      ap (map (λ (c : Cells). c.values)) (chosen_rows files_of schema part places rows h (lone_chosen granule) are.olds columns typed are.gained)
      ∙ with_empty (chosen_of own_size (lone_chosen granule) rows) places are.olds are.empty
      ∙ ap (λ (rs : List Row). map (λ place. column_of place rs) places) (chosen_lone own_size granule rows)

  -- the rows that they make
  pub columns_rows : (schema : Schema) (rows : List Row) → HoldsAt files_of schema part (map file.Column places) rows → types ≡ column_types schema
      → rows_of columns (rows_in part.loaded (lone granule)) ≡ map (selected places) (granule_items own_size granule rows)
  columns_rows schema rows h same =
      let typed = are.types_are ∙ ap (λ (ts : List ColType). filter_map (slice_get ts) places) same in
      rows_cut files_of schema part places rows h (lone_chosen granule) (rows_in part.loaded (lone granule)) are.olds columns (sym lone_count) are.empty
      (chosen_rows files_of schema part places rows h (lone_chosen granule) are.olds columns typed are.gained)
      ∙ ap (map (selected places)) (chosen_lone own_size granule rows)

-- there are not more granules than rows
pub granule_within : (g n number : ℕ) → number < granules g n → number < n
granule_within g n number below = either (cases_lt 0 g)
  where
    either : (0 < g) ⊎ (g ≤ 0) → number < n
    either (inl some) = inner (cases_lt number n)
      where
        inner : (number < n) ⊎ (n ≤ number) → number < n
        inner (inl within) = within
        inner (inr over) =
            let ceil = div_ceil_times n g some in
            let more : n < granules g n = omega (arith, over, below) in
            let room : suc n * g ≤ granules g n * g = mul-le-mul_right g more in
            let least : 1 * n ≤ g * n = mul-le-mul_right n some in
            absurd (omega (arith, room, least, ceil.1, suc-mul n g, mul_comm g n))
    either (inr none) =
        let zeroed : g ≡ 0 = omega (arith, none) in
        let nothing : n / g ≡ 0 = ap (λ k. n / k) zeroed ∙ div-zero n in
        omega (arith, below, nothing, mod-le n g)

-- ---- what a call gives

module _ {F : Type 0} (files_of : F → Option Files) (schema : Schema) (part : Part F) (places : List ℕ) (most : ℕ) where
  abbrev pub reading : List Bool → Reading F
  reading left = record { schema = schema; part = part; places = places; left = left; most = most }

  -- a block of the first granule that is left is given, and those after it are left
  pub gives_block : (chosen : List Bool) (at granule : ℕ) (block : Grid) → at ≤ granule → IsFirstLeft part.loaded (from_granule at chosen) granule → length block.rows ≡ rows_in part.loaded (lone granule)
      → block.types ≡ filter_map (slice_get (column_types schema)) places
      → ((rows : List Row) → HoldsAt files_of schema part (map file.Column places) rows → block.rows ≡ map (selected places) (granule_items part.loaded.schema.granularity granule rows))
      → GivesGranule files_of (reading (from_granule at chosen)) (reading (from_granule (granule + 1) chosen)) block
  gives_block chosen at granule block above first count types rows = record {
    granule = granule;
    first = first;
    rest = ap reading (sym (from_again at (granule + 1) chosen (omega (arith, above))));
    count = count;
    types = types;
    rows = rows;
  }

module _ {F : Type 0} (files_of : F → Option Files) (part : Part F) (places : List ℕ) where
  -- what is said of a granule is said of those that are left
  pub left_explained : (types : List ColType) (left : List Bool) (granule : ℕ) (why : PartFault) → IsFirstLeft part.loaded left granule → ExplainsAt (λ number t. ExplainsRun (column_in files_of part number) (lone granule) t) types places why
      → ExplainsAt (λ number t. ExplainsLeft (column_in files_of part number) left t) types places why
  left_explained types left granule Fault first e = tt
  left_explained types left granule NoMemory first e = tt
  left_explained types left granule (Damaged f place wanted found) first e = record {
    at = e.at;
    number = e.number;
    col_type = e.col_type;
    number_is = e.number_is;
    type_is = e.type_is;
    explained = record { granule = granule; first = first; explained = e.explained };
  }

  -- and of those that were chosen, where the ones that are left are among them
  pub chosen_explained : (types : List ColType) (left chosen : List Bool) (why : PartFault) → ((k : ℕ) → slice_get left k ≡ Some true → slice_get chosen k ≡ Some true) → ExplainsAt (λ number t. ExplainsLeft (column_in files_of part number) left t) types places why
      → ExplainsAt (λ number t. ExplainsChosen (column_in files_of part number) chosen t) types places why
  chosen_explained types left chosen Fault among e = tt
  chosen_explained types left chosen NoMemory among e = tt
  chosen_explained types left chosen (Damaged f place wanted found) among e =
      let granule = e.explained.granule in
      record {
        at = e.at;
        number = e.number;
        col_type = e.col_type;
        number_is = e.number_is;
        type_is = e.type_is;
        explained = record { run = lone granule; run_is = lone_run chosen granule (among granule e.explained.first.there); explained = e.explained.explained };
      }

-- those that are left after a granule are among those that were left before
pub given_among : {F : Type 0} (files_of : F → Option Files) (old new : Reading F) (given : Grid) (chosen : List Bool) → GivesGranule files_of old new given → ((k : ℕ) → slice_get old.left k ≡ Some true → slice_get chosen k ≡ Some true)
    → (k : ℕ) → slice_get new.left k ≡ Some true → slice_get chosen k ≡ Some true
given_among files_of old new given chosen gives among k there =
    among k (from_among (gives.granule + 1) k old.left (subst (λ (r : Reading _). slice_get r.left k ≡ Some true) gives.rest there))

-- ---- all that is given

-- these rows were given of the chosen granules of a part, and the reader has the others still to come
pub record HasGiven {F : Type 0} (files_of : F → Option Files) (schema : Schema) (part : Part F) (places : List ℕ) (chosen : List Bool) (r : Reading F) (given : List Row) : Type 0 where
  pub schema_is : r.schema ≡ schema
  pub part_is : r.part ≡ part
  pub places_are : r.places ≡ places
  pub among : (k : ℕ) → slice_get r.left k ≡ Some true → slice_get chosen k ≡ Some true
  pub rows : (rows : List Row) → HoldsAt files_of schema part (map file.Column places) rows → given ++ rows_left r rows ≡ map (selected places) (chosen_of part.loaded.schema.granularity chosen rows)
  pub count : length given + count_left r ≡ chosen_count part.loaded.schema.granularity chosen part.loaded.manifest.rows

module _ {F : Type 0} (files_of : F → Option Files) (schema : Schema) (part : Part F) (places : List ℕ) (chosen : List Bool) where
  pub given_none : (most : ℕ) (r : Reading F) → r ≡ record { schema = schema; part = part; places = places; left = chosen; most = most } → HasGiven files_of schema part places chosen r []
  given_none most r is = record {
    schema_is = ap (λ (x : Reading F). x.schema) is;
    part_is = ap (λ (x : Reading F). x.part) is;
    places_are = ap (λ (x : Reading F). x.places) is;
    among = λ k there. subst (λ (x : Reading F). slice_get x.left k ≡ Some true) is there;
    rows = λ rows holds. ap (λ (x : Reading F). rows_left x rows) is;
    count = zero-add (count_left r) ∙ ap count_left is;
  }

  module _ (r : Reading F) (given : List Row) (has : HasGiven files_of schema part places chosen r given) where
    -- the reader's part is the one that holds rows
    pub given_holds : (rows : List Row) → HoldsAt files_of schema part (map file.Column places) rows → HoldsAt files_of r.schema r.part (map file.Column r.places) rows
    given_holds rows holds =
        subst (λ (t : Schema). HoldsAt files_of t r.part (map file.Column r.places) rows) (sym has.schema_is)
        (subst (λ (p : Part F). HoldsAt files_of schema p (map file.Column r.places) rows) (sym has.part_is)
        (subst (λ (ps : List ℕ). HoldsAt files_of schema part (map file.Column ps) rows) (sym has.places_are) holds))

    pub given_more : (new : Reading F) (block : Grid) (more : List Row) → GivesGranule files_of r new block → more ≡ given ++ block.rows → HasGiven files_of schema part places chosen new more
    given_more new block more gives is = record {
      schema_is = ap (λ (x : Reading F). x.schema) gives.rest ∙ has.schema_is;
      part_is = ap (λ (x : Reading F). x.part) gives.rest ∙ has.part_is;
      places_are = ap (λ (x : Reading F). x.places) gives.rest ∙ has.places_are;
      among = given_among files_of r new block chosen gives has.among;
      rows = λ rows holds.
          ap (λ (l : List Row). l ++ rows_left new rows) is ∙ append_assoc given block.rows (rows_left new rows)
          ∙ ap (λ (l : List Row). given ++ l) (sym (given_parted files_of r new block gives rows (given_holds rows holds)))
          ∙ has.rows rows holds;
      count = omega (arith, ap length is, length-append given block.rows, count_parted files_of r new block gives, has.count);
    }

    pub given_fewer : (new : Reading F) (block : Grid) → GivesGranule files_of r new block → count_left new < count_left r
    given_fewer new block gives = omega (arith, count_parted files_of r new block gives, gives.count, gives.first.some)

    pub given_all : count_left r ≡ 0 → (rows : List Row) → HoldsAt files_of schema part (map file.Column places) rows → given ≡ map (selected places) (chosen_of part.loaded.schema.granularity chosen rows)
    given_all none rows holds =
        sym (append-nil given) ∙ ap (λ (l : List Row). given ++ l) (sym (next_leaves files_of r r None (refl, none) rows (given_holds rows holds)))
        ∙ has.rows rows holds

    -- what a fault says of granules that are left it says of chosen ones
    pub given_explained : (why : PartFault) → ExplainsAt (λ number t. ExplainsLeft (column_in files_of r.part number) r.left t) (column_types r.schema) r.places why → ExplainsAt (λ number t. ExplainsChosen (column_in files_of part number) chosen t) (column_types schema) places why
    given_explained why e =
        chosen_explained files_of part places (column_types schema) r.left chosen why has.among
        (subst (λ (ps : List ℕ). ExplainsAt (λ number t. ExplainsLeft (column_in files_of part number) r.left t) (column_types schema) ps why) has.places_are
        (subst (λ (t : Schema). ExplainsAt (λ number u. ExplainsLeft (column_in files_of part number) r.left u) (column_types t) r.places why) has.schema_is
        (subst (λ (p : Part F). ExplainsAt (λ number t. ExplainsLeft (column_in files_of p number) r.left t) (column_types r.schema) r.places why) has.part_is e)))

-- what is held by a table's schema is held by that which is kept of the part
pub own_schema : {F : Type 0} (files_of : F → Option Files) (schema : Schema) (part : Part F) (places : List ℕ) (rows : List Row) → HoldsAt files_of schema part (map file.Column places) rows → HoldsAt files_of part.loaded.schema part (map file.Column places) rows
own_schema files_of schema part places rows holds = subst (λ (t : Schema). HoldsAt files_of t part (map file.Column places) rows) (sym (ap (λ (l : Loaded). l.schema) holds.loaded_is)) holds
