-- Rows that are still to come and meet what is asked in their granule, granule after granule.
use Rattle.std.proofs.Common.{◌≡◌, ℕ, zero, suc, ◌+◌, ◌-◌, ◌*◌, ◌<◌, ◌≤◌, min, Bool, true, false, List, [], ◌∷◌, ◌++◌, Option, Some, refl, sym, ap, ap₂, ◌∙◌, length, length-append, take, drop, slice_get, map, arith, mul-suc, mul-zero, zero-add}
use Rattle.std.specs.List.{filter, range_with_len}
use Rattle.std.proofs.lemmas.Bool.{false≢true}
use Rattle.std.proofs.lemmas.List.{drop-drop}
use Rattle.std.proofs.lemmas.List.FromFn.{length-range_with_len}
use Rattle.std.proofs.lemmas.Option.{same_Some, slice_get_within}
use Rattle.mt_base.specs.declared.name.FileId.TheVariants as file
use Rattle.mt_outside.specs.Files.{Files}
use Rattle.mt_values.specs.Grid.{Cells}
use Rattle.mt_values.specs.Printing.{selected}
use Rattle.mt_values.specs.Values.{Row}
use Rattle.part_damage.specs.part_writer.declared.loaded.Loaded.{Loaded}
use Rattle.part_reader.specs.Granules.{chosen_of, rows_in}
use Rattle.part_reader.specs.Parts.{HoldsAt}
use Rattle.part_reader.specs.Readings.{count_left, from_granule, granule_items, lone}
use Rattle.part_reader.specs.Sieves.{AddsMet, Sifting, met_from, met_items, passes, rows_met}
use Rattle.part_reader.proofs.ChosenItems.{run_length}
use Rattle.part_reader.proofs.LeftGranules.{first_parted, none_chosen}

nil_parts : {X : Type 0} (xs ys : List X) → xs ++ ys ≡ [] → (xs ≡ []) × (ys ≡ [])
nil_parts [] ys none = (refl, none)
nil_parts (x ∷ xs) ys none = let many = ap length none in absurd (omega (arith, many))

-- the granules after one, with one before it
next_from : (k : ℕ) (b : Bool) (left : List Bool) → from_granule (suc k + 1) (b ∷ left) ≡ false ∷ from_granule (k + 1) left
next_from k b left = let next : suc k + 1 ≡ suc (k + 1) = omega arith in ap (λ m. from_granule m (b ∷ left)) next

module _ {X : Type 0} (g : ℕ) (test : ℕ → X → Bool) where
  drop_next : (n : ℕ) (xs : List X) → drop (g * n) (drop g xs) ≡ drop (g * suc n) xs
  drop_next n xs = drop-drop (g * n) g xs ∙ ap (λ m. drop m xs) (omega (arith, mul-suc g n))

  -- granules without items have none that pass
  pub met_gone : (n : ℕ) (left : List Bool) (xs : List X) → chosen_of g left xs ≡ [] → met_from g test n left xs ≡ []
  met_gone n [] xs none = refl
  met_gone n (true ∷ left) xs none =
      let parts = nil_parts (take g xs) (chosen_of g left (drop g xs)) none in
      ap (λ l. filter (test n) l ++ met_from g test (n + 1) left (drop g xs)) parts.0 ∙ met_gone (n + 1) left (drop g xs) parts.1
  met_gone n (false ∷ left) xs none = met_gone (n + 1) left (drop g xs) none

  -- those of the first granule that is left and has items, and those of the granules after it
  pub met_parted : (n : ℕ) (left : List Bool) (granule : ℕ) (xs : List X) → slice_get left granule ≡ Some true → chosen_of g (take granule left) xs ≡ []
      → met_from g test n left xs ≡ filter (test (n + granule)) (granule_items g granule xs) ++ met_from g test n (from_granule (granule + 1) left) xs
  met_parted n [] granule xs there none =
      let within = slice_get_within [] granule true there in
      absurd (omega (arith, within))
  met_parted n (false ∷ left) zero xs there none = absurd (false≢true (same_Some false true there))
  met_parted n (true ∷ left) zero xs there none =
      let same : n ≡ n + zero = omega arith in
      ap₂ (λ m (ys : List X). filter (test m) (take g ys) ++ met_from g test (n + 1) left (drop g xs)) same (sym (ap (λ m. drop m xs) (mul-zero g)))
  met_parted n (true ∷ left) (suc k) xs there none =
      let parts = nil_parts (take g xs) (chosen_of g (take k left) (drop g xs)) none in
      let same : n + 1 + k ≡ n + suc k = omega arith in
      ap (λ l. filter (test n) l ++ met_from g test (n + 1) left (drop g xs)) parts.0
      ∙ met_parted (n + 1) left k (drop g xs) there parts.1
      ∙ ap₂ (λ (a b : List X). a ++ b) (ap₂ (λ m (ys : List X). filter (test m) (take g ys)) same (drop_next k xs)) (ap (λ l. met_from g test n l xs) (sym (next_from k true left)))
  met_parted n (false ∷ left) (suc k) xs there none =
      let same : n + 1 + k ≡ n + suc k = omega arith in
      met_parted (n + 1) left k (drop g xs) there none
      ∙ ap₂ (λ (a b : List X). a ++ b) (ap₂ (λ m (ys : List X). filter (test m) (take g ys)) same (drop_next k xs)) (ap (λ l. met_from g test n l xs) (sym (next_from k false left)))

module _ {F : Type 0} (files_of : F → Option Files) (old new : Sifting F) (olds news : List Cells) (count : ℕ) (adds : AddsMet files_of old new olds news count) where
  abbrev size : ℕ
  size = old.reading.part.loaded.schema.granularity

  abbrev kept : ℕ
  kept = old.reading.part.loaded.manifest.rows

  -- the rows that were left are those that are added, and those that are left then
  pub added_parted : (rows : List Row) → HoldsAt files_of old.reading.schema old.reading.part (map file.Column old.reading.places) rows → rows_met old rows ≡ met_items old adds.granule rows ++ rows_met new rows
  added_parted rows held =
      let test = λ (granule : ℕ) (row : Row). passes old.asking granule (selected old.asked row) in
      let even : length rows ≡ kept = sym (ap (λ (l : Loaded). l.manifest.rows) held.loaded_is) in
      let none = none_chosen size (take adds.granule old.reading.left) kept rows even adds.first.none_before in
      met_parted size test 0 old.reading.left adds.granule rows adds.first.there none
      ∙ ap₂ (λ (a b : List Row). a ++ b) (ap (λ m. filter (test m) (granule_items size adds.granule rows)) (zero-add adds.granule)) (ap (λ (s : Sifting F). rows_met s rows) (sym adds.rest))

  -- so it is of their numbers
  left_parted : count_left old.reading ≡ rows_in old.reading.part.loaded (lone adds.granule) + count_left new.reading
  left_parted =
      let rows = range_with_len 0 kept in
      let one : size * 1 ≡ size = omega arith in
      let none = none_chosen size (take adds.granule old.reading.left) kept rows (length-range_with_len 0 kept) adds.first.none_before in
      let own : length (granule_items size adds.granule rows) ≡ rows_in old.reading.part.loaded (lone adds.granule) =
      run_length (size * adds.granule) size kept rows (length-range_with_len 0 kept) ∙ ap (λ n. min n (kept - size * adds.granule)) (sym one) in
      ap length (first_parted size old.reading.left adds.granule rows adds.first.there none)
      ∙ length-append (granule_items size adds.granule rows) (chosen_of size (from_granule (adds.granule + 1) old.reading.left) rows)
      ∙ ap₂ ◌+◌ own (ap (λ (s : Sifting F). count_left s.reading) (sym adds.rest))

  pub added_fewer : count_left new.reading < count_left old.reading
  added_fewer = omega (arith, left_parted, adds.first.some)

  pub added_within : count + count_left new.reading ≤ count_left old.reading
  added_within = omega (arith, left_parted, adds.within)

-- where no granule is left that has a row, no row is
pub met_none : {F : Type 0} (files_of : F → Option Files) (s : Sifting F) (rows : List Row) → HoldsAt files_of s.reading.schema s.reading.part (map file.Column s.reading.places) rows → count_left s.reading ≡ 0 → rows_met s rows ≡ []
met_none files_of s rows held none =
    let size = s.reading.part.loaded.schema.granularity in
    let kept = s.reading.part.loaded.manifest.rows in
    met_gone size (λ granule (row : Row). passes s.asking granule (selected s.asked row)) 0 s.reading.left rows
    (none_chosen size s.reading.left kept rows (sym (ap (λ (l : Loaded). l.manifest.rows) held.loaded_is)) none)
