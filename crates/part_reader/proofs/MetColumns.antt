-- Columns that were read for conditions, and what is wanted of them.
use Rattle.std.proofs.Common.{◌≡◌, ℕ, zero, suc, ◌+◌, ◌-◌, ◌*◌, ◌<◌, min, Bool, true, List, [], ◌∷◌, ◌++◌, Option, Some, None, refl, sym, ap, ◌∙◌, subst, length, length-append, get_or, slice_get, All, arith}
use Rattle.std.specs.List.{list_all, range_with_len}
use Rattle.std.proofs.lemmas.List.{length-map, nil_from_length}
use Rattle.std.proofs.lemmas.List.Elements.{All-get_or}
use Rattle.std.proofs.lemmas.List.FromFn.{length-range_with_len}
use Rattle.std.proofs.lemmas.Option.{get_or_from_slice_get, same_Some, slice_get-get_or, slice_get_within}
use Rattle.mt_outside.specs.Files.{Files}
use Rattle.mt_values.specs.declared.schema.Column.{Column}
use Rattle.mt_values.specs.declared.schema.Schema.{Schema}
use Rattle.mt_values.specs.declared.value.ColType.{ColType}
use Rattle.mt_values.specs.declared.value.Value.{Value}
use Rattle.mt_values.specs.Grid.{Cells}
use Rattle.mt_values.specs.Lists.{where_true}
use Rattle.mt_values.specs.Schemas.{column_types}
use Rattle.part_damage.specs.column_file.Spellings.{with_values}
use Rattle.part_reader.specs.declared.reading.Part.{Part}
use Rattle.part_reader.specs.Columns.{AreEach}
use Rattle.part_reader.specs.Granules.{GainsChosen, HoldsValues, IsRunAdded, PartColumn, chosen_of, column_in, rows_in}
use Rattle.part_reader.specs.Picks.{GainsPicked}
use Rattle.part_reader.specs.Readings.{AreGranuleColumns, lone, lone_chosen}
use Rattle.part_reader.proofs.ChosenItems.{run_length}
use Rattle.part_reader.proofs.CutRows.{empty_even}
use Rattle.part_reader.proofs.Holding.{each_typed, type_there}
use Rattle.part_reader.proofs.LeftGranules.{chosen_lone, columns_even, columns_types, gains_lone}
use Rattle.part_reader.proofs.PickedValues.{where_length}
use Rattle.part_reader.proofs.SiftedRows.{where_whole}

-- one of the columns, and what it was before
pub each_at : (P : ℕ → Cells → Cells → Type 0) (places : List ℕ) (olds news : List Cells) (k place : ℕ) (new : Cells) → AreEach P places olds news → slice_get places k ≡ Some place → slice_get news k ≡ Some new → (old : Cells) × (slice_get olds k ≡ Some old) × P place old new
each_at P [] olds news k place new e p n =
    let none = slice_get_within [] k place p in
    absurd (omega (arith, none))
each_at P (q ∷ qs) [] news k place new e p n = absurd e
each_at P (q ∷ qs) (o ∷ olds) [] k place new e p n = absurd e
each_at P (q ∷ qs) (o ∷ olds) (m ∷ news) zero place new e p n = (o, refl, subst (λ x. P x o new) (same_Some q place p) (subst (P q o) (same_Some m new n) e.0))
each_at P (q ∷ qs) (o ∷ olds) (m ∷ news) (suc k) place new e p n = each_at P qs olds news k place new e.1 p n

module _ {F : Type 0} (files_of : F → Option Files) (schema : Schema) (part : Part F) (granule : ℕ) (places : List ℕ) (columns : List Cells) (are : AreGranuleColumns (λ number. column_in files_of part number) granule (column_types schema) places columns) (within : All (λ place. place < length schema.columns) places) (at place : ℕ) (column : Cells) (t : ColType) (place_is : slice_get places at ≡ Some place) (column_is : slice_get columns at ≡ Some column) (typed : slice_get (column_types schema) place ≡ Some t) where
  abbrev types : List ColType
  types = column_types schema

  types_within : All (λ p. p < length types) places
  types_within = subst (λ n. All (λ p. p < n) places) (sym (length-map schema.columns (λ (x : Column). x.col_type))) within

  pub known_type : column.col_type ≡ t
  known_type =
      same_Some column.col_type t (sym (type_there types places columns at place column (each_typed types places columns types_within (columns_types files_of part granule types places columns are)) place_is column_is) ∙ typed)

  pub known_even : length column.values ≡ rows_in part.loaded (lone granule)
  known_even =
      subst (λ (c : Cells). length c.values ≡ rows_in part.loaded (lone granule)) (get_or_from_slice_get columns at column column column_is)
      (All-get_or (λ (c : Cells). length c.values ≡ rows_in part.loaded (lone granule)) columns at column (slice_get_within columns at column column_is) (columns_even files_of part granule types places columns are))

  -- what is wanted of a column that was read
  pub known_gains : (mask : List Bool) (old new : Cells) → length mask ≡ rows_in part.loaded (lone granule) → old.col_type ≡ t → new ≡ record old { values = old.values ++ where_true mask column.values } → GainsPicked (column_in files_of part place) (lone_chosen granule) mask old new
  known_gains mask old new even same is =
      let found = each_at (λ number. GainsChosen (column_in files_of part number) (lone_chosen granule)) places are.olds columns at place column are.gained place_is column_is in
      let before : Cells = found.0 in
      let gains : GainsChosen (column_in files_of part place) (lone_chosen granule) before column = found.2 in
      let empty : before.values ≡ [] =
      nil_from_length before.values
      (subst (λ (c : Cells). length c.values ≡ 0) (get_or_from_slice_get are.olds at before before found.1)
      (All-get_or (λ (c : Cells). length c.values ≡ 0) are.olds at before (slice_get_within are.olds at before found.1) (empty_even places are.olds are.empty))) in
      record {
        col_type = ap (λ (x : Cells). x.col_type) is;
        even = ap (λ (x : Cells). length x.values) is ∙ length-append old.values (where_true mask column.values) ∙ ap (λ n. length old.values + n) (where_length mask column.values mask (known_even ∙ sym even));
        values = λ values h.
            let own = chosen_of part.loaded.schema.granularity (lone_chosen granule) values in
            let theirs : column.values ≡ own =
            ap (λ (x : Cells). x.values) (gains.values values (subst (λ (u : ColType). HoldsValues (column_in files_of part place) u values) (same ∙ sym known_type ∙ gains.col_type) h))
            ∙ ap (λ (vs : List Value). vs ++ own) empty in
            is ∙ ap (λ (vs : List Value). with_values old (where_true mask vs)) theirs;
      }

-- there is one for each place
each_long : (P : ℕ → Cells → Cells → Type 0) (places : List ℕ) (olds news : List Cells) → AreEach P places olds news → length news ≡ length places
each_long P [] [] [] e = refl
each_long P [] [] (m ∷ news) e = absurd e
each_long P [] (o ∷ olds) news e = absurd e
each_long P (q ∷ qs) [] news e = absurd e
each_long P (q ∷ qs) (o ∷ olds) [] e = absurd e
each_long P (q ∷ qs) (o ∷ olds) (m ∷ news) e = ap suc (each_long P qs olds news e.1)

pub columns_long : {F : Type 0} (files_of : F → Option Files) (part : Part F) (granule : ℕ) (types : List ColType) (places : List ℕ) (columns : List Cells) → AreGranuleColumns (λ number. column_in files_of part number) granule types places columns → length columns ≡ length places
columns_long files_of part granule ts places columns are = each_long (λ number. GainsChosen (column_in files_of part number) (lone_chosen granule)) places are.olds columns are.gained

-- the column at a position among the places
pub known_below : {F : Type 0} (files_of : F → Option Files) (part : Part F) (granule : ℕ) (ts : List ColType) (places : List ℕ) (columns : List Cells) (at place : ℕ) → AreGranuleColumns (λ number. column_in files_of part number) granule ts places columns → slice_get places at ≡ Some place → at < length columns
known_below files_of part granule ts places columns at place are place_is =
    let long = columns_long files_of part granule ts places columns are in
    let below = slice_get_within places at place place_is in
    omega (arith, long, below)

pub known_here : (columns : List Cells) (at : ℕ) (column : Cells) → at < length columns → column ≡ get_or columns at column → slice_get columns at ≡ Some column
known_here columns at column below is = slice_get-get_or columns at column below ∙ ap Some (sym is)

-- ---- a column that is read, where all rows of the granule are wanted

-- a granule of the column has as many values as is kept of it
lone_long : {X : Type 0} (c : PartColumn) (granule : ℕ) (xs : List X) → length xs ≡ c.loaded.manifest.rows → length (chosen_of c.loaded.schema.granularity (lone_chosen granule) xs) ≡ rows_in c.loaded (lone granule)
lone_long c granule xs many =
    let size = c.loaded.schema.granularity in
    let kept = c.loaded.manifest.rows in
    let one : size * 1 ≡ size = omega arith in
    ap length (chosen_lone size granule xs) ∙ run_length (size * granule) size kept xs many ∙ ap (λ n. min n (kept - size * granule)) (sym one)

pub gains_whole : (c : PartColumn) (granule : ℕ) (mask : List Bool) (old new : Cells) → IsRunAdded c (lone granule) None old new → list_all (λ b. b) mask ≡ true → length mask ≡ rows_in c.loaded (lone granule) → GainsPicked c (lone_chosen granule) mask old new
gains_whole c granule mask old new read all even =
    let gains = gains_lone c granule old new read in
    let size = c.loaded.schema.granularity in
    let kept = c.loaded.manifest.rows in
    record {
      col_type = gains.col_type;
      even = gains.even ∙ ap (λ n. length old.values + n) (lone_long c granule (range_with_len 0 kept) (length-range_with_len 0 kept) ∙ sym even ∙ sym (ap length (where_whole mask mask all refl)));
      values = λ values held.
          gains.values values held
          ∙ ap (λ (vs : List Value). with_values old vs) (sym (where_whole mask (chosen_of size (lone_chosen granule) values) all (even ∙ sym (lone_long c granule values held.spelled.count_is))));
    }
