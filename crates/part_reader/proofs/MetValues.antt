-- Rows of a granule at which a mask is true, added to columns.
use Rattle.std.proofs.Common.{◌≡◌, ℕ, suc, ◌+◌, ◌<◌, ◌≤◌, Bool, true, false, List, [], ◌∷◌, ◌++◌, Option, Some, refl, sym, ap, ap₂, ◌∙◌, subst, length, get_or, map, slice_get, filter_map, All, arith, append-nil}
use Rattle.std.specs.List.{cons_option}
use Rattle.std.proofs.lemmas.List.Elements.{All-cons, All-head, All-nil, All-tail}
use Rattle.std.proofs.lemmas.Option.{slice_get-get_or, slice_get_within}
use Rattle.std.proofs.lemmas.Simd.{map-map}
use Rattle.mt_base.specs.declared.name.FileId.TheVariants as file
use Rattle.mt_outside.specs.Files.{Files, bytes_of}
use Rattle.mt_values.specs.declared.schema.Schema.{Schema}
use Rattle.mt_values.specs.declared.value.ColType.{ColType}
use Rattle.mt_values.specs.declared.value.Value.{Value}
use Rattle.mt_values.specs.declared.value.Value.TheVariants as value
use Rattle.mt_values.specs.ColumnBytes.{column_bytes}
use Rattle.mt_values.specs.Grid.{Cells, column_of}
use Rattle.mt_values.specs.Lists.{where_true}
use Rattle.mt_values.specs.Printing.{selected}
use Rattle.mt_values.specs.Schemas.{column_types}
use Rattle.mt_values.specs.Values.{Row, types_of}
use Rattle.part_damage.specs.column_file.Spellings.{with_values}
use Rattle.part_reader.specs.declared.met_rows.Met.{Met}
use Rattle.part_reader.specs.declared.met_rows.Query.{Query}
use Rattle.part_reader.specs.declared.reading.Part.{Part}
use Rattle.part_reader.specs.Columns.{AreEach}
use Rattle.part_reader.specs.Granules.{PartColumn, chosen_of, column_in}
use Rattle.part_reader.specs.Parts.{HoldsAt, with_columns}
use Rattle.part_reader.specs.Picks.{GainsPicked}
use Rattle.part_reader.specs.Readings.{IsFirstLeft, from_granule, granule_items, lone_chosen}
use Rattle.part_reader.specs.Sieves.{AddsMet, IsMet, Sifting, asking_of, count_true, met_items, passes, sifting_of}
use Rattle.part_reader.proofs.ChosenColumns.{held_column}
use Rattle.part_reader.proofs.ChosenItems.{column_chosen}
use Rattle.part_reader.proofs.CutRows.{HaveAll, chosen_every, typed_have_all}
use Rattle.part_reader.proofs.Holding.{AreTyped, columns_held, columns_within, each_typed}
use Rattle.part_reader.proofs.LeftGranules.{chosen_lone, columns_rows, from_again, granule_many}
use Rattle.part_reader.proofs.SiftedRows.{true_few, where_count, where_filter, where_gone}

-- the values of the rows at which a mask is true
where_column : (p : ℕ) (m : List Bool) (rows : List Row) → All (λ (row : Row). p < length row) rows → where_true m (column_of p rows) ≡ column_of p (where_true m rows)
where_column p [] rows have = refl
where_column p (b ∷ m) [] have = refl
where_column p (true ∷ m) (row ∷ rows) have =
    let any : Value = value.UInt8 0 in
    let here : slice_get row p ≡ Some (get_or row p any) = slice_get-get_or row p any (All-head (λ (r : Row). p < length r) row rows have) in
    ap (λ o. where_true (true ∷ m) (cons_option o (column_of p rows))) here
    ∙ ap (λ vs. get_or row p any ∷ vs) (where_column p m rows (All-tail (λ (r : Row). p < length r) row rows have))
    ∙ ap (λ o. cons_option o (column_of p (where_true m rows))) (sym here)
where_column p (false ∷ m) (row ∷ rows) have =
    let any : Value = value.UInt8 0 in
    let here : slice_get row p ≡ Some (get_or row p any) = slice_get-get_or row p any (All-head (λ (r : Row). p < length r) row rows have) in
    ap (λ o. where_true (false ∷ m) (cons_option o (column_of p rows))) here
    ∙ where_column p m rows (All-tail (λ (r : Row). p < length r) row rows have)

module _ {F : Type 0} (files_of : F → Option Files) (schema : Schema) (part : Part F) (places : List ℕ) (rows : List Row) (h : HoldsAt files_of schema part (map file.Column places) rows) (granule : ℕ) (mask : List Bool) where
  abbrev size : ℕ
  size = part.loaded.schema.granularity

  abbrev items : List Row
  items = chosen_of size (lone_chosen granule) rows

  abbrev Gains : ℕ → Cells → Cells → Type 0
  Gains place = GainsPicked (column_in files_of part place) (lone_chosen granule) mask

  each_added : (ps : List ℕ) (olds news : List Cells) → All (λ place. bytes_of (file.Column place) h.files ≡ column_bytes (column_of place rows)) ps → AreTyped (column_types schema) ps olds → HaveAll ps items → AreEach Gains ps olds news
      → news ≡ with_columns (where_true mask items) ps olds
  each_added [] [] [] held typed fit gained = refl
  each_added [] [] (n ∷ news) held typed fit gained = absurd gained
  each_added [] (o ∷ olds) news held typed fit gained = absurd typed
  each_added (p ∷ ps) [] news held typed fit gained = absurd typed
  each_added (p ∷ ps) (o ∷ olds) [] held typed fit gained = absurd gained
  each_added (p ∷ ps) (o ∷ olds) (n ∷ news) held typed fit gained =
      let own = held_column files_of schema part places rows h p o.col_type typed.0 (All-head (λ place. bytes_of (file.Column place) h.files ≡ column_bytes (column_of place rows)) p ps held) in
      let reach : All (λ (row : Row). p < length row) items = All-head (λ place. All (λ (row : Row). place < length row) items) p ps fit in
      let same : where_true mask (chosen_of size (lone_chosen granule) (column_of p rows)) ≡ column_of p (where_true mask items) =
      ap (where_true mask) (sym (column_chosen (column_types schema) size p (lone_chosen granule) rows h.typed (slice_get_within (column_types schema) p o.col_type typed.0))) ∙ where_column p mask items reach in
      ap₂ (λ (c : Cells) (cs : List Cells). c ∷ cs) (gained.0.values (column_of p rows) own ∙ ap (with_values o) same)
      (each_added ps olds news (All-tail (λ place. bytes_of (file.Column place) h.files ≡ column_bytes (column_of place rows)) p ps held) typed.1 (All-tail (λ place. All (λ (row : Row). place < length row) items) p ps fit) gained.1)

  -- the columns get the values of the rows of the granule at which the mask is true
  pub met_added : (olds news : List Cells) → map (λ (c : Cells). c.col_type) olds ≡ filter_map (slice_get (column_types schema)) places → AreEach Gains places olds news → news ≡ with_columns (where_true mask (granule_items size granule rows)) places olds
  met_added olds news typed gained =
      let within = columns_within files_of schema part places rows h in
      let every = chosen_every (λ (row : Row). types_of row ≡ column_types schema) size (lone_chosen granule) rows h.typed in
      subst (λ (rs : List Row). news ≡ with_columns (where_true mask rs) places olds) (chosen_lone size granule rows)
      (each_added places olds news (columns_held files_of schema part places rows h) (each_typed (column_types schema) places olds within typed) (typed_have_all (column_types schema) places items within every) gained)

-- ---- what each column gets

module _ {F : Type 0} (files_of : F → Option Files) (part : Part F) (granule : ℕ) (mask : List Bool) where
  abbrev GainsMet : ℕ → Cells → Cells → Type 0
  GainsMet place = GainsPicked (column_in files_of part place) (lone_chosen granule) mask

  -- their types stay
  pub met_types : (places : List ℕ) (olds news : List Cells) → AreEach GainsMet places olds news → map (λ (c : Cells). c.col_type) news ≡ map (λ (c : Cells). c.col_type) olds
  met_types [] [] [] gained = refl
  met_types [] [] (n ∷ news) gained = absurd gained
  met_types [] (o ∷ olds) [] gained = absurd gained
  met_types [] (o ∷ olds) (n ∷ news) gained = absurd gained
  met_types (p ∷ places) [] [] gained = absurd gained
  met_types (p ∷ places) [] (n ∷ news) gained = absurd gained
  met_types (p ∷ places) (o ∷ olds) [] gained = absurd gained
  met_types (p ∷ places) (o ∷ olds) (n ∷ news) gained = ap₂ (λ (t : ColType) (ts : List ColType). t ∷ ts) gained.0.col_type (met_types places olds news gained.1)

  -- each gets a value for each row that is wanted
  pub met_even : (count : ℕ) (places : List ℕ) (olds news : List Cells) → AreEach GainsMet places olds news → All (λ (c : Cells). length c.values ≡ count) olds → All (λ (c : Cells). length c.values ≡ count + count_true mask) news
  met_even count [] [] [] gained even = All-nil (λ (c : Cells). length c.values ≡ count + count_true mask)
  met_even count [] [] (n ∷ news) gained even = absurd gained
  met_even count [] (o ∷ olds) [] gained even = absurd gained
  met_even count [] (o ∷ olds) (n ∷ news) gained even = absurd gained
  met_even count (p ∷ places) [] [] gained even = absurd gained
  met_even count (p ∷ places) [] (n ∷ news) gained even = absurd gained
  met_even count (p ∷ places) (o ∷ olds) [] gained even = absurd gained
  met_even count (p ∷ places) (o ∷ olds) (n ∷ news) gained even =
      All-cons (λ (c : Cells). length c.values ≡ count + count_true mask) n news (gained.0.even ∙ ap (λ k. k + count_true mask) (All-head (λ (c : Cells). length c.values ≡ count) o olds even))
      (met_even count places olds news gained.1 (All-tail (λ (c : Cells). length c.values ≡ count) o olds even))

  -- where no row is wanted, nothing is
  same_gains : (c : PartColumn) (chosen : List Bool) (old : Cells) → count_true mask ≡ 0 → GainsPicked c chosen mask old old
  same_gains c chosen old none = record {
    col_type = refl;
    even = omega (arith, none);
    values = λ values held.
        ap (λ (vs : List Value). record old { values = vs })
        (sym (ap (λ (vs : List Value). old.values ++ vs) (where_gone mask (chosen_of c.loaded.schema.granularity chosen values) none) ∙ append-nil old.values));
  }

  pub all_same : (places : List ℕ) (columns : List Cells) → length columns ≡ length places → count_true mask ≡ 0 → AreEach GainsMet places columns columns
  all_same [] [] many none = tt
  all_same [] (c ∷ cs) many none = absurd (omega (arith, many))
  all_same (p ∷ places) [] many none = absurd (omega (arith, many))
  all_same (p ∷ places) (c ∷ cs) many none = (same_gains (column_in files_of part p) (lone_chosen granule) c none, all_same places cs (omega (arith, many)) none)

-- there is a column for each place
pub typed_many : (types : List ColType) (places : List ℕ) (columns : List Cells) → AreTyped types places columns → length columns ≡ length places
typed_many types [] [] typed = refl
typed_many types [] (c ∷ cs) typed = absurd typed
typed_many types (p ∷ places) [] typed = absurd typed
typed_many types (p ∷ places) (c ∷ cs) typed = ap suc (typed_many types places cs typed.1)

-- ---- what a call adds

module _ {F : Type 0} (files_of : F → Option Files) (schema : Schema) (part : Part F) (query : Query) (most : ℕ) where
  abbrev pub sifting : List Bool → Sifting F
  sifting left = sifting_of schema part query most left

  -- the rows of a granule that its mask keeps are those that meet what is asked there
  met_filtered : (left : List Bool) (granule : ℕ) (met : Met) (rows : List Row) → IsMet files_of schema part query granule met → HoldsAt files_of schema part (map file.Column met.places.now) rows
      → where_true met.mask.items (granule_items part.loaded.schema.granularity granule rows) ≡ met_items (sifting left) granule rows
  met_filtered left granule met rows is held =
      let items = granule_items part.loaded.schema.granularity granule rows in
      let test = passes (asking_of query.sieves.now) granule in
      let made = columns_rows files_of part granule (column_types schema) met.places.now met.columns.items is.answers.columns schema rows held refl in
      ap (λ m. where_true m items)
      (is.mask ∙ ap (map test) (made ∙ ap (λ ps. map (selected ps) items) is.places) ∙ map-map test (selected query.asked.now) items)
      ∙ where_filter (λ row. test (selected query.asked.now row)) items

  -- of the first granule that is left the rows are added that meet what is asked there, and the granules after it are left
  pub adds_met : (chosen : List Bool) (at granule : ℕ) (met : Met) (olds news : List Cells) (count : ℕ) → at ≤ granule → IsFirstLeft part.loaded (from_granule at chosen) granule → IsMet files_of schema part query granule met
      → map (λ (c : Cells). c.col_type) olds ≡ filter_map (slice_get (column_types schema)) query.wanted.now → count ≡ count_true met.mask.items
      → AreEach (λ place. GainsPicked (column_in files_of part place) (lone_chosen granule) met.mask.items) query.wanted.now olds news
      → AddsMet files_of (sifting (from_granule at chosen)) (sifting (from_granule (granule + 1) chosen)) olds news count
  adds_met chosen at granule met olds news count above first is typed counted gained =
      let mask = met.mask.items in
      let places = query.wanted.now in
      let size = part.loaded.schema.granularity in
      let left = from_granule at chosen in
      record {
        granule = granule;
        first = first;
        rest = ap sifting (sym (from_again at (granule + 1) chosen (omega (arith, above))));
        within = omega (arith, counted, true_few mask, is.answers.count);
        few = omega (arith, counted, true_few mask, is.answers.few);
        types = met_types files_of part granule mask places olds news gained;
        even = λ n even. subst (λ k. All (λ (c : Cells). length c.values ≡ n + k) news) (sym counted) (met_even files_of part granule mask n places olds news gained even);
        counted = λ rows asked wanted.
            let own = subst (λ ps. HoldsAt files_of schema part (map file.Column ps) rows) (sym is.places) asked in
            let even : length mask ≡ length (granule_items size granule rows) = is.answers.count ∙ sym (granule_many files_of schema part places rows wanted granule) in
            counted ∙ sym (where_count mask (granule_items size granule rows) even) ∙ ap length (met_filtered left granule met rows is own);
        values = λ rows asked wanted.
            let own = subst (λ ps. HoldsAt files_of schema part (map file.Column ps) rows) (sym is.places) asked in
            met_added files_of schema part places rows wanted granule mask olds news typed gained ∙ ap (λ rs. with_columns rs places olds) (met_filtered left granule met rows is own);
      }
