-- Columns that get the values of chosen granules, run by run.
use Rattle.std.proofs.Common.{◌≡◌, ℕ, ◌+◌, ◌-◌, ◌*◌, ◌<◌, ◌≤◌, inl, inr, Bool, true, false, List, [], ◌∷◌, ◌++◌, Option, Some, None, refl, sym, ap, ap₂, ◌∙◌, subst, length, length-append, take, get_or, map, slice_get, slice_range, filter_map, All, arith, append_assoc, append-nil, replicate, Result, Ok, Err, OnOk}
use Rattle.std.specs.Int.{div_ceil}
use Rattle.std.specs.List.{range_with_len}
use Rattle.std.specs.Option.{option_and_then}
use Rattle.std.proofs.lemmas.List.{take_all}
use Rattle.std.proofs.lemmas.List.Elements.{All-nil, All-cons, All-head, All-tail}
use Rattle.std.proofs.lemmas.List.FromFn.{length-map-range_with_len}
use Rattle.std.proofs.lemmas.Option.{get_or_from_slice_get, same_Some, slice_get_within}
use Rattle.mt_base.specs.declared.name.FileId.TheVariants as file
use Rattle.mt_values.specs.declared.schema.Schema.{Schema}
use Rattle.mt_values.specs.declared.value.ColType.{ColType}
use Rattle.mt_values.specs.declared.value.Value.{Value}
use Rattle.mt_values.specs.ColumnBytes.{column_bytes}
use Rattle.mt_values.specs.Grid.{Cells, column_of}
use Rattle.mt_values.specs.Schemas.{column_types}
use Rattle.mt_values.specs.Values.{Row}
use Rattle.mt_outside.specs.Files.{Files, bytes_of}
use Rattle.part_damage.specs.byte_numbers.declared.faults.FormatFault.{FormatFault}
use Rattle.part_damage.specs.byte_numbers.declared.faults.FormatFault.TheVariants as format
use Rattle.part_damage.specs.column_file.Faults.{Explains, IsFirstFault}
use Rattle.part_damage.specs.column_file.Granules.{granule_start, marks_of, run_of}
use Rattle.part_damage.specs.column_file.Marks.{granules}
use Rattle.part_damage.specs.column_file.Spellings.{IsSpelling, with_values}
use Rattle.part_damage.proofs.ColumnFileMarked.{run_spelled}
use Rattle.part_damage.proofs.ColumnFileOneWay.{no_spelling}
use Rattle.part_damage.proofs.ColumnFileReading.{gained_spelled}
use Rattle.part_damage.specs.part_writer.declared.loaded.Loaded.{Loaded}
use Rattle.part_damage.proofs.SpelledRows.{column_spelled, types_length}
use Rattle.part_reader.specs.declared.files.Span.{Span}
use Rattle.part_reader.specs.declared.reading.Part.{Part}
use Rattle.part_reader.specs.declared.reading.PartFault.{PartFault}
use Rattle.part_reader.specs.declared.reading.PartFault.TheVariants.{Fault, NoMemory, Damaged}
use Rattle.part_reader.specs.declared.runs.Run.{Run}
use Rattle.part_reader.specs.Columns.{AreEach}
use Rattle.part_reader.specs.Faults.{IsNoDamage, fault_after}
use Rattle.part_reader.specs.Granules.{ExplainsRun, GainsChosen, HoldsValues, IsChosenRun, IsRunAdded, IsRunRead, IsSpanOf, IsSpanRead, PartColumn, chosen_count, chosen_of, column_in, place_of, rows_in, values_in}
use Rattle.part_reader.specs.Parts.{HoldsAt, with_columns}
use Rattle.part_reader.proofs.ChosenItems.{chosen_run, chosen_skip, column_chosen, count_run, run_length, run_since}
use Rattle.part_reader.proofs.SameLists.{mapped_at}
use Rattle.part_reader.proofs.Holding.{AreTyped, columns_held, columns_within, each_typed, misread_explained}

-- ---- a run of a column that holds values

module _ (c : PartColumn) (t : ColType) (values : List Value) (h : HoldsValues c t values) where
  abbrev g : ℕ
  g = c.loaded.schema.granularity

  counted : length values ≡ c.loaded.manifest.rows
  counted = h.spelled.count_is

  marked_at : (k place : ℕ) → place_of c.loaded.places c.number k ≡ Some place → place ≡ granule_start g values k
  marked_at k place here =
      let there : slice_get (marks_of g values) k ≡ Some place = ap (λ (o : Option (List ℕ)). option_and_then (λ (column : List ℕ). slice_get column k) o) (sym h.places) ∙ here in
      let below : k < length (marks_of g values) = slice_get_within (marks_of g values) k place there in
      let n = div_ceil (length values) g + 1 in
      same_Some place (granule_start g values k) (sym there ∙ mapped_at (granule_start g values) n k (omega (arith, below, length-map-range_with_len (granule_start g values) 0 n)))

  marks_there : (k : ℕ) → k ≤ granules g c.loaded.manifest.rows → place_of c.loaded.places c.number k ≡ Some (granule_start g values k)
  marks_there k within =
      let n = div_ceil (length values) g + 1 in
      let same : div_ceil (length values) g ≡ granules g c.loaded.manifest.rows = ap (λ m. div_ceil m g) counted in
      ap (λ (o : Option (List ℕ)). option_and_then (λ (column : List ℕ). slice_get column k) o) h.places ∙ mapped_at (granule_start g values) n k (omega (arith, within, same))

  -- the bytes of a run spell its values
  pub run_is : (run : Run) (span : Span) (bytes : List ℕ) → IsSpanOf c.loaded.places c.number run span → IsSpanRead c span bytes → IsSpelling t (rows_in c.loaded run) bytes (run_of g run.first run.count values)
  run_is run span bytes at read =
      let whole : IsSpelling t (length values) (bytes_of (file.Column c.number) h.files) values = subst (λ n. IsSpelling t n (bytes_of (file.Column c.number) h.files) values) (sym counted) h.spelled in
      let own = run_spelled t values (bytes_of (file.Column c.number) h.files) g run.first run.count whole in
      let same : bytes ≡ slice_range (bytes_of (file.Column c.number) h.files) (granule_start g values run.first) (granule_start g values (run.first + run.count)) =
      read h.files h.told_is ∙ ap₂ (slice_range (bytes_of (file.Column c.number) h.files)) (marked_at run.first span.start at.start) (marked_at (run.first + run.count) span.end at.end) in
      record {
        typed = own.typed;
        count_is = run_length (g * run.first) (g * run.count) c.loaded.manifest.rows values counted;
        spelled = same ∙ own.spelled;
      }

  -- so nothing of it is damaged
  pub no_run_damage : (run : Run) (fault : PartFault) → run.first + run.count ≤ granules g c.loaded.manifest.rows → ExplainsRun c run t fault → IsNoDamage fault
  no_run_damage run Fault within why = tt
  no_run_damage run NoMemory within why = tt
  no_run_damage run (Damaged f place wanted found) within (inl d) =
      absurd (no_spelling t (rows_in c.loaded run) d.bytes d.misread.place (run_of g run.first run.count values) d.misread.wrong (run_is run d.span d.bytes d.span_is d.read))
  no_run_damage run (Damaged f place wanted found) within (inr r) =
      absurd (r.none (record { start = granule_start g values run.first; end = granule_start g values (run.first + run.count) })
      (record { start = marks_there run.first (omega (arith, within)); end = marks_there (run.first + run.count) within }))

-- what is said of bytes of a run that go wrong
pub run_explained : (c : PartColumn) (run : Run) (t : ColType) (span : Span) (rows : ℕ) (bytes seen shown : List ℕ) (error : FormatFault) (why : PartFault) → IsSpanOf c.loaded.places c.number run span → IsSpanRead c span bytes → rows ≡ rows_in c.loaded run → seen ≡ bytes → shown ≡ bytes
    → Explains t rows seen error → why ≡ fault_after span.start c.loaded (file.Column c.number) shown error → ExplainsRun c run t why
run_explained c run t span rows bytes seen shown format.NoMemory why at read many same alike wrong is = subst (ExplainsRun c run t) (sym is) tt
run_explained c run t span rows bytes seen shown (format.Malformed place) why at read many same alike wrong is =
    subst (ExplainsRun c run t) (sym is)
    (inl (record {
      span = span;
      span_is = at;
      bytes = bytes;
      read = read;
      misread = misread_explained (values_in c run t) span.start bytes seen shown place (fault_after span.start c.loaded (file.Column c.number) shown (format.Malformed place)) same alike (subst (λ n. IsFirstFault t n seen place) many wrong) refl;
    }))

-- ---- run after run

module _ (c : PartColumn) (chosen : List Bool) where
  abbrev size : ℕ
  size = c.loaded.schema.granularity

  pub gains_none : (old : Cells) → GainsChosen c [] old old
  gains_none old = record {
    col_type = refl;
    even = omega arith;
    values = λ values h. ap (λ (vs : List Value). record old { values = vs }) (sym (append-nil old.values));
  }

  pub gains_run : (run : Run) (old now new : Cells) → GainsChosen c (take run.first chosen) old now → IsRunRead c run None now new → IsChosenRun chosen run → GainsChosen c (take (run.first + run.count) chosen) old new
  gains_run run old now new before read is =
      let type_is : new.col_type ≡ now.col_type = ap (λ (x : Cells). x.col_type) read.gained.gained in
      let long : length new.values ≡ length now.values + length read.gained.values = ap (λ (x : Cells). length x.values) read.gained.gained ∙ length-append now.values read.gained.values in
      record {
        col_type = type_is ∙ before.col_type;
        even = omega (arith, long, read.gained.spelling.count_is, before.even, count_run size c.loaded.manifest.rows chosen run is);
        values = λ values h.
            let own : IsSpelling now.col_type (rows_in c.loaded run) read.bytes (run_of size run.first run.count values) =
            subst (λ (t : ColType). IsSpelling t (rows_in c.loaded run) read.bytes (run_of size run.first run.count values)) (sym before.col_type) (run_is c old.col_type values h run read.span read.bytes read.span_is read.read) in
            gained_spelled (rows_in c.loaded run) read.bytes now new (run_of size run.first run.count values) read.gained own
            ∙ ap (λ (x : Cells). with_values x (run_of size run.first run.count values)) (before.values values h)
            ∙ ap (λ (vs : List Value). record old { values = vs })
            (append_assoc old.values (chosen_of size (take run.first chosen) values) (run_of size run.first run.count values) ∙ ap (λ (vs : List Value). old.values ++ vs) (sym (chosen_run size chosen run values is)));
      }

  -- the same of a run that may be empty
  pub gains_added : (run : Run) (old now new : Cells) → GainsChosen c (take run.first chosen) old now → IsRunAdded c run None now new → IsChosenRun chosen run → GainsChosen c (take (run.first + run.count) chosen) old new
  gains_added run old now new before (inr read) is = gains_run run old now new before read is
  gains_added run old now new before (inl empty) is =
      let none : run.count ≡ 0 = empty.0 in
      subst (λ (x : Cells). GainsChosen c (take (run.first + run.count) chosen) old x) (sym empty.1) (subst (λ n. GainsChosen c (take n chosen) old now) (omega (arith, none)) before)

  pub gains_skip : (granule : ℕ) (old new : Cells) → granule < length chosen → get_or chosen granule false ≡ false → GainsChosen c (take granule chosen) old new → GainsChosen c (take (granule + 1) chosen) old new
  gains_skip granule old new below not before = record {
    col_type = before.col_type;
    even = before.even ∙ ap (λ n. length old.values + n) (ap length (sym (chosen_skip size chosen granule (range_with_len 0 c.loaded.manifest.rows) below not)));
    values = λ values h. before.values values h ∙ ap (with_values old) (sym (chosen_skip size chosen granule values below not));
  }

  -- up to a granule that is not chosen
  pub gains_over : (first granule : ℕ) (old now new : Cells) → first ≤ granule → granule < length chosen → get_or chosen granule false ≡ false → take granule chosen ≡ take first chosen ++ replicate (granule - first) true → GainsChosen c (take first chosen) old now
      → IsRunAdded c (record { first = first; count = granule - first }) None now new → GainsChosen c (take (granule + 1) chosen) old new
  gains_over first granule old now new before below not run gained read =
      let this : Run = record { first = first; count = granule - first } in
      let is : IsChosenRun chosen this = run_since chosen this granule before (omega (arith, below)) refl run in
      gains_skip granule old new below not (subst (λ n. GainsChosen c (take n chosen) old new) (omega (arith, before)) (gains_added this old now new gained read is))

  -- up to the last one
  pub gains_last : (first granule count : ℕ) (old now new : Cells) (result : Result (Unit {0}) PartFault) → first ≤ granule → granule ≡ length chosen → count ≡ granule - first → take granule chosen ≡ take first chosen ++ replicate (granule - first) true → GainsChosen c (take first chosen) old now
      → OnOk result (IsRunAdded c (record { first = first; count = count }) None now new) → OnOk result (GainsChosen c chosen old new)
  gains_last first granule count old now new (Err e) before end counted run gained read = tt
  gains_last first granule count old now new (Ok x) before end counted run gained read =
      let this : Run = record { first = first; count = count } in
      let is : IsChosenRun chosen this = run_since chosen this granule before (omega (arith, end)) counted run in
      let all : take (first + count) chosen ≡ chosen = take_all (first + count) chosen (omega (arith, before, end, counted)) in
      subst (λ (cs : List Bool). GainsChosen c cs old new) all (gains_added this old now new gained read is)

-- ---- columns of a part that holds rows

module _ {F : Type 0} (files_of : F → Option Files) (schema : Schema) (part : Part F) (places : List ℕ) (rows : List Row) (h : HoldsAt files_of schema part (map file.Column places) rows) where
  -- each holds its values
  pub held_column : (place : ℕ) (t : ColType) → slice_get (column_types schema) place ≡ Some t → bytes_of (file.Column place) h.files ≡ column_bytes (column_of place rows) → HoldsValues (column_in files_of part place) t (column_of place rows)
  held_column place t here held =
      let below : place < length (column_types schema) = slice_get_within (column_types schema) place t here in
      subst (λ (l : Loaded). HoldsValues (record { told = files_of part.dir; loaded = l; number = place }) t (column_of place rows)) (sym h.loaded_is)
      (record {
        files = h.files;
        told_is = h.files_are;
        spelled = column_spelled (column_types schema) rows place t (length rows) (bytes_of (file.Column place) h.files) here h.typed h.encodable refl held;
        places = mapped_at (λ column. marks_of schema.granularity (column_of column rows)) (length schema.columns) place (omega (arith, below, types_length schema));
      })

  -- nothing of a run of one of them is damaged
  pub run_sound : (at number : ℕ) (t : ColType) (run : Run) (fault : PartFault) → slice_get places at ≡ Some number → slice_get (column_types schema) number ≡ Some t → run.first + run.count ≤ granules part.loaded.schema.granularity part.loaded.manifest.rows
      → ExplainsRun (column_in files_of part number) run t fault → IsNoDamage fault
  run_sound at number t run fault number_is type_is within why =
      let held : bytes_of (file.Column number) h.files ≡ column_bytes (column_of number rows) =
      subst (λ p. bytes_of (file.Column p) h.files ≡ column_bytes (column_of p rows)) (get_or_from_slice_get places at number 0 number_is)
      (columns_held files_of schema part places rows h at 0 (slice_get_within places at number number_is)) in
      no_run_damage (column_in files_of part number) t (column_of number rows) (held_column number t type_is held) run fault within why

  gained_each : (g : ℕ) (chosen : List Bool) (ps : List ℕ) (olds news : List Cells) → g ≡ part.loaded.schema.granularity → All (λ place. bytes_of (file.Column place) h.files ≡ column_bytes (column_of place rows)) ps → AreTyped (column_types schema) ps olds
      → AreEach (λ place. GainsChosen (column_in files_of part place) chosen) ps olds news → news ≡ with_columns (chosen_of g chosen rows) ps olds
  gained_each g chosen [] [] [] is held typed gained = refl
  gained_each g chosen [] [] (n ∷ news) is held typed gained = absurd gained
  gained_each g chosen [] (o ∷ olds) news is held typed gained = absurd typed
  gained_each g chosen (p ∷ ps) [] news is held typed gained = absurd typed
  gained_each g chosen (p ∷ ps) (o ∷ olds) [] is held typed gained = absurd gained
  gained_each g chosen (p ∷ ps) (o ∷ olds) (n ∷ news) is held typed gained =
      let own = held_column p o.col_type typed.0 (All-head (λ place. bytes_of (file.Column place) h.files ≡ column_bytes (column_of place rows)) p ps held) in
      ap₂ (λ (c : Cells) (cs : List Cells). c ∷ cs)
      (gained.0.values (column_of p rows) own
      ∙ ap (with_values o) (ap (λ m. chosen_of m chosen (column_of p rows)) (sym is) ∙ sym (column_chosen (column_types schema) g p chosen rows h.typed (slice_get_within (column_types schema) p o.col_type typed.0))))
      (gained_each g chosen ps olds news is (All-tail (λ place. bytes_of (file.Column place) h.files ≡ column_bytes (column_of place rows)) p ps held) typed.1 gained.1)

  -- they get those of the chosen rows
  pub chosen_rows : (chosen : List Bool) (olds news : List Cells) → map (λ (c : Cells). c.col_type) olds ≡ filter_map (slice_get (column_types schema)) places
      → AreEach (λ place. GainsChosen (column_in files_of part place) chosen) places olds news → news ≡ with_columns (chosen_of part.loaded.schema.granularity chosen rows) places olds
  chosen_rows chosen olds news typed gained =
      gained_each part.loaded.schema.granularity chosen places olds news refl (columns_held files_of schema part places rows h)
      (each_typed (column_types schema) places olds (columns_within files_of schema part places rows h) typed) gained

-- ---- what each column gets

module _ {F : Type 0} (files_of : F → Option Files) (part : Part F) (chosen : List Bool) where
  abbrev Gains : ℕ → Cells → Cells → Type 0
  Gains place = GainsChosen (column_in files_of part place) chosen

  pub chosen_types : (places : List ℕ) (olds news : List Cells) → AreEach Gains places olds news → map (λ (c : Cells). c.col_type) news ≡ map (λ (c : Cells). c.col_type) olds
  chosen_types [] [] [] gained = refl
  chosen_types [] [] (n ∷ news) gained = absurd gained
  chosen_types [] (o ∷ olds) [] gained = absurd gained
  chosen_types [] (o ∷ olds) (n ∷ news) gained = absurd gained
  chosen_types (p ∷ places) [] [] gained = absurd gained
  chosen_types (p ∷ places) [] (n ∷ news) gained = absurd gained
  chosen_types (p ∷ places) (o ∷ olds) [] gained = absurd gained
  chosen_types (p ∷ places) (o ∷ olds) (n ∷ news) gained = ap₂ (λ (t : ColType) (ts : List ColType). t ∷ ts) gained.0.col_type (chosen_types places olds news gained.1)

  abbrev many : ℕ
  many = chosen_count part.loaded.schema.granularity chosen part.loaded.manifest.rows

  pub chosen_even : (count : ℕ) (places : List ℕ) (olds news : List Cells) → AreEach Gains places olds news → All (λ (c : Cells). length c.values ≡ count) olds → All (λ (c : Cells). length c.values ≡ count + many) news
  chosen_even count [] [] [] gained even = All-nil (λ (c : Cells). length c.values ≡ count + many)
  chosen_even count [] [] (n ∷ news) gained even = absurd gained
  chosen_even count [] (o ∷ olds) [] gained even = absurd gained
  chosen_even count [] (o ∷ olds) (n ∷ news) gained even = absurd gained
  chosen_even count (p ∷ places) [] [] gained even = absurd gained
  chosen_even count (p ∷ places) [] (n ∷ news) gained even = absurd gained
  chosen_even count (p ∷ places) (o ∷ olds) [] gained even = absurd gained
  chosen_even count (p ∷ places) (o ∷ olds) (n ∷ news) gained even =
      All-cons (λ (c : Cells). length c.values ≡ count + many) n news (gained.0.even ∙ ap (λ k. k + many) (All-head (λ (c : Cells). length c.values ≡ count) o olds even))
      (chosen_even count places olds news gained.1 (All-tail (λ (c : Cells). length c.values ≡ count) o olds even))
