-- The columns of a part gone over: what is kept of the part is that of all of them, or is not.
use Rattle.std.proofs.Common.{◌≡◌, ℕ, zero, suc, ◌+◌, ◌-◌, ◌*◌, ◌^◌, ◌<◌, ◌≤◌, ◌⊎◌, ◌↔◌, ◌&&◌, inl, inr, Bool, true, false, List, [], ◌∷◌, ◌++◌, Option, Some, None, refl, sym, ap, ap₂, ◌∙◌, subst, length, map, min, get_or, slice_get, take, All, arith, IsSomeAnd}
use Rattle.std.specs.Option.{ForSome}
use Rattle.std.proofs.lemmas.Bool.{cases_lt}
use Rattle.std.proofs.lemmas.Bool.Decides.{Decides-and, Decides-like}
use Rattle.std.proofs.lemmas.List.{length_push, take_all}
use Rattle.std.proofs.lemmas.List.FromFn.{length-map-range_with_len}
use Rattle.std.proofs.lemmas.Option.{get_or_from_slice_get, same_Some, slice_get-get_or, slice_get_within}
use Rattle.mt_base.specs.declared.name.FileId.{FileId}
use Rattle.mt_base.specs.declared.name.FileId.TheVariants as file
use Rattle.mt_values.specs.declared.manifest.Manifest.{Manifest}
use Rattle.mt_values.specs.declared.schema.Schema.{Schema}
use Rattle.mt_values.specs.declared.schema.SkipIndex.{SkipIndex}
use Rattle.mt_values.specs.declared.value.ColType.{ColType}
use Rattle.mt_values.specs.declared.value.Value.{Value}
use Rattle.mt_values.specs.ColumnBytes.{column_bytes}
use Rattle.mt_values.specs.Grid.{column_of}
use Rattle.mt_values.specs.Schemas.{column_types}
use Rattle.mt_values.specs.Values.{Row}
use Rattle.mt_values.proofs.Grids.{lengths_typed}
use Rattle.mt_values.proofs.OrderBy.{length_column}
use Rattle.mt_outside.specs.Files.{Files, bytes_of}
use Rattle.part_damage.specs.column_file.Granules.{marks_of}
use Rattle.part_damage.specs.column_file.Marks.{granule_places, granules, mark_keys, with_final}
use Rattle.part_damage.specs.column_file.Spellings.{IsSpelling, Spells}
use Rattle.part_damage.proofs.ColumnFileOneWay.{one_spelling}
use Rattle.part_damage.specs.primary_marks.Keys.{ArePartRows, HasMarks}
use Rattle.part_damage.proofs.PrimaryMarksKeysRead.{slice_get-push_new, slice_get-push_old}
use Rattle.part_damage.specs.part_writer.PartFiles.{content_ids, indexes_of, loaded_of}
use Rattle.part_damage.specs.skip_index.Blocks.{blocks_of, index_of, index_over, kept_of, no_index}
use Rattle.part_damage.specs.part_writer.PartFiles.{HasIndexes}
use Rattle.part_reader.specs.Compared.{index_kept}
use Rattle.part_damage.specs.part_writer.declared.loaded.Loaded.{Loaded}
use Rattle.part_damage.proofs.PartWriterContents.{IsColumnAt, content_length, numbered_is}
use Rattle.part_damage.specs.Sound.{AreChecked, AreRowsRead, IsReadAs, IsSound}
use Rattle.part_damage.proofs.SpelledRows.{column_spelled, rows_of_bytes, types_length}
use Rattle.part_reader.specs.declared.comparing.Agreement.{Agreement}
use Rattle.part_reader.specs.Compared.{HasIndexOf, HasKeysOf, HasPlacesOf, IsCompared, IsFirstFailing, both_agree, first_of, whole}
use Rattle.part_reader.proofs.Damages.{checked_more}
use Rattle.part_reader.proofs.SameLists.{failing_both, failing_like, item_there, mapped_at, same_list}
use Rattle.part_reader.proofs.KeptColumns.{mark_column, mark_width, marks_by_columns}

-- ---- what holds at each place of a list

abbrev pub Each : {X : Type 0} → (ℕ → X → Type 0) → List X → Type 0
Each {X} P xs = (i : ℕ) (x : X) → slice_get xs i ≡ Some x → P i x

module _ {X : Type 0} (P : ℕ → X → Type 0) (xs : List X) (x : X) where
  each_front : Each P (xs ++ x ∷ []) → Each P xs
  each_front each i y here = each i y (slice_get-push_old xs x i (slice_get_within xs i y here) ∙ here)

  each_last : Each P (xs ++ x ∷ []) → P (length xs) x
  each_last each = each (length xs) x (slice_get-push_new xs x (length xs) refl)

  each_push : Each P xs → P (length xs) x → Each P (xs ++ x ∷ [])
  each_push each this i y here = either (cases_lt i (length xs))
    where
      within : i < length (xs ++ x ∷ [])
      within = slice_get_within (xs ++ x ∷ []) i y here

      either : (i < length xs) ⊎ (length xs ≤ i) → P i y
      either (inl h) = each i y (sym (slice_get-push_old xs x i h) ∙ here)
      either (inr h) =
          let last : length xs ≡ i = omega (arith, within, length_push xs x) in
          let same : x ≡ y = same_Some x y (sym (slice_get-push_new xs x i last) ∙ here) in
          subst (λ (z : X). P i z) same (subst (λ k. P k x) last this)

-- ---- the columns that were read

-- the bytes of a column, and the values that they spell
pub record ColumnRead : Type 0 where
  pub bytes : List ℕ
  pub values : List Value

-- the bytes were read of the column with this number, and spell the values of its type, as many as the manifest says
pub record IsColumnRead (told : Option Files) (schema : Schema) (manifest : Manifest) (number : ℕ) (column : ColumnRead) : Type 0 where
  pub read : ForSome told (λ files. column.bytes ≡ bytes_of (file.Column number) files)
  pub col_type : ColType
  pub type_is : slice_get (column_types schema) number ≡ Some col_type
  pub spelling : IsSpelling col_type manifest.rows column.bytes column.values

-- what is kept has places of each column, and these are those of the columns that were read
abbrev pub AllPlaces : Schema → Loaded → List ColumnRead → Type 0
AllPlaces schema loaded columns = (length loaded.places ≡ length schema.columns) × Each (λ (n : ℕ) (c : ColumnRead). HasPlacesOf schema loaded n c.values) columns

-- and keys with a value of each column of the key, and these are those of the columns that were read
abbrev pub AllKeys : Schema → Loaded → List ColumnRead → Type 0
AllKeys schema loaded columns = All (λ (key : Row). length key ≡ length schema.primary) loaded.marks × Each (λ (n : ℕ) (c : ColumnRead). HasKeysOf schema loaded n c.values) columns

-- and of each skip index what is kept is that of its column, where that was read
abbrev pub AllOfIndex : Schema → Loaded → List ColumnRead → ℕ → Type 0
AllOfIndex schema loaded columns place = Each (λ (n : ℕ) (c : ColumnRead). HasIndexOf schema loaded n c.values place) columns

-- the first files are gone over
pub record AreGoneOver (told : Option Files) (schema : Schema) (loaded : Loaded) (count : ℕ) (agreed : Agreement) : Type 0 where
  pub checked : AreChecked told schema loaded.manifest (take count (content_ids schema))
  pub columns : List ColumnRead
  pub count_is : length columns ≡ count - (length schema.indexes + 2)
  pub each : Each (λ n c. IsColumnRead told schema loaded.manifest n c) columns
  pub places : (agreed.places ≡ true) ↔ AllPlaces schema loaded columns
  pub keys : (agreed.keys ≡ true) ↔ AllKeys schema loaded columns
  pub index : IsFirstFailing (AllOfIndex schema loaded columns) agreed.index

none_each : {X : Type 0} (P : ℕ → X → Type 0) → Each P []
none_each P i x here = absurd cc

pub gone_over_none : (told : Option Files) (schema : Schema) (loaded : Loaded) (agreed : Agreement) → (agreed.places ≡ true) ↔ (length loaded.places ≡ length schema.columns) → (agreed.keys ≡ true) ↔ All (λ (key : Row). length key ≡ length schema.primary) loaded.marks
    → agreed.index ≡ None → AreGoneOver told schema loaded 0 agreed
gone_over_none told schema loaded agreed places keys none = record {
  checked = tt;
  columns = [];
  count_is = omega arith;
  each = none_each (λ n c. IsColumnRead told schema loaded.manifest n c);
  places = Decides-like agreed.places (λ h. (h, none_each (λ (n : ℕ) (c : ColumnRead). HasPlacesOf schema loaded n c.values))) (λ h. h.0) places;
  keys = Decides-like agreed.keys (λ h. (h, none_each (λ (n : ℕ) (c : ColumnRead). HasKeysOf schema loaded n c.values))) (λ h. h.0) keys;
  index = subst (IsFirstFailing (AllOfIndex schema loaded [])) (sym none) (λ place. none_each (λ (n : ℕ) (c : ColumnRead). HasIndexOf schema loaded n c.values place));
}

-- ---- one file more

true_last : (a b : Bool) → b ≡ true → (a && b) ≡ a
true_last true b e = e
true_last false b e = refl

module _ (told : Option Files) (schema : Schema) (loaded : Loaded) where
  abbrev manifest : Manifest
  manifest = loaded.manifest

  column_sound : (n : ℕ) (one : Agreement) (bytes : List ℕ) → IsCompared schema loaded (file.Column n) bytes one → IsSound schema manifest (file.Column n) bytes
  column_sound n one bytes c = record {
    marked = c.marked;
    spelled = subst (λ (o : Option ColType). IsSomeAnd o (λ t. Spells t manifest.rows bytes)) (sym c.are.type_is) (record { values = c.are.values; spelling = c.are.spelling });
  }

  none_more : (o : Option ℕ) → first_of o None ≡ o
  none_more None = refl
  none_more (Some a) = refl

  -- a file that is compared with nothing by itself
  same_agreed : (agreed one new : Agreement) → one ≡ whole → new ≡ both_agree agreed one → new ≡ agreed
  same_agreed agreed one new all e =
      e ∙ ap (both_agree agreed) all
      ∙ ap₂ (λ (p k : Bool). record { places = p; keys = k; index = first_of agreed.index None }) (true_last agreed.places true refl) (true_last agreed.keys true refl)
      ∙ ap (λ (o : Option ℕ). record { places = agreed.places; keys = agreed.keys; index = o }) (none_more agreed.index)

  opened_over : (count : ℕ) (agreed new : Agreement) → AreGoneOver told schema loaded count agreed → new ≡ agreed → count < length schema.indexes + 2 → AreChecked told schema manifest (take (count + 1) (content_ids schema)) → AreGoneOver told schema loaded (count + 1) new
  opened_over count agreed new g same few checked = record {
    checked = checked;
    columns = g.columns;
    count_is = omega (arith, g.count_is, few);
    each = g.each;
    places = subst (λ (a : Agreement). (a.places ≡ true) ↔ AllPlaces schema loaded g.columns) (sym same) g.places;
    keys = subst (λ (a : Agreement). (a.keys ≡ true) ↔ AllKeys schema loaded g.columns) (sym same) g.keys;
    index = subst (λ (a : Agreement). IsFirstFailing (AllOfIndex schema loaded g.columns) a.index) (sym same) g.index;
  }

  column_over : (count n : ℕ) (agreed one new : Agreement) → count ≡ length schema.indexes + n + 2 → AreGoneOver told schema loaded count agreed → IsReadAs told (file.Column n) (λ bytes. IsCompared schema loaded (file.Column n) bytes one)
      → new ≡ both_agree agreed one → AreChecked told schema manifest (take (count + 1) (content_ids schema)) → AreGoneOver told schema loaded (count + 1) new
  column_over count n agreed one new place g r e checked =
      let compared = r.are.are in
      let column : ColumnRead = record { bytes = r.bytes; values = compared.values } in
      let here : length g.columns ≡ n = omega (arith, g.count_is, place) in
      let Places : ℕ → ColumnRead → Type 0 = λ k c. HasPlacesOf schema loaded k c.values in
      let Keys : ℕ → ColumnRead → Type 0 = λ k c. HasKeysOf schema loaded k c.values in
      let Read : ℕ → ColumnRead → Type 0 = λ k c. IsColumnRead told schema manifest k c in
      let Index : ℕ → ℕ → ColumnRead → Type 0 = λ i k c. HasIndexOf schema loaded k c.values i in
      record {
        checked = checked;
        columns = g.columns ++ column ∷ [];
        count_is = omega (arith, here, place, length_push g.columns column);
        each = each_push Read g.columns column g.each (subst (λ k. Read k column) (sym here) (record { read = r.read; col_type = compared.col_type; type_is = compared.type_is; spelling = compared.spelling }));
        places = subst (λ (a : Agreement). (a.places ≡ true) ↔ AllPlaces schema loaded (g.columns ++ column ∷ [])) (sym e)
            (Decides-like (agreed.places && one.places)
            (λ h. (h.0.0, each_push Places g.columns column h.0.1 (subst (λ k. Places k column) (sym here) h.1)))
            (λ h. ((h.0, each_front Places g.columns column h.1), subst (λ k. Places k column) here (each_last Places g.columns column h.1)))
            (Decides-and agreed.places one.places g.places compared.agrees.places));
        keys = subst (λ (a : Agreement). (a.keys ≡ true) ↔ AllKeys schema loaded (g.columns ++ column ∷ [])) (sym e)
            (Decides-like (agreed.keys && one.keys)
            (λ h. (h.0.0, each_push Keys g.columns column h.0.1 (subst (λ k. Keys k column) (sym here) h.1)))
            (λ h. ((h.0, each_front Keys g.columns column h.1), subst (λ k. Keys k column) here (each_last Keys g.columns column h.1)))
            (Decides-and agreed.keys one.keys g.keys compared.agrees.keys));
        index = subst (λ (a : Agreement). IsFirstFailing (AllOfIndex schema loaded (g.columns ++ column ∷ [])) a.index) (sym e)
            (failing_like (λ i. AllOfIndex schema loaded g.columns i × HasIndexOf schema loaded n compared.values i) (AllOfIndex schema loaded (g.columns ++ column ∷ [])) (first_of agreed.index one.index)
            (λ i h. each_push (Index i) g.columns column h.0 (subst (λ k. Index i k column) (sym here) h.1))
            (λ i h. (each_front (Index i) g.columns column h, subst (λ k. Index i k column) here (each_last (Index i) g.columns column h)))
            (failing_both (AllOfIndex schema loaded g.columns) (HasIndexOf schema loaded n compared.values) agreed.index one.index g.index compared.agrees.index));
      }

  -- one file more that is read where a part is opened
  more_opened : (count : ℕ) (f own : FileId) (agreed one new : Agreement) → slice_get (content_ids schema) count ≡ Some f → f ≡ own → count < length schema.indexes + 2 → AreGoneOver told schema loaded count agreed → IsReadAs told f (λ bytes. IsCompared schema loaded f bytes one)
      → ((bytes : List ℕ) → IsCompared schema loaded own bytes one → one ≡ whole) → ((bytes : List ℕ) → IsCompared schema loaded own bytes one → IsSound schema manifest own bytes) → new ≡ both_agree agreed one → AreGoneOver told schema loaded (count + 1) new
  more_opened count f own agreed one new here is few g r all sound e =
      let read = subst (λ (x : FileId). IsReadAs told x (λ bytes. IsCompared schema loaded x bytes one)) is r in
      opened_over count agreed new g (same_agreed agreed one new (all read.bytes read.are) e) few
      (checked_more told schema manifest (content_ids schema) count own (here ∙ ap Some is) g.checked (record { bytes = read.bytes; read = read.read; are = sound read.bytes read.are }))

  -- one column more
  more_column : (count : ℕ) (f : FileId) (agreed one new : Agreement) (at : IsColumnAt schema count f) → slice_get (content_ids schema) (suc (suc count)) ≡ Some f → AreGoneOver told schema loaded (suc (suc count)) agreed → IsReadAs told f (λ bytes. IsCompared schema loaded f bytes one)
      → new ≡ both_agree agreed one → AreGoneOver told schema loaded (suc (suc count) + 1) new
  more_column count f agreed one new at here g r e =
      let n : ℕ = at.number in
      let own = subst (λ (x : FileId). IsReadAs told x (λ bytes. IsCompared schema loaded x bytes one)) at.file_is r in
      column_over (suc (suc count)) n agreed one new (omega (arith, at.place_is)) g own e
      (checked_more told schema manifest (content_ids schema) (suc (suc count)) (file.Column n) (here ∙ ap Some at.file_is) g.checked (record { bytes = own.bytes; read = own.read; are = column_sound n one own.bytes own.are }))

  -- one file more is gone over
  pub gone_over_more : (count : ℕ) (f : FileId) (agreed one new : Agreement) → slice_get (content_ids schema) count ≡ Some f → AreGoneOver told schema loaded count agreed → IsReadAs told f (λ bytes. IsCompared schema loaded f bytes one)
      → new ≡ both_agree agreed one → AreGoneOver told schema loaded (count + 1) new
  gone_over_more zero f agreed one new here g r e =
      more_opened 0 f file.Marks agreed one new here (sym (same_Some file.Marks f here)) (omega arith) g r (λ bytes c. c.are) (λ bytes c. record { marked = c.marked; spelled = tt }) e
  gone_over_more (suc zero) f agreed one new here g r e =
      more_opened 1 f file.Primary agreed one new here (sym (same_Some file.Primary f here)) (omega arith) g r (λ bytes c. c.are) (λ bytes c. record { marked = c.marked; spelled = tt }) e
  gone_over_more (suc (suc i)) f agreed one new here g r e = by (numbered_is schema i f here)
    where
      by : ((f ≡ file.Skip i) × (i < length schema.indexes)) ⊎ IsColumnAt schema i f → AreGoneOver told schema loaded (suc (suc i) + 1) new
      by (inl skip) = more_opened (suc (suc i)) f (file.Skip i) agreed one new here skip.0 (omega (arith, skip.1)) g r (λ bytes c. c.are) (λ bytes c. record { marked = c.marked; spelled = tt }) e
      by (inr column) = more_column i f agreed one new column here g r e

-- ---- all files

any_column : ColumnRead
any_column = record { bytes = []; values = [] }

-- where the table has a skip index with this number, what is kept of it is that of rows
abbrev pub IsIndexKept : Schema → Loaded → List Row → ℕ → Type 0
IsIndexKept schema loaded rows n = n < length schema.indexes → slice_get loaded.indexes n ≡ slice_get (indexes_of schema rows) n

-- what is said of rows by all files, once each is gone over
pub record AreRowsCompared (told : Option Files) (schema : Schema) (loaded : Loaded) (agreed : Agreement) (rows : List Row) : Type 0 where
  pub read : AreRowsRead told schema loaded.manifest rows
  pub places : (agreed.places ≡ true) ↔ (loaded.places ≡ (loaded_of schema rows).places)
  pub keys : (agreed.keys ≡ true) ↔ (loaded.marks ≡ (loaded_of schema rows).marks)
  pub index : IsFirstFailing (IsIndexKept schema loaded rows) agreed.index

-- a skip index keeps what it keeps of its column
index_is : (schema : Schema) (n : ℕ) (index : SkipIndex) (rows : List Row) → slice_get schema.indexes n ≡ Some index → length (column_of index.column rows) ≡ length rows → index_of schema n rows ≡ index_kept schema.granularity index (column_of index.column rows)
index_is schema n index rows here long =
    let column = column_of index.column rows in
    ap (λ (i : SkipIndex). index_over i schema.granularity rows) (get_or_from_slice_get schema.indexes n index no_index here)
    ∙ ap (λ k. record { column = index.column; span = index.granularity; granules = granules schema.granularity k; blocks = map (kept_of index.kind) (blocks_of (schema.granularity * index.granularity) column) }) (sym long)

-- and that is a column of the table
index_own : (schema : Schema) (n : ℕ) (index : SkipIndex) → HasIndexes schema → slice_get schema.indexes n ≡ Some index → index.column < length schema.columns
index_own schema n index has here =
    subst (λ (i : SkipIndex). i.column < length schema.columns) (get_or_from_slice_get schema.indexes n index no_index here) (has n (slice_get_within schema.indexes n index here)).own

module _ (told : Option Files) (schema : Schema) (loaded : Loaded) (agreed : Agreement) (has : HasMarks schema) (indexed : HasIndexes schema) (count : ℕ) (past : length (content_ids schema) ≤ count) (exact : count ≤ length (content_ids schema)) (g : AreGoneOver told schema loaded count agreed) where
  columns_count : length g.columns ≡ length schema.columns
  columns_count = omega (arith, g.count_is, content_length schema)

  abbrev column_at : ℕ → ColumnRead
  column_at n = get_or g.columns n any_column

  there : (n : ℕ) → n < length schema.columns → slice_get g.columns n ≡ Some (column_at n)
  there n below = slice_get-get_or g.columns n any_column (omega (arith, columns_count))

  read_at : (n : ℕ) → n < length schema.columns → IsColumnRead told schema loaded.manifest n (column_at n)
  read_at n below = g.each n (column_at n) (there n below)

  spelled_at : (n : ℕ) (t : ColType) → slice_get (column_types schema) n ≡ Some t → Spells t loaded.manifest.rows (column_at n).bytes
  spelled_at n t here =
      let below : n < length (column_types schema) = slice_get_within (column_types schema) n t here in
      let r = read_at n (omega (arith, types_length schema)) in
      let same : r.col_type ≡ t = same_Some r.col_type t (sym r.type_is ∙ here) in
      subst (λ (u : ColType). Spells u loaded.manifest.rows (column_at n).bytes) same (record { values = (column_at n).values; spelling = r.spelling })

  module _ (rows : List Row) (are : ArePartRows schema loaded.manifest.rows rows) (bytes : (n : ℕ) → n < length schema.columns → (column_at n).bytes ≡ column_bytes (column_of n rows)) where
    values_are : (n : ℕ) → n < length schema.columns → (column_at n).values ≡ column_of n rows
    values_are n below =
        let r = read_at n below in
        one_spelling r.col_type loaded.manifest.rows (column_at n).bytes (column_at n).values (column_of n rows) r.spelling
        (column_spelled (column_types schema) rows n r.col_type loaded.manifest.rows (column_at n).bytes r.type_is are.typed are.fit (sym are.count_is) (bytes n below))

    within : (n : ℕ) (c : ColumnRead) → slice_get g.columns n ≡ Some c → n < length schema.columns
    within n c here = let below = slice_get_within g.columns n c here in omega (arith, columns_count)

    own_values : (n : ℕ) (c : ColumnRead) → slice_get g.columns n ≡ Some c → c.values ≡ column_of n rows
    own_values n c here =
        let below = within n c here in
        ap (λ (x : ColumnRead). x.values) (same_Some c (column_at n) (sym here ∙ there n below)) ∙ values_are n below

    abbrev wanted : List (List ℕ)
    wanted = granule_places schema.granularity (length schema.columns) rows

    wanted_at : (n : ℕ) → n < length schema.columns → slice_get wanted n ≡ Some (marks_of schema.granularity (column_of n rows))
    wanted_at n below = mapped_at (λ column. marks_of schema.granularity (column_of column rows)) (length schema.columns) n below

    wanted_count : length wanted ≡ length schema.columns
    wanted_count = length-map-range_with_len (λ column. marks_of schema.granularity (column_of column rows)) 0 (length schema.columns)

    places_kept : AllPlaces schema loaded g.columns → loaded.places ≡ wanted
    places_kept h = same_list loaded.places wanted (h.0 ∙ sym wanted_count) (λ i y here.
        let below : i < length schema.columns = let b = slice_get_within wanted i y here in omega (arith, wanted_count) in
        h.1 i (column_at i) (there i below) ∙ ap (λ (vs : List Value). Some (marks_of schema.granularity vs)) (values_are i below) ∙ sym (wanted_at i below) ∙ here)

    kept_places : loaded.places ≡ wanted → AllPlaces schema loaded g.columns
    kept_places e = (
      ap length e ∙ wanted_count,
      λ n c here.
          ap (λ (ps : List (List ℕ)). slice_get ps n) e ∙ wanted_at n (within n c here) ∙ ap (λ (vs : List Value). Some (marks_of schema.granularity vs)) (sym (own_values n c here)),
    )

    abbrev wanted_keys : List Row
    wanted_keys = mark_keys schema.primary schema.granularity rows

    wide : All (λ (row : Row). length row ≡ length schema.columns) rows
    wide = subst (λ n. All (λ (row : Row). length row ≡ n) rows) (types_length schema) (lengths_typed (column_types schema) rows are.typed)

    keys_kept : AllKeys schema loaded g.columns → loaded.marks ≡ wanted_keys
    keys_kept h =
        marks_by_columns schema.primary schema.granularity (length schema.columns) rows wide has.own loaded.marks has.some h.0 (λ p n here.
        let below : n < length schema.columns = own n p here in
        h.1 n (column_at n) (there n below) p here ∙ ap (with_final schema.granularity) (values_are n below))
      where
        own : (n p : ℕ) → slice_get schema.primary p ≡ Some n → n < length schema.columns
        own n p here =
            let at = slice_get-get_or schema.primary p n (slice_get_within schema.primary p n here) in
            let same : get_or schema.primary p n ≡ n = same_Some (get_or schema.primary p n) n (sym at ∙ here) in
            subst (λ k. k < length schema.columns) same (has.own p n (slice_get_within schema.primary p n here))

    kept_keys : loaded.marks ≡ wanted_keys → AllKeys schema loaded g.columns
    kept_keys e = (
      subst (All (λ (key : Row). length key ≡ length schema.primary)) (sym e) (mark_width schema.primary schema.granularity (length schema.columns) rows wide has.own),
      λ n c here.
          λ place primary.
          ap (column_of place) e ∙ mark_column schema.primary schema.granularity (length schema.columns) rows wide has.own place n primary (within n c here)
          ∙ ap (with_final schema.granularity) (sym (own_values n c here)),
    )

    -- a skip index has the values of its column
    abbrev IndexKept : ℕ → Type 0
    IndexKept = IsIndexKept schema loaded rows

    index_at : (n : ℕ) (index : SkipIndex) → slice_get schema.indexes n ≡ Some index → slice_get (indexes_of schema rows) n ≡ Some (index_kept schema.granularity index (column_of index.column rows))
    index_at n index here =
        mapped_at (λ k. index_of schema k rows) (length schema.indexes) n (slice_get_within schema.indexes n index here) ∙ ap Some (index_is schema n index rows here
        (length_column (column_types schema) rows index.column are.typed (omega (arith, index_own schema n index indexed here, types_length schema))))

    index_of_column : (n : ℕ) → AllOfIndex schema loaded g.columns n → IndexKept n
    index_of_column n all below =
        let index = item_there schema.indexes n below in
        let own : index.0.column < length schema.columns = index_own schema n index.0 indexed index.1 in
        all index.0.column (column_at index.0.column) (there index.0.column own) index.0 index.1 refl
        ∙ ap (λ (vs : List Value). Some (index_kept schema.granularity index.0 vs)) (values_are index.0.column own) ∙ sym (index_at n index.0 index.1)

    column_of_index : (n : ℕ) → IndexKept n → AllOfIndex schema loaded g.columns n
    column_of_index n kept k c column index here same =
        kept (slice_get_within schema.indexes n index here) ∙ index_at n index here
        ∙ ap (λ j. Some (index_kept schema.granularity index (column_of j rows))) same ∙ ap (λ (vs : List Value). Some (index_kept schema.granularity index vs)) (sym (own_values k c column))

    compared : AreRowsCompared told schema loaded agreed rows
    compared = record {
      read = record {
        checked = subst (AreChecked told schema loaded.manifest) (take_all count (content_ids schema) past) g.checked;
        are = are;
        columns = λ n below. record { bytes = (column_at n).bytes; read = (read_at n below).read; are = bytes n below };
      };
      places = Decides-like agreed.places places_kept kept_places g.places;
      keys = Decides-like agreed.keys keys_kept kept_keys g.keys;
      index = failing_like (AllOfIndex schema loaded g.columns) IndexKept agreed.index index_of_column column_of_index g.index;
    }

  all_compared : (rows : List Row) × AreRowsCompared told schema loaded agreed rows
  all_compared =
      let r = rows_of_bytes schema loaded.manifest.rows (λ n. (column_at n).bytes) spelled_at in
      (r.0, compared r.0 r.1 r.2)

-- once as many files are gone over as there are, at most 2 ^ 32, what is kept is compared with the rows
pub counted_compared : (told : Option Files) (schema : Schema) (loaded : Loaded) (agreed : Agreement) (has : HasMarks schema) (indexed : HasIndexes schema) (place count : ℕ) → count ≡ min (length (content_ids schema)) (2 ^ 64 - 1) → count ≤ place → place ≤ count → place ≤ 2 ^ 32 → AreGoneOver told schema loaded place agreed
    → (rows : List Row) × AreRowsCompared told schema loaded agreed rows
counted_compared told schema loaded agreed has indexed place count is past exact few g = all_compared told schema loaded agreed has indexed place (omega (arith, is)) (omega (arith, is)) g
