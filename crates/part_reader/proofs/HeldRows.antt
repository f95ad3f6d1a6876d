-- A part of which no file is damaged holds rows, and of one that holds rows no file is unsound.
use Rattle.std.proofs.Common.{◌≡◌, ℕ, zero, suc, ◌+◌, ◌^◌, ◌<◌, inl, inr, List, [], ◌∷◌, Option, Some, None, refl, sym, ap, ap₂, ◌∙◌, subst, length, get_or, slice_get, map, arith, IsSomeAnd}
use Rattle.std.proofs.lemmas.Option.{same_Some, slice_get-get_or, slice_get_within}
use Rattle.mt_values.specs.declared.manifest.FileMark.{FileMark}
use Rattle.mt_values.specs.declared.manifest.Manifest.{Manifest}
use Rattle.mt_base.specs.declared.name.FileId.{FileId}
use Rattle.mt_base.specs.declared.name.FileId.TheVariants as file
use Rattle.mt_values.specs.declared.schema.Schema.{Schema}
use Rattle.mt_values.specs.declared.value.ColType.{ColType}
use Rattle.mt_values.specs.declared.value.ColType.TheVariants as type
use Rattle.mt_values.specs.ColumnBytes.{column_bytes}
use Rattle.mt_values.specs.Grid.{column_of}
use Rattle.mt_values.specs.Schemas.{column_types}
use Rattle.mt_values.specs.Values.{Row}
use Rattle.mt_outside.specs.Files.{Files, bytes_of}
use Rattle.part_damage.specs.column_file.Marks.{granule_places, mark_keys}
use Rattle.part_damage.specs.column_file.Spellings.{Spells}
use Rattle.part_damage.proofs.DigestFileManifests.{one_manifest}
use Rattle.part_damage.specs.primary_marks.Keys.{HasMarks}
use Rattle.part_damage.specs.part_writer.PartFiles.{IsContent, content_bytes, content_ids, loaded_of, manifest_of, mark_of, marks_of, opened_ids, with_bytes}
use Rattle.part_damage.specs.part_writer.declared.loaded.Loaded.{Loaded}
use Rattle.part_damage.proofs.PartWriterContents.{all_content, content_at, content_known, content_skip, content_there, mark_at, marks_length, opened_skip, skip_is}
use Rattle.part_damage.proofs.PartWriterFolders.{has_bytes}
use Rattle.part_reader.specs.declared.reading.Part.{Part}
use Rattle.part_damage.specs.Marks.{mark_for}
use Rattle.part_reader.specs.Parts.{FolderHolds, PartHolds}
use Rattle.part_damage.specs.Sound.{AreBlocksFor, AreKeysFor, AreMarksFor, FirstDamaged, FirstUnder, FirstUnsound, IsFirstWithout, IsLoadedOf, IsManifestFor, IsReadable, IsSound, SpellRows, SpellsFile}
use Rattle.part_damage.proofs.SpelledRows.{all_have, column_spelled, one_rows, types_length}
use Rattle.part_reader.proofs.Holding.{file_held, mark_held, mark_placed, written_holds}
use Rattle.part_damage.specs.skip_index.Blocks.{index_of}
use Rattle.part_damage.specs.part_writer.PartFiles.{HasIndexes}
use Rattle.part_reader.proofs.Damages.{opened_known}
use Rattle.part_reader.proofs.Opened.{one_loaded}
use Rattle.part_reader.proofs.SameLists.{item_there, same_list}
use Rattle.part_reader.proofs.SoundRows.{index_of_rows, indexes_under, keys_of_rows, places_of_rows, sizes_fit, written_loaded, written_manifest}

-- ---- files by their places

pub all_without : (Holds : FileId → Type 0) (ids : List FileId) → ((i : ℕ) (f : FileId) → slice_get ids i ≡ Some f → Holds f) → IsFirstWithout Holds ids None
all_without Holds [] each = refl
all_without Holds (f ∷ fs) each = inl (each 0 f refl, all_without Holds fs (λ i g here. each (suc i) g here))

-- the first of which it does not hold stands at a place
pub first_at : (Holds : FileId → Type 0) (ids : List FileId) (place : ℕ) (f : FileId) → slice_get ids place ≡ Some f → ((i : ℕ) (g : FileId) → i < place → slice_get ids i ≡ Some g → Holds g) → (Holds f → ⊥) → IsFirstWithout Holds ids (Some f)
first_at Holds [] place f here each fails = absurd cc
first_at Holds (g ∷ gs) zero f here each fails = let same : g ≡ f = same_Some g f here in inr (subst (λ (x : FileId). Holds x → ⊥) (sym same) fails, ap Some (sym same))
first_at Holds (g ∷ gs) (suc place) f here each fails = inl (each 0 g (omega arith) refl, first_at Holds gs place f here (λ i h below at. each (suc i) h (omega (arith, below)) at) fails)

-- ---- the bytes of the files of rows

-- each file is that of the rows which the files of the columns spell
bytes_of_rows : (schema : Schema) (count : ℕ) (files : Files) (rows : List Row) → SpellRows schema count files rows → IsFirstWithout (λ f. bytes_of f files ≡ content_bytes schema rows f) (opened_ids schema) None
    → (f : FileId) → IsContent schema f → bytes_of f files ≡ content_bytes schema rows f
bytes_of_rows schema count files rows s alike (file.Column n) below = s.columns n below
bytes_of_rows schema count files rows s alike file.Marks is = all_have (λ f. bytes_of f files ≡ content_bytes schema rows f) (opened_ids schema) alike 0 file.Marks refl
bytes_of_rows schema count files rows s alike file.Primary is = all_have (λ f. bytes_of f files ≡ content_bytes schema rows f) (opened_ids schema) alike 1 file.Primary refl
bytes_of_rows schema count files rows s alike file.Entry is = absurd is
bytes_of_rows schema count files rows s alike file.Manifest is = absurd is
bytes_of_rows schema count files rows s alike (file.Skip n) is = all_have (λ f. bytes_of f files ≡ content_bytes schema rows f) (opened_ids schema) alike (n + 2) (file.Skip n) (opened_skip schema n is)

-- the manifest is that of the rows
manifest_same : (schema : Schema) (manifest : Manifest) (files : Files) (rows : List Row) → length manifest.files ≡ length (content_ids schema) → length rows ≡ manifest.rows → ((f : FileId) → IsContent schema f → bytes_of f files ≡ content_bytes schema rows f)
    → ((i : ℕ) (f : FileId) → slice_get (content_ids schema) i ≡ Some f → mark_for schema manifest f ≡ Some (mark_of (bytes_of f files))) → manifest ≡ manifest_of schema rows
manifest_same schema manifest files rows count counted bytes marked =
    ap₂ (λ (n : ℕ) (fs : List FileMark). record { rows = n; files = fs }) (sym counted)
    (same_list manifest.files (marks_of (map (with_bytes schema rows) (content_ids schema))) (count ∙ sym (marks_length schema rows (content_ids schema))) each)
  where
    each : (i : ℕ) (m : FileMark) → slice_get (marks_of (map (with_bytes schema rows) (content_ids schema))) i ≡ Some m → slice_get manifest.files i ≡ Some m
    each i m here =
        let within : i < length (content_ids schema) = omega (arith, slice_get_within (marks_of (map (with_bytes schema rows) (content_ids schema))) i m here, marks_length schema rows (content_ids schema)) in
        let f : FileId = get_or (content_ids schema) i file.Entry in
        let at : slice_get (content_ids schema) i ≡ Some f = content_there schema i within in
        let own : mark_of (bytes_of f files) ≡ mark_of (content_bytes schema rows f) = ap mark_of (bytes f (content_known schema i f at)) in
        sym (mark_placed schema manifest i f at) ∙ marked i f at ∙ ap Some own ∙ sym (mark_at schema rows i f at) ∙ here

-- ---- parts of which no file is damaged

module _ {F : Type 0} (files_of : F → Option Files) (schema : Schema) (part : Part F) (files : Files) (has : HasMarks schema) (kept : HasIndexes schema) (known : files_of part.dir ≡ Some files) (is : IsLoadedOf schema files part.loaded) where
  abbrev manifest : Manifest
  manifest = part.loaded.manifest

  module _ (rows : List Row) (s : SpellRows schema manifest.rows files rows) (bytes : (f : FileId) → IsContent schema f → bytes_of f files ≡ content_bytes schema rows f)
      (marked : (i : ℕ) (f : FileId) → slice_get (content_ids schema) i ≡ Some f → mark_for schema manifest f ≡ Some (mark_of (bytes_of f files))) where
    same : manifest ≡ manifest_of schema rows
    same = manifest_same schema manifest files rows is.manifest.count_is s.are.count_is bytes marked

    small : (c : ℕ) → c < length schema.columns → length (column_bytes (column_of c rows)) < 2 ^ 64
    small c below =
        sizes_fit manifest (column_bytes (column_of c rows)) (file.Column c) is.manifest.of.marks (c + length schema.indexes + 2)
        (sym (mark_placed schema manifest (c + length schema.indexes + 2) (file.Column c) (content_at schema c below)) ∙ marked (c + length schema.indexes + 2) (file.Column c) (content_at schema c below) ∙ ap (λ bs. Some (mark_of bs)) (bytes (file.Column c) below))

    -- what the files say is that of the rows
    rows_loaded : IsLoadedOf schema files (loaded_of schema rows)
    rows_loaded = record {
      schema_is = refl;
      manifest = subst (IsManifestFor schema (bytes_of file.Manifest files)) same is.manifest;
      places = record {
        marked = ap (λ (m : Manifest). mark_for schema m file.Marks) (sym same) ∙ marked 0 file.Marks refl;
        are = subst (λ bs. AreMarksFor schema (length rows) bs (granule_places schema.granularity (length schema.columns) rows)) (sym (bytes file.Marks tt)) (places_of_rows schema rows (length rows) has (record { count_is = refl; typed = s.are.typed; fit = s.are.fit }) small);
      };
      keys = record {
        marked = ap (λ (m : Manifest). mark_for schema m file.Primary) (sym same) ∙ marked 1 file.Primary refl;
        are = subst (λ bs. AreKeysFor schema (length rows) bs (mark_keys schema.primary schema.granularity rows)) (sym (bytes file.Primary tt)) (keys_of_rows schema rows (length rows) has (record { count_is = refl; typed = s.are.typed; fit = s.are.fit }));
      };
      indexes = indexes_under schema (manifest_of schema rows) files rows (λ n below. record {
        marked = ap (λ (m : Manifest). mark_for schema m (file.Skip n)) (sym same) ∙ marked (n + 2) (file.Skip n) (content_skip schema n below);
        are = subst (λ bs. AreBlocksFor schema (length rows) n bs (index_of schema n rows)) (sym (bytes (file.Skip n) below))
            (index_of_rows schema rows (length rows) has (record { count_is = refl; typed = s.are.typed; fit = s.are.fit }) kept n below);
      });
    }

    pub rows_held : PartHolds files_of schema part rows
    rows_held = record {
      files = files;
      files_are = known;
      within = all_content schema;
      held = has_bytes schema rows files (content_ids schema) (λ i f here. bytes f (content_known schema i f here));
      loaded_is = one_loaded schema files part.loaded (loaded_of schema rows) is rows_loaded;
      typed = s.are.typed;
      encodable = s.are.fit;
    }

  pub unsound_rows : FirstUnsound schema manifest files None → (rows : List Row) × PartHolds files_of schema part rows
  unsound_rows (inl p) = absurd (let e = p.2 in cc)
  unsound_rows (inr p) =
      let rows = p.1.0 in (
        rows,
        rows_held rows p.1.1 (bytes_of_rows schema manifest.rows files rows p.1.1 p.1.2)
            (λ i f here. (all_have (λ g. IsSound schema manifest g (bytes_of g files)) (content_ids schema) p.0 i f here).marked),
      )

  pub undamaged_rows : FirstDamaged schema files None → (rows : List Row) × PartHolds files_of schema part rows
  undamaged_rows (inr p) = absurd (let e = p.1 in cc)
  undamaged_rows (inl p) = by p.2
    where
      own : p.0 ≡ manifest
      own = one_manifest (bytes_of file.Manifest files) p.0 manifest p.1.of is.manifest.of

      by : FirstUnder schema p.0 files None → (rows : List Row) × PartHolds files_of schema part rows
      by (inl q) = absurd (let e = q.2 in cc)
      by (inr q) = unsound_rows (subst (λ (m : Manifest). FirstUnsound schema m files None) own q.1)

-- ---- parts that hold rows

module _ {F : Type 0} (files_of : F → Option Files) (schema : Schema) (part : Part F) where
  pub spell_held : (rows : List Row) (h : PartHolds files_of schema part rows) → SpellRows schema part.loaded.manifest.rows h.files rows
  spell_held rows h = record {
    are = record { count_is = ap (λ (l : Loaded). l.manifest.rows) (sym h.loaded_is); typed = h.typed; fit = h.encodable };
    columns = λ n below. file_held files_of schema part rows h (file.Column n) below;
  }

  pub one_held : (x y : List Row) → PartHolds files_of schema part x → PartHolds files_of schema part y → x ≡ y
  one_held x y h k =
      let same : k.files ≡ h.files = same_Some k.files h.files (sym k.files_are ∙ h.files_are) in
      one_rows schema part.loaded.manifest.rows h.files x y (spell_held x h) (subst (λ (fs : Files). SpellRows schema part.loaded.manifest.rows fs y) same (spell_held y k))

  -- what is held spells what belongs in the file
  held_spelled : (rows : List Row) (count : ℕ) (bytes : List ℕ) (f : FileId) → IsContent schema f → PartHolds files_of schema part rows → count ≡ length rows → bytes ≡ content_bytes schema rows f → SpellsFile schema count f bytes
  held_spelled rows count bytes (file.Column n) below h counted held =
      let t = get_or (column_types schema) n type.UInt8 in
      let here : slice_get (column_types schema) n ≡ Some t = slice_get-get_or (column_types schema) n type.UInt8 (omega (arith, types_length schema)) in
      subst (λ (o : Option ColType). IsSomeAnd o (λ u. Spells u count bytes)) (sym here)
      (record { values = column_of n rows; spelling = column_spelled (column_types schema) rows n t count bytes here h.typed h.encodable counted held })
  held_spelled rows count bytes file.Marks is h counted held = tt
  held_spelled rows count bytes file.Primary is h counted held = tt
  held_spelled rows count bytes file.Entry is h counted held = absurd is
  held_spelled rows count bytes file.Manifest is h counted held = absurd is
  held_spelled rows count bytes (file.Skip n) is h counted held = tt

pub held_unsound : {F : Type 0} (files_of : F → Option Files) (schema : Schema) (part : Part F) (files : Files) (rows : List Row) → files_of part.dir ≡ Some files → PartHolds files_of schema part rows → FirstUnsound schema part.loaded.manifest files None
held_unsound files_of schema part files rows known h =
    inr (
      all_without (λ g. IsSound schema part.loaded.manifest g (bytes_of g files)) (content_ids schema) each,
      (
        rows,
        subst (λ (fs : Files). SpellRows schema part.loaded.manifest.rows fs rows) same (spell_held files_of schema part rows h),
        all_without (λ f. bytes_of f files ≡ content_bytes schema rows f) (opened_ids schema) alike,
      ),
    )
  where
    same : h.files ≡ files
    same = same_Some h.files files (sym h.files_are ∙ known)

    held : (f : FileId) → IsContent schema f → bytes_of f files ≡ content_bytes schema rows f
    held f is = ap (bytes_of f) (sym same) ∙ file_held files_of schema part rows h f is

    alike : (i : ℕ) (f : FileId) → slice_get (opened_ids schema) i ≡ Some f → bytes_of f files ≡ content_bytes schema rows f
    alike i f here = held f (opened_known schema i f here)

    each : (i : ℕ) (f : FileId) → slice_get (content_ids schema) i ≡ Some f → IsSound schema part.loaded.manifest f (bytes_of f files)
    each i f here =
        let is : IsContent schema f = content_known schema i f here in
        record {
          marked = ap (λ (l : Loaded). mark_for schema l.manifest f) h.loaded_is ∙ mark_held schema rows f is ∙ ap (λ bs. Some (mark_of bs)) (sym (held f is));
          spelled = held_spelled files_of schema part rows part.loaded.manifest.rows (bytes_of f files) f is h (ap (λ (l : Loaded). l.manifest.rows) h.loaded_is) (held f is);
        }

-- ---- folders that hold rows

-- each file that is read where a part is opened can be read, where what is kept is what the files say
pub loaded_readable : (schema : Schema) (files : Files) (loaded : Loaded) → IsLoadedOf schema files loaded → (i : ℕ) (f : FileId) → slice_get (opened_ids schema) i ≡ Some f → IsReadable schema loaded.manifest f (bytes_of f files)
loaded_readable schema files loaded is zero f here = subst (λ (x : FileId). IsReadable schema loaded.manifest x (bytes_of x files)) (same_Some file.Marks f here) (loaded.places, is.places)
loaded_readable schema files loaded is (suc zero) f here = subst (λ (x : FileId). IsReadable schema loaded.manifest x (bytes_of x files)) (same_Some file.Primary f here) (loaded.marks, is.keys)
loaded_readable schema files loaded is (suc (suc i)) f here =
    let skip = skip_is schema i f here in
    let index = item_there loaded.indexes i (omega (arith, skip.1, is.indexes.count_is)) in
    subst (λ (x : FileId). IsReadable schema loaded.manifest x (bytes_of x files)) (sym skip.0) (index.0, is.indexes.each i index.0 index.1)

pub written_undamaged : (schema : Schema) (files : Files) (rows : List Row) → HasMarks schema → HasIndexes schema → FolderHolds schema rows files → FirstDamaged schema files None
written_undamaged schema files rows has kept w =
    inl (
      manifest_of schema rows,
      written_manifest schema files rows w,
      inr (
        all_without (λ g. IsReadable schema (manifest_of schema rows) g (bytes_of g files)) (opened_ids schema)
            (loaded_readable schema files (loaded_of schema rows) (written_loaded schema files rows w has kept)),
        held_unsound (λ (told : Option Files). told) schema part files rows refl (written_holds (λ (told : Option Files). told) schema part rows files refl refl w),
      ),
    )
  where
    part : Part (Option Files)
    part = record { dir = Some files; loaded = loaded_of schema rows }
