-- A part that is checked: what a fault says of its files, and that none is damaged where there is no fault.
use Rattle.std.proofs.Common.{◌≡◌, ℕ, zero, suc, ◌+◌, ◌^◌, ◌<◌, ◌≤◌, ◌⊎◌, inl, inr, Bool, true, false, List, Option, Some, None, refl, sym, ap, ◌∙◌, subst, length, slice_get, arith}
use Rattle.std.specs.Bool.{if◌then◌else◌}
use Rattle.std.specs.Option.{option_map}
use Rattle.std.proofs.lemmas.Bool.{cases_lt, false≢true}
use Rattle.std.proofs.lemmas.List.FromFn.{length-map-range_with_len}
use Rattle.std.proofs.lemmas.Option.{same_Some, slice_get_past, slice_get_within}
use Rattle.mt_base.specs.declared.name.FileId.{FileId}
use Rattle.mt_base.specs.declared.name.FileId.TheVariants as file
use Rattle.mt_values.specs.declared.manifest.FileMark.{FileMark}
use Rattle.mt_values.specs.declared.manifest.Manifest.{Manifest}
use Rattle.mt_values.specs.declared.schema.Schema.{Schema}
use Rattle.mt_values.specs.ColumnBytes.{column_bytes}
use Rattle.mt_values.specs.Grid.{column_of}
use Rattle.mt_values.specs.Schemas.{column_types}
use Rattle.mt_values.specs.Values.{Row}
use Rattle.mt_outside.specs.Files.{Files, bytes_of}
use Rattle.part_damage.specs.column_file.Marks.{granule_places, granules, keys_bytes, mark_keys, places_bytes}
use Rattle.part_damage.specs.primary_marks.Keys.{HasMarks, shape_of}
use Rattle.part_damage.proofs.PrimaryMarksKeysOneWay.{one_primary}
use Rattle.part_damage.proofs.PrimaryMarksStarts.{one_marks}
use Rattle.part_damage.specs.part_writer.PartFiles.{content_bytes, content_ids, indexes_of, loaded_of, mark_of, opened_ids}
use Rattle.part_damage.specs.part_writer.declared.loaded.Loaded.{Loaded}
use Rattle.part_damage.proofs.PartWriterContents.{content_at, content_skip, opened_length, opened_skip, skip_is}
use Rattle.part_damage.specs.Marks.{mark_for}
use Rattle.part_damage.specs.Sound.{AreBlocksFor, AreKeysFor, AreMarksFor, AreRowsRead, FirstUnsound, IsFirstWithout, IsLoadedOf, IsReadable, IsSound, SpellRows, SpellsFile}
use Rattle.part_damage.specs.skip_index.Blocks.{index_of}
use Rattle.part_damage.specs.part_writer.PartFiles.{HasIndexes}
use Rattle.part_damage.proofs.IndexFiles.{index_spelled, one_index}
use Rattle.part_damage.proofs.SpelledRows.{all_have, one_rows}
use Rattle.part_reader.specs.declared.comparing.Agreement.{Agreement}
use Rattle.part_reader.specs.declared.reading.Part.{Part}
use Rattle.part_reader.specs.declared.reading.PartFault.{PartFault}
use Rattle.part_reader.specs.declared.reading.PartFault.TheVariants.{Fault, NoMemory, Damaged}
use Rattle.part_reader.specs.Compared.{IsFirstFailing, unlike_file}
use Rattle.part_reader.specs.Damage.{AreKeptOf, ExplainsCheck, GoesWrongAlone, IsKeptUnlike, IsUnlikeFault, IsUnsoundFault, Tells}
use Rattle.part_reader.specs.DamagedFile.{damaged_file}
use Rattle.part_reader.specs.Faults.{IsDamage, IsNoDamage}
use Rattle.part_reader.specs.Parts.{PartHolds}
use Rattle.part_reader.proofs.ComparedColumns.{AreRowsCompared, IsIndexKept}
use Rattle.part_reader.proofs.DamagedFiles.{file_is, told_more}
use Rattle.part_reader.proofs.Damages.{all_read, checked_there, damage_there, first_fails, not_refused, one_unsound, wrong_column}
use Rattle.part_reader.proofs.HeldRows.{all_without, first_at, held_unsound, loaded_readable, spell_held}
use Rattle.part_reader.proofs.Opened.{there}
use Rattle.part_reader.proofs.SameLists.{item_there, mapped_at}
use Rattle.part_reader.proofs.SoundRows.{index_of_rows, keys_of_rows, places_of_rows, sizes_fit}

-- ---- a file that is damaged by itself

wrong_alone : (schema : Schema) (manifest : Manifest) (f : FileId) (bytes : List ℕ) (place : ℕ) → GoesWrongAlone schema manifest.rows f bytes place → SpellsFile schema manifest.rows f bytes → ⊥
wrong_alone schema manifest (file.Column n) bytes place wrong spelled = wrong_column (slice_get (column_types schema) n) manifest.rows bytes place wrong spelled
wrong_alone schema manifest file.Marks bytes place wrong spelled = absurd wrong
wrong_alone schema manifest file.Primary bytes place wrong spelled = absurd wrong
wrong_alone schema manifest file.Entry bytes place wrong spelled = absurd wrong
wrong_alone schema manifest file.Manifest bytes place wrong spelled = absurd wrong
wrong_alone schema manifest (file.Skip n) bytes place wrong spelled = absurd wrong

module _ (told : Option Files) (files : Files) (schema : Schema) (manifest : Manifest) (known : told ≡ Some files) where
  abbrev SoundThere : FileId → Type 0
  SoundThere g = IsSound schema manifest g (bytes_of g files)

  not_sound : (f g : FileId) (place : ℕ) (wanted found : FileMark) → IsDamage told (mark_for schema manifest f) f (GoesWrongAlone schema manifest.rows f) (Damaged g place wanted found) → SoundThere f → ⊥
  not_sound f g place wanted found damage sound =
      let why = damage_there files (mark_for schema manifest f) f g (GoesWrongAlone schema manifest.rows f) place wanted found told known damage in
      not_refused (mark_for schema manifest f) f g (GoesWrongAlone schema manifest.rows f (bytes_of f files)) (bytes_of f files) place wanted found why sound.marked
      (λ wrong. wrong_alone schema manifest f (bytes_of f files) place wrong sound.spelled)

  pub unsound_told : (fault : PartFault) → IsUnsoundFault told schema manifest fault → Tells (FirstUnsound schema manifest files) fault
  unsound_told Fault why = tt
  unsound_told NoMemory why = tt
  unsound_told (Damaged g place wanted found) why =
      inl (why.file, first_fails told files known (IsSound schema manifest) (content_ids schema) why.place why.file why.file_is why.before (not_sound why.file g place wanted found why.explained), ap Some why.explained.explained.0)

  -- ---- files that spell rows

  module _ (rows : List Row) (read : AreRowsRead told schema manifest rows) where
    pub rows_spelled : SpellRows schema manifest.rows files rows
    rows_spelled = record { are = read.are; columns = λ n below. there told files (file.Column n) (λ bytes. bytes ≡ column_bytes (column_of n rows)) known (read.columns n below) }

    pub none_unsound : IsFirstWithout SoundThere (content_ids schema) None
    none_unsound = all_read told files known (IsSound schema manifest) (content_ids schema) read.checked

-- what is kept is that of the files
module _ (told : Option Files) (files : Files) (schema : Schema) (loaded : Loaded) (has : HasMarks schema) (indexed : HasIndexes schema) (known : told ≡ Some files) (is : IsLoadedOf schema files loaded) where
  abbrev manifest : Manifest
  manifest = loaded.manifest

  -- a damaged file under the manifest is the first damaged file
  pub file_under : (found : Option FileId) → FirstUnsound schema manifest files found → damaged_file schema files ≡ found
  file_under found unsound =
      file_is schema files found
      (inl (manifest, is.manifest, inr (all_without (λ g. IsReadable schema manifest g (bytes_of g files)) (opened_ids schema) (loaded_readable schema files loaded is), unsound)))

  module _ (rows : List Row) (read : AreRowsRead told schema manifest rows) where
    small : (c : ℕ) → c < length schema.columns → length (column_bytes (column_of c rows)) < 2 ^ 64
    small c below =
        let sound = all_have (λ g. IsSound schema manifest g (bytes_of g files)) (content_ids schema) (none_unsound told files schema manifest known rows read) (c + length schema.indexes + 2) (file.Column c) (content_at schema c below) in
        sizes_fit manifest (column_bytes (column_of c rows)) (file.Column c) is.manifest.of.marks (c + length schema.indexes + 2)
        (sound.marked ∙ ap (λ bs. Some (mark_of bs)) ((rows_spelled told files schema manifest known rows read).columns c below))

    -- the files of granules are those of the rows where what is kept is
    marks_alike : loaded.places ≡ (loaded_of schema rows).places → bytes_of file.Marks files ≡ content_bytes schema rows file.Marks
    marks_alike e = is.places.are.spelled ∙ ap places_bytes e

    keys_alike : loaded.marks ≡ (loaded_of schema rows).marks → bytes_of file.Primary files ≡ content_bytes schema rows file.Primary
    keys_alike e = is.keys.are.spelled ∙ ap keys_bytes e

    alike_marks : bytes_of file.Marks files ≡ content_bytes schema rows file.Marks → loaded.places ≡ (loaded_of schema rows).places
    alike_marks e =
        one_marks (length schema.columns) (granules schema.granularity manifest.rows) (bytes_of file.Marks files) loaded.places (granule_places schema.granularity (length schema.columns) rows) is.places.are
        (subst (λ bs. AreMarksFor schema manifest.rows bs (granule_places schema.granularity (length schema.columns) rows)) (sym e) (places_of_rows schema rows manifest.rows has read.are small))

    alike_keys : bytes_of file.Primary files ≡ content_bytes schema rows file.Primary → loaded.marks ≡ (loaded_of schema rows).marks
    alike_keys e =
        one_primary (shape_of schema manifest.rows) (bytes_of file.Primary files) loaded.marks (mark_keys schema.primary schema.granularity rows) is.keys.are
        (subst (λ bs. AreKeysFor schema manifest.rows bs (mark_keys schema.primary schema.granularity rows)) (sym e) (keys_of_rows schema rows manifest.rows has read.are))

    index_alike : (n : ℕ) → n < length schema.indexes → slice_get loaded.indexes n ≡ slice_get (indexes_of schema rows) n → bytes_of (file.Skip n) files ≡ content_bytes schema rows (file.Skip n)
    index_alike n below e =
        index_spelled schema n manifest.rows (bytes_of (file.Skip n) files) (index_of schema n rows) (is.indexes.each n (index_of schema n rows) (e ∙ mapped_at (λ k. index_of schema k rows) (length schema.indexes) n below)).are

    alike_index : (n : ℕ) → n < length schema.indexes → bytes_of (file.Skip n) files ≡ content_bytes schema rows (file.Skip n) → slice_get loaded.indexes n ≡ slice_get (indexes_of schema rows) n
    alike_index n below e =
        let own = item_there loaded.indexes n (omega (arith, below, is.indexes.count_is)) in
        let same : own.0 ≡ index_of schema n rows =
        one_index schema n manifest.rows (bytes_of (file.Skip n) files) own.0 (index_of schema n rows) (is.indexes.each n own.0 own.1).are
        (subst (λ bs. AreBlocksFor schema manifest.rows n bs (index_of schema n rows)) (sym e) (index_of_rows schema rows manifest.rows has read.are indexed n below)) in
        own.1 ∙ ap Some same ∙ sym (mapped_at (λ k. index_of schema k rows) (length schema.indexes) n below)

    -- the file is that of the rows
    abbrev Alike : FileId → Type 0
    Alike f = bytes_of f files ≡ content_bytes schema rows f

    alike_opened : loaded.places ≡ (loaded_of schema rows).places → loaded.marks ≡ (loaded_of schema rows).marks → (These : ℕ → Type 0) → AreKeptOf schema rows loaded These → (i : ℕ) (f : FileId) → slice_get (opened_ids schema) i ≡ Some f → ((n : ℕ) → i ≡ suc (suc n) → These n) → Alike f
    alike_opened places marks These kept zero f here this = subst Alike (same_Some file.Marks f here) (marks_alike places)
    alike_opened places marks These kept (suc zero) f here this = subst Alike (same_Some file.Primary f here) (keys_alike marks)
    alike_opened places marks These kept (suc (suc n)) f here this =
        let skip = skip_is schema n f here in
        subst Alike (sym skip.0) (index_alike n skip.1 (kept n (this n refl)))

    -- what is kept is that of the rows, so no file is unsound
    pub kept_unsound : loaded.places ≡ (loaded_of schema rows).places → loaded.marks ≡ (loaded_of schema rows).marks → AreKeptOf schema rows loaded (λ n. n < length schema.indexes) → FirstUnsound schema manifest files None
    kept_unsound places marks kept =
        inr (
          none_unsound told files schema manifest known rows read,
          (
            rows,
            rows_spelled told files schema manifest known rows read,
            all_without Alike (opened_ids schema) (λ i f here. alike_opened places marks (λ n. n < length schema.indexes) kept i f here
                (λ n at. omega (arith, at, slice_get_within (opened_ids schema) i f here, opened_length schema))),
          ),
        )

    -- the first file that is not that of the rows
    unlike_there : (f : FileId) → IsFirstWithout Alike (opened_ids schema) (Some f) → FirstUnsound schema manifest files (Some f)
    unlike_there f first = inr (none_unsound told files schema manifest known rows read, (rows, rows_spelled told files schema manifest known rows read, first))

    -- of a number that is no index's nothing is kept, and nothing is wanted
    unlike_within : (n : ℕ) → (slice_get loaded.indexes n ≡ slice_get (indexes_of schema rows) n → ⊥) → (n < length schema.indexes) ⊎ (length schema.indexes ≤ n) → n < length schema.indexes
    unlike_within n other (inl less) = less
    unlike_within n other (inr more) =
        absurd (other (slice_get_past loaded.indexes n (omega (arith, more, is.indexes.count_is))
        ∙ sym (slice_get_past (indexes_of schema rows) n (omega (arith, more, length-map-range_with_len (λ k. index_of schema k rows) 0 (length schema.indexes))))))

    unlike_first : (f : FileId) → IsKeptUnlike schema rows loaded f → FirstUnsound schema manifest files (Some f)
    unlike_first file.Marks other = unlike_there file.Marks (inr ((λ e. other (alike_marks e)), refl))
    unlike_first file.Primary other = unlike_there file.Primary (inl (marks_alike other.0, inr ((λ e. other.1 (alike_keys e)), refl)))
    unlike_first (file.Skip n) other =
        let below : n < length schema.indexes = unlike_within n other.3 (cases_lt n (length schema.indexes)) in
        unlike_there (file.Skip n)
        (first_at Alike (opened_ids schema) (n + 2) (file.Skip n) (opened_skip schema n below)
        (λ i f less here. alike_opened other.0 other.1 (λ k. k < n) other.2 i f here (λ k at. omega (arith, at, less)))
        (λ e. other.3 (alike_index n below e)))
    unlike_first file.Entry other = absurd other
    unlike_first file.Manifest other = absurd other
    unlike_first (file.Column n) other = absurd other

  unlike_told : (fault : PartFault) → IsUnlikeFault told schema loaded fault → Tells (FirstUnsound schema manifest files) fault
  unlike_told Fault why = tt
  unlike_told NoMemory why = tt
  unlike_told (Damaged f place wanted found) why = unlike_first why.rows why.read f why.unlike.0

  -- what a fault tells is the first damaged file
  pub check_told : (fault : PartFault) → ExplainsCheck told schema loaded fault → Tells (λ found. damaged_file schema files ≡ found) fault
  check_told fault (inl why) = told_more (FirstUnsound schema manifest files) (λ found. damaged_file schema files ≡ found) fault file_under (unsound_told told files schema manifest known fault why)
  check_told fault (inr why) = told_more (FirstUnsound schema manifest files) (λ found. damaged_file schema files ≡ found) fault file_under (unlike_told fault why)

-- ---- parts that hold rows

tells_none : (schema : Schema) (manifest : Manifest) (files : Files) (fault : PartFault) → FirstUnsound schema manifest files None → Tells (FirstUnsound schema manifest files) fault → IsNoDamage fault
tells_none schema manifest files Fault none tells = tt
tells_none schema manifest files NoMemory none tells = tt
tells_none schema manifest files (Damaged f place wanted found) none tells = let e : Some f ≡ None = one_unsound schema manifest files (Some f) None tells none in absurd cc

kept_is : (schema : Schema) (rows : List Row) (loaded : Loaded) (f : FileId) → loaded ≡ loaded_of schema rows → IsKeptUnlike schema rows loaded f → ⊥
kept_is schema rows loaded file.Marks is other = other (ap (λ (l : Loaded). l.places) is)
kept_is schema rows loaded file.Primary is other = other.1 (ap (λ (l : Loaded). l.marks) is)
kept_is schema rows loaded file.Entry is other = absurd other
kept_is schema rows loaded file.Manifest is other = absurd other
kept_is schema rows loaded (file.Skip n) is other = other.3 (ap (λ (l : Loaded). slice_get l.indexes n) is)
kept_is schema rows loaded (file.Column n) is other = absurd other

module _ {F : Type 0} (files_of : F → Option Files) (schema : Schema) (part : Part F) (rows : List Row) (h : PartHolds files_of schema part rows) where
  abbrev held_manifest : Manifest
  held_manifest = part.loaded.manifest

  -- the rows that the files spell are those that the part holds
  held_rows : (read : List Row) → AreRowsRead (files_of part.dir) schema held_manifest read → read ≡ rows
  held_rows read r = one_rows schema held_manifest.rows h.files read rows (rows_spelled (files_of part.dir) h.files schema held_manifest h.files_are read r) (spell_held files_of schema part rows h)

  held_unlike : (fault : PartFault) → IsUnlikeFault (files_of part.dir) schema part.loaded fault → IsNoDamage fault
  held_unlike Fault why = tt
  held_unlike NoMemory why = tt
  held_unlike (Damaged f place wanted found) why =
      absurd (kept_is schema why.rows part.loaded f (h.loaded_is ∙ ap (loaded_of schema) (sym (held_rows why.rows why.read))) why.unlike.0)

  -- no damage is told of a part that holds rows
  pub held_sound : (fault : PartFault) → ExplainsCheck (files_of part.dir) schema part.loaded fault → IsNoDamage fault
  held_sound fault (inl why) =
      tells_none schema held_manifest h.files fault (held_unsound files_of schema part h.files rows h.files_are h) (unsound_told (files_of part.dir) h.files schema held_manifest h.files_are fault why)
  held_sound fault (inr why) = held_unlike fault why

-- ---- what is found once all files are gone over

-- what is told of the places, the keys and the indexes
abbrev told_of : Bool → Bool → Option ℕ → Option FileId
told_of places keys index = if places then (if keys then option_map file.Skip index else Some file.Primary) else Some file.Marks

-- which of them is not that of the rows
data IsUnlike (places keys : Bool) (index : Option ℕ) (f : FileId) : Type 0 where
  no_places : places ≡ false → f ≡ file.Marks → IsUnlike places keys index f
  no_keys : places ≡ true → keys ≡ false → f ≡ file.Primary → IsUnlike places keys index f
  no_index : (n : ℕ) → places ≡ true → keys ≡ true → index ≡ Some n → f ≡ file.Skip n → IsUnlike places keys index f

is_unlike : (places keys : Bool) (index : Option ℕ) (f : FileId) → told_of places keys index ≡ Some f → IsUnlike places keys index f
is_unlike false keys index f e = no_places refl (sym (same_Some file.Marks f e))
is_unlike true false index f e = no_keys refl refl (sym (same_Some file.Primary f e))
is_unlike true true (Some n) f e = no_index n refl refl refl (sym (same_Some (file.Skip n) f e))
is_unlike true true None f e = absurd cc

pub is_like : (places keys : Bool) (index : Option ℕ) → told_of places keys index ≡ None → (places ≡ true) × (keys ≡ true) × (index ≡ None)
is_like true true None e = (refl, refl, refl)
is_like true true (Some n) e = absurd cc
is_like true false index e = absurd cc
is_like false keys index e = absurd cc

-- the fault that is made of the file
abbrev pub IsMadeOf : Schema → Manifest → FileId → PartFault → Type 0
IsMadeOf schema manifest f fault = (mark : FileMark) → mark_for schema manifest f ≡ Some mark → fault ≡ Damaged f 0 mark mark

module _ (told : Option Files) (schema : Schema) (loaded : Loaded) (agreed : Agreement) (rows : List Row) (c : AreRowsCompared told schema loaded agreed rows) where
  -- a file that is not that of the rows, and its mark
  record UnlikeMarked (f : FileId) : Type 0 where
    mark : FileMark
    marked : mark_for schema loaded.manifest f ≡ Some mark
    other : IsKeptUnlike schema rows loaded f

  -- the mark of a file that was checked
  marked_at : (place : ℕ) (f : FileId) → slice_get (content_ids schema) place ≡ Some f → (mark : FileMark) × (mark_for schema loaded.manifest f ≡ Some mark)
  marked_at place f here =
      let read = checked_there told (IsSound schema loaded.manifest) (content_ids schema) place f here c.read.checked in
      (mark_of read.bytes, read.are.marked)

  -- the index that is not that of the rows is one of the table
  unlike_number : (n : ℕ) → IsFirstFailing (IsIndexKept schema loaded rows) (Some n) → (n < length schema.indexes) ⊎ (length schema.indexes ≤ n) → n < length schema.indexes
  unlike_number n first (inl less) = less
  unlike_number n first (inr more) = absurd (first.1 (λ below. absurd (omega (arith, below, more))))

  unlike_marked : (f : FileId) → IsUnlike agreed.places agreed.keys agreed.index f → UnlikeMarked f
  unlike_marked f (no_places places is) =
      let m = marked_at 0 file.Marks refl in
      subst UnlikeMarked (sym is) (record { mark = m.0; marked = m.1; other = λ same. false≢true (sym places ∙ c.places.1 same) })
  unlike_marked f (no_keys places keys is) =
      let m = marked_at 1 file.Primary refl in
      subst UnlikeMarked (sym is) (record { mark = m.0; marked = m.1; other = (c.places.0 places, λ same. false≢true (sym keys ∙ c.keys.1 same)) })
  unlike_marked f (no_index n places keys index is) =
      let first : IsFirstFailing (IsIndexKept schema loaded rows) (Some n) = subst (IsFirstFailing (IsIndexKept schema loaded rows)) index c.index in
      let below : n < length schema.indexes = unlike_number n first (cases_lt n (length schema.indexes)) in
      let m = marked_at (n + 2) (file.Skip n) (content_skip schema n below) in
      subst UnlikeMarked (sym is)
      (record { mark = m.0; marked = m.1; other = (c.places.0 places, c.keys.0 keys, (λ k less. first.0 k less (omega (arith, less, below))), λ same. first.1 (λ _. same)) })

  pub unlike_fault : (f : FileId) (fault : PartFault) → unlike_file agreed ≡ Some f → IsMadeOf schema loaded.manifest f fault → ExplainsCheck told schema loaded fault
  unlike_fault f error e made =
      let m = unlike_marked f (is_unlike agreed.places agreed.keys agreed.index f e) in
      inr (subst (IsUnlikeFault told schema loaded) (sym (made m.mark m.marked)) (record { rows = rows; read = c.read; unlike = (m.other, refl, m.marked, refl) }))

  -- it is no fault of the disk
  pub no_check_fault : (f : FileId) (fault : PartFault) → unlike_file agreed ≡ Some f → IsMadeOf schema loaded.manifest f fault → fault ≡ Fault → ⊥
  no_check_fault f why e made fails =
      let m = unlike_marked f (is_unlike agreed.places agreed.keys agreed.index f e) in
      let both : Damaged f 0 m.mark m.mark ≡ Fault = sym (made m.mark m.marked) ∙ fails in cc
