-- Which file of a part is the first damaged: there is one at most, and what is told of damage is it.
use Rattle.std.proofs.Common.{◌≡◌, ℕ, zero, suc, ◌+◌, ◌<◌, List, [], ◌∷◌, ◌++◌, Option, Some, None, inl, inr, refl, sym, ap, ◌∙◌, subst, length, slice_get, take, arith, Result, Ok, Err, IsErrAnd, IsSomeAnd, MatchResult}
use Rattle.std.proofs.lemmas.List.{take_more}
use Rattle.std.proofs.lemmas.Option.{get_or_from_slice_get, same_Some, slice_get_within}
use Rattle.mt_values.specs.declared.manifest.FileMark.{FileMark}
use Rattle.mt_values.specs.declared.manifest.Manifest.{Manifest}
use Rattle.mt_base.specs.declared.name.FileId.{FileId}
use Rattle.mt_base.specs.declared.name.FileId.TheVariants as file
use Rattle.mt_values.specs.declared.schema.Schema.{Schema}
use Rattle.mt_values.specs.declared.value.ColType.{ColType}
use Rattle.mt_values.specs.Values.{Row}
use Rattle.mt_outside.specs.Files.{Files, bytes_of}
use Rattle.part_damage.specs.column_file.Faults.{IsFirstFault}
use Rattle.part_damage.specs.column_file.Marks.{granules}
use Rattle.part_damage.specs.column_file.Spellings.{Spells}
use Rattle.part_damage.proofs.ColumnFileOneWay.{no_spelling}
use Rattle.part_damage.specs.digest_file.Spellings.{IsManifestOf}
use Rattle.part_damage.proofs.DigestFileManifests.{one_manifest}
use Rattle.part_damage.specs.primary_marks.Keys.{HasMarks, shape_of}
use Rattle.part_damage.proofs.PrimaryMarksKeysOneWay.{no_primary}
use Rattle.part_damage.proofs.PrimaryMarksStarts.{no_marks}
use Rattle.part_damage.specs.part_writer.PartFiles.{IsContent, content_bytes, content_ids, mark_of, opened_ids, skip_ids}
use Rattle.part_damage.proofs.PartWriterContents.{content_known, opened_content, skip_at}
use Rattle.part_reader.specs.declared.reading.PartFault.{PartFault}
use Rattle.part_reader.specs.declared.reading.PartFault.TheVariants.{Fault, NoMemory, Damaged}
use Rattle.part_reader.specs.Damage.{GoesWrongAt, IsOpenedFault, IsSkipFault, Tells}
use Rattle.part_reader.specs.Faults.{ExplainsBytes, ExplainsFile, IsDamage, IsNoDamage, IsRefused}
use Rattle.part_damage.specs.Marks.{mark_for}
use Rattle.part_damage.specs.Sound.{AreBlocksUnder, AreChecked, AreIndexes, AreReadAs, FirstDamaged, FirstUnder, FirstUnsound, IsChecked, IsFirstUnlike, IsFirstWithout, IsManifestFor, IsReadAs, IsReadable, IsSound}
use Rattle.part_damage.proofs.IndexFiles.{no_index}
use Rattle.part_damage.proofs.SpelledRows.{one_rows}
use Rattle.part_damage.specs.skip_index.declared.index.Index.{Index}
use Rattle.part_reader.proofs.Opened.{one_indexes, there}
use Rattle.part_reader.proofs.SameLists.{item_there}

-- ---- one file at most

pub one_without : (Holds : FileId → Type 0) (ids : List FileId) (x y : Option FileId) → IsFirstWithout Holds ids x → IsFirstWithout Holds ids y → x ≡ y
one_without Holds [] x y p q = p ∙ sym q
one_without Holds (f ∷ fs) x y (inl p) (inl q) = one_without Holds fs x y p.1 q.1
one_without Holds (f ∷ fs) x y (inl p) (inr q) = absurd (q.0 p.0)
one_without Holds (f ∷ fs) x y (inr p) (inl q) = absurd (p.0 q.0)
one_without Holds (f ∷ fs) x y (inr p) (inr q) = p.1 ∙ sym q.1

-- a file or none is not both
some_or_none : (Holds : FileId → Type 0) (ids : List FileId) (f : FileId) → IsFirstWithout Holds ids (Some f) → IsFirstWithout Holds ids None → ⊥
some_or_none Holds ids f p q = let e : Some f ≡ None = one_without Holds ids (Some f) None p q in cc

module _ (schema : Schema) (manifest : Manifest) (files : Files) where
  abbrev Sound : FileId → Type 0
  Sound g = IsSound schema manifest g (bytes_of g files)

  abbrev Readable : FileId → Type 0
  Readable g = IsReadable schema manifest g (bytes_of g files)

  one_unlike : (x y : Option FileId) → IsFirstUnlike schema manifest files x → IsFirstUnlike schema manifest files y → x ≡ y
  one_unlike x y p q =
      let same : p.0 ≡ q.0 = one_rows schema manifest.rows files p.0 q.0 p.1 q.1 in
      one_without (λ f. bytes_of f files ≡ content_bytes schema q.0 f) (opened_ids schema) x y
      (subst (λ (rows : List Row). IsFirstWithout (λ f. bytes_of f files ≡ content_bytes schema rows f) (opened_ids schema) x) same p.2) q.2

  pub one_unsound : (x y : Option FileId) → FirstUnsound schema manifest files x → FirstUnsound schema manifest files y → x ≡ y
  one_unsound x y (inl p) (inl q) = p.2 ∙ one_without Sound (content_ids schema) (Some p.0) (Some q.0) p.1 q.1 ∙ sym q.2
  one_unsound x y (inl p) (inr q) = absurd (some_or_none Sound (content_ids schema) p.0 p.1 q.0)
  one_unsound x y (inr p) (inl q) = absurd (some_or_none Sound (content_ids schema) q.0 q.1 p.0)
  one_unsound x y (inr p) (inr q) = one_unlike x y p.1 q.1

  pub one_under : (x y : Option FileId) → FirstUnder schema manifest files x → FirstUnder schema manifest files y → x ≡ y
  one_under x y (inl p) (inl q) = p.2 ∙ one_without Readable (opened_ids schema) (Some p.0) (Some q.0) p.1 q.1 ∙ sym q.2
  one_under x y (inl p) (inr q) = absurd (some_or_none Readable (opened_ids schema) p.0 p.1 q.0)
  one_under x y (inr p) (inl q) = absurd (some_or_none Readable (opened_ids schema) q.0 q.1 p.0)
  one_under x y (inr p) (inr q) = one_unsound x y p.1 q.1

pub one_damaged : (schema : Schema) (files : Files) (x y : Option FileId) → FirstDamaged schema files x → FirstDamaged schema files y → x ≡ y
one_damaged schema files x y (inl p) (inl q) =
    let same : p.0 ≡ q.0 = one_manifest (bytes_of file.Manifest files) p.0 q.0 p.1.of q.1.of in
    one_under schema q.0 files x y (subst (λ (m : Manifest). FirstUnder schema m files x) same p.2) q.2
one_damaged schema files x y (inl p) (inr q) = absurd (q.0 p.0 p.1)
one_damaged schema files x y (inr p) (inl q) = absurd (p.0 q.0 q.1)
one_damaged schema files x y (inr p) (inr q) = p.1 ∙ sym q.1

-- ---- the manifest

-- the first without it is one of the files
among : (Holds Known : FileId → Type 0) (ids : List FileId) (f : FileId) → ((i : ℕ) (g : FileId) → slice_get ids i ≡ Some g → Known g) → IsFirstWithout Holds ids (Some f) → Known f
among Holds Known [] f known p = absurd cc
among Holds Known (g ∷ gs) f known (inl p) = among Holds Known gs f (λ i h here. known (suc i) h here) p.1
among Holds Known (g ∷ gs) f known (inr p) = subst Known (sym (same_Some f g p.1)) (known 0 g refl)

pub opened_known : (schema : Schema) (i : ℕ) (f : FileId) → slice_get (opened_ids schema) i ≡ Some f → IsContent schema f
opened_known schema i f here = content_known schema i f (opened_content schema i f here)

-- no file of which the manifest has a mark is the manifest
never_manifest : (schema : Schema) (manifest : Manifest) (files : Files) → FirstUnder schema manifest files (Some file.Manifest) → ⊥
never_manifest schema manifest files (inl p) =
    subst (IsContent schema) (sym (same_Some file.Manifest p.0 p.2)) (among (λ g. IsReadable schema manifest g (bytes_of g files)) (IsContent schema) (opened_ids schema) p.0 (opened_known schema) p.1)
never_manifest schema manifest files (inr (none, inl p)) =
    subst (IsContent schema) (sym (same_Some file.Manifest p.0 p.2)) (among (λ g. IsSound schema manifest g (bytes_of g files)) (IsContent schema) (content_ids schema) p.0 (content_known schema) p.1)
never_manifest schema manifest files (inr (none, inr p)) =
    among (λ f. bytes_of f files ≡ content_bytes schema p.1.0 f) (IsContent schema) (opened_ids schema) file.Manifest (opened_known schema) p.1.2

-- a manifest that was opened is not damaged
pub manifest_sound : (schema : Schema) (files : Files) (manifest : Manifest) → IsManifestFor schema (bytes_of file.Manifest files) manifest → FirstDamaged schema files (Some file.Manifest) → ⊥
manifest_sound schema files manifest is (inl p) = never_manifest schema p.0 files p.2
manifest_sound schema files manifest is (inr p) = p.0 manifest is

-- the same manifest of the same bytes
pub same_bytes : (schema : Schema) (bytes bs : List ℕ) (manifest : Manifest) → bs ≡ bytes → IsManifestFor schema bytes manifest → IsManifestFor schema bs manifest
same_bytes schema bytes bs manifest same is = record { of = subst (λ l. IsManifestOf l manifest) (sym same) is.of; count_is = is.count_is }

-- ---- files that are read where a part is opened

-- bytes that go wrong are none
wrong_opened : (schema : Schema) (manifest : Manifest) (f : FileId) (bytes : List ℕ) (place : ℕ) → HasMarks schema → GoesWrongAt schema manifest.rows f bytes place → IsReadable schema manifest f bytes → ⊥
wrong_opened schema manifest file.Marks bytes place has wrong r = no_marks (length schema.columns) (granules schema.granularity manifest.rows) bytes place r.0 wrong r.1.are
wrong_opened schema manifest file.Primary bytes place has wrong r = no_primary (shape_of schema manifest.rows) bytes place r.0 has.granularity wrong r.1.are
wrong_opened schema manifest file.Entry bytes place has wrong r = absurd r
wrong_opened schema manifest file.Manifest bytes place has wrong r = absurd r
wrong_opened schema manifest (file.Skip n) bytes place has wrong r = no_index schema n manifest.rows bytes place r.0 wrong r.1.are
wrong_opened schema manifest (file.Column n) bytes place has wrong r = absurd r

readable_marked : (schema : Schema) (manifest : Manifest) (f : FileId) (bytes : List ℕ) → IsReadable schema manifest f bytes → mark_for schema manifest f ≡ Some (mark_of bytes)
readable_marked schema manifest file.Marks bytes r = r.1.marked
readable_marked schema manifest file.Primary bytes r = r.1.marked
readable_marked schema manifest file.Entry bytes r = absurd r
readable_marked schema manifest file.Manifest bytes r = absurd r
readable_marked schema manifest (file.Skip n) bytes r = r.1.marked
readable_marked schema manifest (file.Column n) bytes r = absurd r

-- what is refused has not its mark, or goes wrong
pub not_refused : (o : Option FileMark) (f g : FileId) (WrongAt : ℕ → Type 0) (bytes : List ℕ) (place : ℕ) (wanted found : FileMark) → ExplainsBytes o f WrongAt bytes (Damaged g place wanted found) → o ≡ Some (mark_of bytes) → (WrongAt place → ⊥) → ⊥
not_refused o f g WrongAt bytes place wanted found why marked right =
    let refused : IsRefused (Some (mark_of bytes)) WrongAt bytes place wanted = subst (λ (o : Option FileMark). IsRefused o WrongAt bytes place wanted) marked why.2 in
    elim refused.1 [
      | inl other ↦ other.0 refl
      | inr wrong ↦ right wrong.1
    ]

-- the damage that is told of bytes is that of the file, where the folder tells
pub damage_there : (files : Files) (o : Option FileMark) (f g : FileId) (WrongAt : List ℕ → ℕ → Type 0) (place : ℕ) (wanted found : FileMark) (told : Option Files) → told ≡ Some files → IsDamage told o f WrongAt (Damaged g place wanted found)
    → ExplainsBytes o f (WrongAt (bytes_of f files)) (bytes_of f files) (Damaged g place wanted found)
damage_there files o f g WrongAt place wanted found told known damage =
    subst (λ bs. ExplainsBytes o f (WrongAt bs) bs (Damaged g place wanted found)) (damage.read files known) damage.explained

not_readable : (told : Option Files) (files : Files) (schema : Schema) (manifest : Manifest) (f g : FileId) (place : ℕ) (wanted found : FileMark) → HasMarks schema → told ≡ Some files
    → IsDamage told (mark_for schema manifest f) f (GoesWrongAt schema manifest.rows f) (Damaged g place wanted found) → IsReadable schema manifest f (bytes_of f files) → ⊥
not_readable told files schema manifest f g place wanted found has known damage r =
    let why = damage_there files (mark_for schema manifest f) f g (GoesWrongAt schema manifest.rows f) place wanted found told known damage in
    not_refused (mark_for schema manifest f) f g (GoesWrongAt schema manifest.rows f (bytes_of f files)) (bytes_of f files) place wanted found why (readable_marked schema manifest f (bytes_of f files) r)
    (λ wrong. wrong_opened schema manifest f (bytes_of f files) place has wrong r)

-- files that were read, in their order
module _ (told : Option Files) (files : Files) (known : told ≡ Some files) (Holds : FileId → List ℕ → Type 0) where
  abbrev HoldsThere : FileId → Type 0
  HoldsThere g = Holds g (bytes_of g files)

  pub all_read : (ids : List FileId) → AreReadAs told Holds ids → IsFirstWithout HoldsThere ids None
  all_read [] read = refl
  all_read (f ∷ fs) read = inl (there told files f (Holds f) known read.0, all_read fs read.1)

  pub first_fails : (ids : List FileId) (place : ℕ) (f : FileId) → slice_get ids place ≡ Some f → AreReadAs told Holds (take place ids) → (HoldsThere f → ⊥) → IsFirstWithout HoldsThere ids (Some f)
  first_fails [] place f here read fails = absurd cc
  first_fails (g ∷ gs) zero f here read fails =
      let same : g ≡ f = same_Some g f here in
      inr (subst (λ (x : FileId). HoldsThere x → ⊥) (sym same) fails, ap Some (sym same))
  first_fails (g ∷ gs) (suc i) f here read fails = inl (there told files g (Holds g) known read.0, first_fails gs i f here read.1 fails)

-- a file that is read where a part is opened is the first damaged one where it is told
pub opened_told : (told : Option Files) (files : Files) (schema : Schema) (manifest : Manifest) (fault : PartFault) → HasMarks schema → told ≡ Some files → IsManifestFor schema (bytes_of file.Manifest files) manifest → IsOpenedFault told schema manifest fault
    → Tells (FirstDamaged schema files) fault
opened_told told files schema manifest Fault has known is why = tt
opened_told told files schema manifest NoMemory has known is why = tt
opened_told told files schema manifest (Damaged g place wanted found) has known is why =
    inl (
      manifest,
      is,
      inl (
        why.file,
        first_fails told files known (IsReadable schema manifest) (opened_ids schema) why.place why.file why.file_is why.before
            (not_readable told files schema manifest why.file g place wanted found has known why.explained),
        ap Some why.explained.explained.0,
      ),
    )

-- no damage is told of a file that is readable
pub none_told : (told : Option Files) (files : Files) (schema : Schema) (manifest : Manifest) (f : FileId) (fault : PartFault) → HasMarks schema → told ≡ Some files → IsReadable schema manifest f (bytes_of f files)
    → ExplainsFile told (mark_for schema manifest f) f (GoesWrongAt schema manifest.rows f) fault → IsNoDamage fault
none_told told files schema manifest f Fault has known r why = tt
none_told told files schema manifest f NoMemory has known r why = tt
none_told told files schema manifest f (Damaged g place wanted found) has known r why = absurd (not_readable told files schema manifest f g place wanted found has known why r)

-- ---- one file more

module _ (told : Option Files) (Holds : FileId → List ℕ → Type 0) where
  read_push : (ids : List FileId) (f : FileId) → AreReadAs told Holds ids → IsReadAs told f (Holds f) → AreReadAs told Holds (ids ++ f ∷ [])
  read_push [] f before this = (this, tt)
  read_push (g ∷ gs) f before this = (before.0, read_push gs f before.1 this)

  pub file_more : (ids : List FileId) (i : ℕ) (f : FileId) → slice_get ids i ≡ Some f → AreReadAs told Holds (take i ids) → IsReadAs told f (Holds f) → AreReadAs told Holds (take (i + 1) ids)
  file_more ids i f here before this =
      let more : take (i + 1) ids ≡ take i ids ++ f ∷ [] = take_more ids i f (slice_get_within ids i f here) ∙ ap (λ g. take i ids ++ g ∷ []) (get_or_from_slice_get ids i f f here) in
      subst (AreReadAs told Holds) (sym more) (read_push (take i ids) f before this)

  -- what was read of a file at its place
  pub checked_there : (ids : List FileId) (i : ℕ) (f : FileId) → slice_get ids i ≡ Some f → AreReadAs told Holds ids → IsReadAs told f (Holds f)
  checked_there [] i f here read = absurd cc
  checked_there (g ∷ gs) zero f here read = subst (λ (x : FileId). IsReadAs told x (Holds x)) (same_Some g f here) read.0
  checked_there (g ∷ gs) (suc i) f here read = checked_there gs i f here read.1

-- one file more is checked
pub checked_more : (told : Option Files) (schema : Schema) (manifest : Manifest) (ids : List FileId) (i : ℕ) (f : FileId) → slice_get ids i ≡ Some f → AreChecked told schema manifest (take i ids) → IsChecked told schema manifest f → AreChecked told schema manifest (take (i + 1) ids)
checked_more told schema manifest = file_more told (IsSound schema manifest)

-- ---- the files of skip indexes, one after another

module _ (told : Option Files) (schema : Schema) (manifest : Manifest) where
  -- the file of one index more was read
  pub skip_more : (place : ℕ) (index : Index) → place < length schema.indexes → AreReadAs told (IsReadable schema manifest) (take place (skip_ids schema)) → IsReadAs told (file.Skip place) (λ bytes. AreBlocksUnder schema manifest place bytes index)
      → AreReadAs told (IsReadable schema manifest) (take (place + 1) (skip_ids schema))
  skip_more place index below before read =
      file_more told (IsReadable schema manifest) (skip_ids schema) place (file.Skip place) (skip_at schema place below) before (record { bytes = read.bytes; read = read.read; are = (index, read.are) })

  -- a fault of the next one
  pub skip_wrong : (place : ℕ) (fault : PartFault) → place < length schema.indexes → AreReadAs told (IsReadable schema manifest) (take place (skip_ids schema))
      → ExplainsFile told (mark_for schema manifest (file.Skip place)) (file.Skip place) (GoesWrongAt schema manifest.rows (file.Skip place)) fault → IsSkipFault told schema manifest fault
  skip_wrong place error below before why = record { number = place; below = below; before = before; explained = why }

  -- what is kept of the skip indexes is what their files say
  pub indexes_read : (files : Files) (indexes : List Index) → told ≡ Some files → AreIndexes schema (λ n index. IsReadAs told (file.Skip n) (λ bytes. AreBlocksUnder schema manifest n bytes index)) indexes
      → AreIndexes schema (λ n index. AreBlocksUnder schema manifest n (bytes_of (file.Skip n) files) index) indexes
  indexes_read files indexes known are = record {
    count_is = are.count_is;
    each = λ n index here. there told files (file.Skip n) (λ bytes. AreBlocksUnder schema manifest n bytes index) known (are.each n index here);
  }

  pub indexes_found : (files : Files) (found indexes : List Index) → told ≡ Some files → AreIndexes schema (λ n index. IsReadAs told (file.Skip n) (λ bytes. AreBlocksUnder schema manifest n bytes index)) found
      → AreIndexes schema (λ n index. AreBlocksUnder schema manifest n (bytes_of (file.Skip n) files) index) indexes → found ≡ indexes
  indexes_found files found indexes known are under = one_indexes schema manifest (λ n. bytes_of (file.Skip n) files) found indexes (indexes_read files found known are) under

  -- one of them at a place
  pub index_under : (files : Files) (indexes : List Index) (place : ℕ) → place < length schema.indexes → AreIndexes schema (λ n index. AreBlocksUnder schema manifest n (bytes_of (file.Skip n) files) index) indexes
      → (index : Index) × AreBlocksUnder schema manifest place (bytes_of (file.Skip place) files) index
  index_under files indexes place below under =
      let there = item_there indexes place (omega (arith, below, under.count_is)) in
      (there.0, under.each place there.0 there.1)

-- ---- what a fault tells

pub wrong_column : (o : Option ColType) (rows : ℕ) (bytes : List ℕ) (place : ℕ) → IsSomeAnd o (λ t. IsFirstFault t rows bytes place) → IsSomeAnd o (λ t. Spells t rows bytes) → ⊥
wrong_column None rows bytes place wrong spelled = absurd wrong
wrong_column (Some t) rows bytes place wrong spelled = no_spelling t rows bytes place spelled.values wrong spelled.spelling

-- bytes without their mark, whatever they spell
pub unmarked : (o : Option FileMark) (f : FileId) (WrongAt : ℕ → Type 0) (bytes : List ℕ) (fault : PartFault) → ExplainsBytes o f (λ place. ⊥) bytes fault → ExplainsBytes o f WrongAt bytes fault
unmarked o f WrongAt bytes Fault why = absurd why
unmarked o f WrongAt bytes NoMemory why = tt
unmarked o f WrongAt bytes (Damaged g place wanted found) why = (why.0, why.1, by o why.2)
  where
    by : (o : Option FileMark) → IsRefused o (λ place. ⊥) bytes place wanted → IsRefused o WrongAt bytes place wanted
    by None r = r
    by (Some mark) (w, inl other) = (w, inl other)
    by (Some mark) (w, inr wrong) = absurd wrong.1

-- out of memory is no damage
pub no_damage : (why : PartFault) → why ≡ NoMemory → IsNoDamage why
no_damage why is = subst IsNoDamage (sym is) tt

-- ---- errors that are handed on

pub error_handed_on : {T E : Type 0} (R : T → Type 0) (P : E → Type 0) (result : Result T E) (fault : E) → IsErrAnd result (λ e. e ≡ fault) → P fault → MatchResult result R P
error_handed_on R P (Ok x) fault made holds = absurd made
error_handed_on R P (Err e) fault made holds = subst P (sym made) holds
