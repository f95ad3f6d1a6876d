-- A part that is opened: what is kept of it, and what a fault says.
use Rattle.std.proofs.Common.{◌≡◌, ℕ, suc, List, Option, Some, inl, inr, refl, sym, ap, ap₂, ◌∙◌, subst, length, get_or, slice_get, arith}
use Rattle.std.proofs.lemmas.Option.{slice_get-get_or, slice_get_within}
use Rattle.mt_values.specs.declared.manifest.Manifest.{Manifest}
use Rattle.mt_base.specs.declared.name.FileId.{FileId}
use Rattle.mt_base.specs.declared.name.FileId.TheVariants as file
use Rattle.mt_values.specs.declared.schema.Schema.{Schema}
use Rattle.mt_values.specs.Values.{Row}
use Rattle.mt_outside.specs.Files.{Files, bytes_of}
use Rattle.part_damage.specs.column_file.Marks.{granules}
use Rattle.part_damage.proofs.DigestFileManifests.{one_manifest}
use Rattle.part_damage.specs.primary_marks.Keys.{shape_of}
use Rattle.part_damage.proofs.PrimaryMarksKeysOneWay.{one_primary}
use Rattle.part_damage.proofs.PrimaryMarksStarts.{one_marks}
use Rattle.part_damage.specs.part_writer.declared.loaded.Loaded.{Loaded}
use Rattle.part_damage.proofs.PartWriterContents.{skip_at}
use Rattle.part_damage.specs.skip_index.declared.index.Index.{Index}
use Rattle.part_damage.proofs.IndexFiles.{one_index}
use Rattle.part_damage.specs.Marks.{mark_for}
use Rattle.part_reader.proofs.SameLists.{same_list}
use Rattle.part_reader.specs.declared.reading.PartFault.{PartFault}
use Rattle.part_reader.specs.declared.reading.PartFault.TheVariants.{Fault, NoMemory, Damaged}
use Rattle.part_reader.specs.Damage.{ExplainsManifestFile, ExplainsOpening, GoesWrongAt, IsOpenedFault, IsSkipFault}
use Rattle.part_reader.specs.Faults.{ExplainsFile}
use Rattle.part_damage.specs.Sound.{AreBlocksFor, AreBlocksUnder, AreIndexes, AreKeysUnder, AreMarksUnder, IsLoadedOf, IsManifestFor, IsReadAs, IsReadable}

-- what was read of a file is so of the file, where the folder tells
pub there : (told : Option Files) (files : Files) (f : FileId) (Are : List ℕ → Type 0) → told ≡ Some files → IsReadAs told f Are → Are (bytes_of f files)
there told files f Are known r = subst Are (r.read files known) r.are

-- the same manifest
pub manifest_is : (schema : Schema) (bytes : List ℕ) (x y : Manifest) → IsManifestFor schema bytes x → IsManifestFor schema bytes y → x ≡ y
manifest_is schema bytes x y p q = one_manifest bytes x y p.of q.of

-- one list of indexes
indexes_are : (schema : Schema) (rows : ℕ) (bytes : ℕ → List ℕ) (xs ys : List Index) → AreIndexes schema (λ n index. AreBlocksFor schema rows n (bytes n) index) xs → AreIndexes schema (λ n index. AreBlocksFor schema rows n (bytes n) index) ys → xs ≡ ys
indexes_are schema rows bytes xs ys p q = same_list xs ys (p.count_is ∙ sym q.count_is) each
  where
    each : (n : ℕ) (index : Index) → slice_get ys n ≡ Some index → slice_get xs n ≡ Some index
    each n index here =
        let own : Index = get_or xs n index in
        let there : slice_get xs n ≡ Some own = slice_get-get_or xs n index (omega (arith, slice_get_within ys n index here, p.count_is, q.count_is)) in
        there ∙ ap Some (one_index schema n rows (bytes n) own index (p.each n own there) (q.each n index here))

-- of the marks that are read with them nothing is said here
pub blocks_for : (schema : Schema) (manifest : Manifest) (bytes : ℕ → List ℕ) (indexes : List Index) → AreIndexes schema (λ n index. AreBlocksUnder schema manifest n (bytes n) index) indexes → AreIndexes schema (λ n index. AreBlocksFor schema manifest.rows n (bytes n) index) indexes
blocks_for schema manifest bytes indexes under = record { count_is = under.count_is; each = λ n index here. (under.each n index here).are }

pub one_indexes : (schema : Schema) (manifest : Manifest) (bytes : ℕ → List ℕ) (xs ys : List Index) → AreIndexes schema (λ n index. AreBlocksUnder schema manifest n (bytes n) index) xs → AreIndexes schema (λ n index. AreBlocksUnder schema manifest n (bytes n) index) ys → xs ≡ ys
one_indexes schema manifest bytes xs ys p q = indexes_are schema manifest.rows bytes xs ys (blocks_for schema manifest bytes xs p) (blocks_for schema manifest bytes ys q)

-- files say one thing
pub one_loaded : (schema : Schema) (files : Files) (x y : Loaded) → IsLoadedOf schema files x → IsLoadedOf schema files y → x ≡ y
one_loaded schema files x y p q =
    let same : x.manifest ≡ y.manifest = manifest_is schema (bytes_of file.Manifest files) x.manifest y.manifest p.manifest q.manifest in
    let rows : ℕ = y.manifest.rows in
    let places : x.places ≡ y.places =
    one_marks (length schema.columns) (granules schema.granularity rows) (bytes_of file.Marks files) x.places y.places (subst (λ (m : Manifest). AreMarksUnder schema m (bytes_of file.Marks files) x.places) same p.places).are q.places.are in
    let keys : x.marks ≡ y.marks =
    one_primary (shape_of schema rows) (bytes_of file.Primary files) x.marks y.marks (subst (λ (m : Manifest). AreKeysUnder schema m (bytes_of file.Primary files) x.marks) same p.keys).are q.keys.are in
    let indexes : x.indexes ≡ y.indexes =
    one_indexes schema y.manifest (λ n. bytes_of (file.Skip n) files) x.indexes y.indexes
    (subst (λ (m : Manifest). AreIndexes schema (λ n index. AreBlocksUnder schema m n (bytes_of (file.Skip n) files) index) x.indexes) same p.indexes) q.indexes in
    ap₂ (λ (s : Schema) (m : Manifest). record { schema = s; manifest = m; marks = x.marks; places = x.places; indexes = x.indexes }) (p.schema_is ∙ sym q.schema_is) same
    ∙ ap₂ (λ (ks : List Row) (ps : List (List ℕ)). record { schema = y.schema; manifest = y.manifest; marks = ks; places = ps; indexes = x.indexes }) keys places
    ∙ ap (λ (is : List Index). record { schema = y.schema; manifest = y.manifest; marks = y.marks; places = y.places; indexes = is }) indexes

-- ---- what a fault says

pub manifest_opening : (told : Option Files) (schema : Schema) (fault : PartFault) → ExplainsManifestFile told schema fault → ExplainsOpening told schema fault
manifest_opening told schema Fault why = tt
manifest_opening told schema NoMemory why = tt
manifest_opening told schema (Damaged f place wanted found) why = inl why

module _ (told : Option Files) (schema : Schema) (manifest : Manifest) where
  -- of a file that is read after the manifest
  pub granule_opening : (fault : PartFault) → IsReadAs told file.Manifest (λ bytes. IsManifestFor schema bytes manifest) → IsOpenedFault told schema manifest fault → ExplainsOpening told schema fault
  granule_opening Fault opened why = tt
  granule_opening NoMemory opened why = tt
  granule_opening (Damaged f place wanted found) opened why = inr (record { manifest = manifest; opened = opened; damaged = why })

  pub marks_fault : (fault : PartFault) → ExplainsFile told (mark_for schema manifest file.Marks) file.Marks (GoesWrongAt schema manifest.rows file.Marks) fault → IsOpenedFault told schema manifest fault
  marks_fault error why = record { place = 0; file = file.Marks; file_is = refl; before = tt; explained = why }

  -- what was read of the files of granules can be read
  module _ (places : List (List ℕ)) (starts : IsReadAs told file.Marks (λ bytes. AreMarksUnder schema manifest bytes places)) where
    marks_read : IsReadAs told file.Marks (IsReadable schema manifest file.Marks)
    marks_read = record { bytes = starts.bytes; read = starts.read; are = (places, starts.are) }

    pub keys_fault : (fault : PartFault) → ExplainsFile told (mark_for schema manifest file.Primary) file.Primary (GoesWrongAt schema manifest.rows file.Primary) fault → IsOpenedFault told schema manifest fault
    keys_fault error why = record { place = 1; file = file.Primary; file_is = refl; before = (marks_read, tt); explained = why }

    pub skip_fault : (keys : List Row) (fault : PartFault) → IsReadAs told file.Primary (λ bytes. AreKeysUnder schema manifest bytes keys) → IsSkipFault told schema manifest fault → IsOpenedFault told schema manifest fault
    skip_fault keys error read why = record {
      place = suc (suc why.number);
      file = file.Skip why.number;
      file_is = skip_at schema why.number why.below;
      before = (marks_read, (record { bytes = read.bytes; read = read.read; are = (keys, read.are) }, why.before));
      explained = why.explained;
    }
