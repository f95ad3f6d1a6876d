-- When a file of a part is sound, and which is the first that is damaged (docs/formats.md, "Parts").
use Rattle.std.specs.Prelude.{◌≡◌, ℕ, ◌<◌, ◌⊎◌, List, [], ◌∷◌, length, slice_get, Option, Some, None, IsSomeAnd, ⊤}
use Rattle.std.specs.Option.{ForSome}
use Rattle.mt_values.specs.declared.manifest.Manifest.{Manifest}
use Rattle.mt_base.specs.declared.name.FileId.{FileId}
use Rattle.mt_base.specs.declared.name.FileId.TheVariants as file
use Rattle.mt_values.specs.declared.schema.Schema.{Schema}
use Rattle.mt_values.specs.ColumnBytes.{column_bytes}
use Rattle.mt_values.specs.Grid.{column_of}
use Rattle.mt_values.specs.Schemas.{column_types}
use Rattle.mt_values.specs.Values.{Row}
use Rattle.mt_outside.specs.Files.{Files, bytes_of}
use Rattle.part_writer.specs.column_file.Marks.{granules}
use Rattle.part_writer.specs.column_file.Spellings.{Spells}
use Rattle.part_writer.specs.digest_file.Spellings.{IsManifestOf}
use Rattle.part_writer.specs.primary_marks.Keys.{ArePartRows, IsPrimaryOf, shape_of}
use Rattle.part_writer.specs.primary_marks.Places.{AreMarksOf}
use Rattle.part_writer.specs.PartFiles.{content_bytes, content_ids, mark_of, opened_ids}
use Rattle.part_writer.specs.declared.loaded.Loaded.{Loaded}
use Rattle.part_writer.specs.skip_index.declared.index.Index.{Index}
use Rattle.part_writer.specs.skip_index.Blocks.{HasIndex}
use Rattle.part_writer.specs.skip_index.Files.{IsIndexFile, shape_of as index_shape}
use Rattle.part_damage.specs.Marks.{mark_for}

-- ---- single files

-- the bytes are this manifest, which has a mark of each file of the format
pub record IsManifestFor (schema : Schema) (bytes : List ℕ) (manifest : Manifest) : Type 0 where
  pub of : IsManifestOf bytes manifest
  pub count_is : length manifest.files ≡ length (content_ids schema)

-- the bytes are marks.bin of a part with so many rows, which says these places
abbrev pub AreMarksFor : Schema → ℕ → List ℕ → List (List ℕ) → Type 0
AreMarksFor schema rows bytes places = AreMarksOf (length schema.columns) (granules schema.granularity rows) bytes places

-- the bytes are primary.bin of a part with so many rows, which has these keys
abbrev pub AreKeysFor : Schema → ℕ → List ℕ → List Row → Type 0
AreKeysFor schema rows bytes keys = IsPrimaryOf (shape_of schema rows) bytes keys

-- the table has a skip index with this number, and the bytes are its file of a part with so many rows, which keeps this
pub record AreBlocksFor (schema : Schema) (rows n : ℕ) (bytes : List ℕ) (index : Index) : Type 0 where
  pub has : HasIndex schema n
  pub are : IsIndexFile (index_shape schema n rows) bytes index

-- they have the mark that the manifest has of marks.bin, and say these places of as many rows
pub record AreMarksUnder (schema : Schema) (manifest : Manifest) (bytes : List ℕ) (places : List (List ℕ)) : Type 0 where
  pub marked : mark_for schema manifest file.Marks ≡ Some (mark_of bytes)
  pub are : AreMarksFor schema manifest.rows bytes places

-- they have the mark that the manifest has of primary.bin, and have these keys of as many rows
pub record AreKeysUnder (schema : Schema) (manifest : Manifest) (bytes : List ℕ) (keys : List Row) : Type 0 where
  pub marked : mark_for schema manifest file.Primary ≡ Some (mark_of bytes)
  pub are : AreKeysFor schema manifest.rows bytes keys

-- they have the mark that the manifest has of the file of the skip index with this number, which keeps this of as many rows
pub record AreBlocksUnder (schema : Schema) (manifest : Manifest) (n : ℕ) (bytes : List ℕ) (index : Index) : Type 0 where
  pub marked : mark_for schema manifest (file.Skip n) ≡ Some (mark_of bytes)
  pub are : AreBlocksFor schema manifest.rows n bytes index

-- the bytes can be read as such a file, by its kind
abbrev pub IsReadable : Schema → Manifest → FileId → List ℕ → Type 0
IsReadable schema manifest file.Marks bytes = (places : List (List ℕ)) × AreMarksUnder schema manifest bytes places
IsReadable schema manifest file.Primary bytes = (keys : List Row) × AreKeysUnder schema manifest bytes keys
IsReadable schema manifest (file.Skip n) bytes = (index : Index) × AreBlocksUnder schema manifest n bytes index
IsReadable schema manifest f bytes = ⊥

-- The bytes spell what a file has in it by itself where the part has so many rows, by its kind: of a column a value of its type for each row.
-- What the files of granules and of skip indexes have in them is compared with the columns.
abbrev pub SpellsFile : Schema → ℕ → FileId → List ℕ → Type 0
SpellsFile schema rows (file.Column n) bytes = IsSomeAnd (slice_get (column_types schema) n) (λ t. Spells t rows bytes)
SpellsFile schema rows file.Marks bytes = ⊤
SpellsFile schema rows file.Primary bytes = ⊤
SpellsFile schema rows (file.Skip n) bytes = ⊤
SpellsFile schema rows f bytes = ⊥

-- the bytes have the mark that the manifest has of the file, and spell what it has in it by itself
pub record IsSound (schema : Schema) (manifest : Manifest) (f : FileId) (bytes : List ℕ) : Type 0 where
  pub marked : mark_for schema manifest f ≡ Some (mark_of bytes)
  pub spelled : SpellsFile schema manifest.rows f bytes

-- ---- the first that is damaged

-- of these files, in their order, the first of which this does not hold, or none
abbrev pub IsFirstWithout : (FileId → Type 0) → List FileId → Option FileId → Type 0
IsFirstWithout Holds [] found = found ≡ None
IsFirstWithout Holds (f ∷ fs) found = (Holds f × IsFirstWithout Holds fs found) ⊎ ((Holds f → ⊥) × (found ≡ Some f))

-- the files of the columns spell these rows, so many of them
pub record SpellRows (schema : Schema) (count : ℕ) (files : Files) (rows : List Row) : Type 0 where
  pub are : ArePartRows schema count rows
  pub columns : (n : ℕ) → n < length schema.columns → bytes_of (file.Column n) files ≡ column_bytes (column_of n rows)

-- of the files that are read where a part is opened, the first that is not the one of the rows which the files of the columns spell, or none
abbrev pub IsFirstUnlike : Schema → Manifest → Files → Option FileId → Type 0
IsFirstUnlike schema manifest files found =
    (rows : List Row) × SpellRows schema manifest.rows files rows × IsFirstWithout (λ f. bytes_of f files ≡ content_bytes schema rows f) (opened_ids schema) found

-- The first file that is not as the manifest and the other files want it, or none: the first of all that is not sound under the manifest,
-- or else the first of granules or skip indexes that is not that of the rows. So while a file is not sound, no other is judged by the rows.
abbrev pub FirstUnsound : Schema → Manifest → Files → Option FileId → Type 0
FirstUnsound schema manifest files found =
    ((f : FileId) × IsFirstWithout (λ g. IsSound schema manifest g (bytes_of g files)) (content_ids schema) (Some f) × (found ≡ Some f))
    ⊎ (IsFirstWithout (λ g. IsSound schema manifest g (bytes_of g files)) (content_ids schema) None × IsFirstUnlike schema manifest files found)

-- the first file that is damaged under a manifest: the first of granules or skip indexes that can't be read, or else the first that is unsound
abbrev pub FirstUnder : Schema → Manifest → Files → Option FileId → Type 0
FirstUnder schema manifest files found =
    ((f : FileId) × IsFirstWithout (λ g. IsReadable schema manifest g (bytes_of g files)) (opened_ids schema) (Some f) × (found ≡ Some f))
    ⊎ (IsFirstWithout (λ g. IsReadable schema manifest g (bytes_of g files)) (opened_ids schema) None × FirstUnsound schema manifest files found)

-- The first damaged file of a part of a table, or none: its manifest where `manifest.bin` is none with a mark of each file, or else the first
-- that is damaged under that manifest.
abbrev pub FirstDamaged : Schema → Files → Option FileId → Type 0
FirstDamaged schema files found =
    ((manifest : Manifest) × IsManifestFor schema (bytes_of file.Manifest files) manifest × FirstUnder schema manifest files found)
    ⊎ (((manifest : Manifest) → IsManifestFor schema (bytes_of file.Manifest files) manifest → ⊥) × (found ≡ Some file.Manifest))

-- ---- files that were read

-- bytes were read that are those of the file, where the folder tells
pub record IsReadAs (told : Option Files) (f : FileId) (Are : List ℕ → Type 0) : Type 0 where
  pub bytes : List ℕ
  pub read : ForSome told (λ files. bytes ≡ bytes_of f files)
  pub are : Are bytes

-- a skip index is kept for each that the table has, of which this holds by its number
pub record AreIndexes (schema : Schema) (Holds : ℕ → Index → Type 0) (indexes : List Index) : Type 0 where
  pub count_is : length indexes ≡ length schema.indexes
  pub each : (n : ℕ) (index : Index) → slice_get indexes n ≡ Some index → Holds n index

-- manifest.bin and the files of granules and of skip indexes were read, and this is kept of them and of the schema
pub record IsOpened (told : Option Files) (schema : Schema) (loaded : Loaded) : Type 0 where
  pub schema_is : loaded.schema ≡ schema
  pub manifest : IsReadAs told file.Manifest (λ bytes. IsManifestFor schema bytes loaded.manifest)
  pub places : IsReadAs told file.Marks (λ bytes. AreMarksUnder schema loaded.manifest bytes loaded.places)
  pub keys : IsReadAs told file.Primary (λ bytes. AreKeysUnder schema loaded.manifest bytes loaded.marks)
  pub indexes : AreIndexes schema (λ n index. IsReadAs told (file.Skip n) (λ bytes. AreBlocksUnder schema loaded.manifest n bytes index)) loaded.indexes

-- what is kept of a part of a table with this schema is what these files say
pub record IsLoadedOf (schema : Schema) (files : Files) (loaded : Loaded) : Type 0 where
  pub schema_is : loaded.schema ≡ schema
  pub manifest : IsManifestFor schema (bytes_of file.Manifest files) loaded.manifest
  pub places : AreMarksUnder schema loaded.manifest (bytes_of file.Marks files) loaded.places
  pub keys : AreKeysUnder schema loaded.manifest (bytes_of file.Primary files) loaded.marks
  pub indexes : AreIndexes schema (λ n index. AreBlocksUnder schema loaded.manifest n (bytes_of (file.Skip n) files) index) loaded.indexes

-- each of these files was read: bytes of which this holds, those of the file where the folder tells
abbrev pub AreReadAs : Option Files → (FileId → List ℕ → Type 0) → List FileId → Type 0
AreReadAs told Holds [] = Unit {0}
AreReadAs told Holds (f ∷ fs) = IsReadAs told f (Holds f) × AreReadAs told Holds fs

-- a file was read: sound bytes
abbrev pub IsChecked : Option Files → Schema → Manifest → FileId → Type 0
IsChecked told schema manifest f = IsReadAs told f (λ bytes. IsSound schema manifest f bytes)

-- so was each of these
abbrev pub AreChecked : Option Files → Schema → Manifest → List FileId → Type 0
AreChecked told schema manifest ids = AreReadAs told (IsSound schema manifest) ids

-- all files were read, and have their marks; those of the columns spell these rows
pub record AreRowsRead (told : Option Files) (schema : Schema) (manifest : Manifest) (rows : List Row) : Type 0 where
  pub checked : AreChecked told schema manifest (content_ids schema)
  pub are : ArePartRows schema manifest.rows rows
  pub columns : (n : ℕ) → n < length schema.columns → IsReadAs told (file.Column n) (λ bytes. bytes ≡ column_bytes (column_of n rows))
