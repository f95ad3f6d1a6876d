-- What a fault says of a part that is opened or checked (docs/formats.md, "Parts").
use Rattle.std.specs.Prelude.{◌≡◌, ◌≢◌, ◌<◌, ◌⊎◌, ℕ, List, length, take, slice_get, Option, Some, IsSomeAnd, ⊤}
use Rattle.std.specs.Option.{ForSome}
use Rattle.mt_values.specs.declared.manifest.Manifest.{Manifest}
use Rattle.mt_base.specs.declared.name.FileId.{FileId}
use Rattle.mt_base.specs.declared.name.FileId.TheVariants as file
use Rattle.mt_values.specs.declared.schema.Schema.{Schema}
use Rattle.mt_values.specs.Schemas.{column_types}
use Rattle.mt_outside.specs.Files.{Files, bytes_of}
use Rattle.part_damage.specs.column_file.Faults.{IsFirstFault as IsWrongAt}
use Rattle.part_damage.specs.digest_file.Faults.{IsFirstFault}
use Rattle.part_damage.specs.digest_file.Spellings.{IsManifest, IsManifestOf}
use Rattle.mt_values.specs.Values.{Row}
use Rattle.part_damage.specs.column_file.Marks.{granules}
use Rattle.part_damage.specs.primary_marks.KeyFaults.{IsPrimaryFault}
use Rattle.part_damage.specs.primary_marks.Keys.{shape_of}
use Rattle.part_damage.specs.primary_marks.Places.{IsMarksFault}
use Rattle.part_damage.specs.part_writer.PartFiles.{content_ids, indexes_of, loaded_of, mark_of, opened_ids, skip_ids}
use Rattle.part_damage.specs.part_writer.declared.loaded.Loaded.{Loaded}
use Rattle.part_damage.specs.skip_index.Faults.{IsIndexFault}
use Rattle.part_damage.specs.skip_index.Files.{shape_of as index_shape}
use Rattle.part_reader.specs.declared.reading.PartFault.{PartFault}
use Rattle.part_reader.specs.declared.reading.PartFault.TheVariants.{Fault, NoMemory, Damaged}
use Rattle.part_reader.specs.declared.reading.TheConstants.{NO_MARK}
use Rattle.part_reader.specs.Faults.{ExplainsFile}
use Rattle.part_damage.specs.Marks.{mark_for}
use Rattle.part_damage.specs.Sound.{AreChecked, AreReadAs, AreRowsRead, IsManifestFor, IsReadAs, IsReadable}

-- where the number of files stands in a manifest: after 4 first bytes, 2 of the version and 8 of the number of rows
abbrev pub count_place : ℕ
count_place = 14

-- the bytes are no manifest with a mark of each file: they have their first fault at the place; or they are one of another number of files,
-- and the place is where that stands
abbrev pub IsNoManifest : Schema → List ℕ → ℕ → Type 0
IsNoManifest schema bytes place =
    IsFirstFault IsManifest bytes place ⊎ ((manifest : Manifest) × IsManifestOf bytes manifest × (length manifest.files ≢ length (content_ids schema)) × (place ≡ count_place))

-- what a fault says of the bytes that were read of manifest.bin
abbrev pub ExplainsManifest : Schema → List ℕ → PartFault → Type 0
ExplainsManifest schema bytes Fault = ⊥
ExplainsManifest schema bytes NoMemory = ⊤
ExplainsManifest schema bytes (Damaged f place wanted found) = (f ≡ file.Manifest) × (wanted ≡ NO_MARK) × (found ≡ mark_of bytes) × IsNoManifest schema bytes place

-- damage of manifest.bin is told of bytes that were read: those of the file, where the folder tells
pub record IsManifestDamage (told : Option Files) (schema : Schema) (damage : PartFault) : Type 0 where
  pub bytes : List ℕ
  pub read : ForSome told (λ files. bytes ≡ bytes_of file.Manifest files)
  pub explained : ExplainsManifest schema bytes damage

-- what a fault says of manifest.bin, which was read
abbrev pub ExplainsManifestFile : Option Files → Schema → PartFault → Type 0
ExplainsManifestFile told schema Fault = ⊤
ExplainsManifestFile told schema NoMemory = ⊤
ExplainsManifestFile told schema (Damaged f place wanted found) = IsManifestDamage told schema (Damaged f place wanted found)

-- the bytes go wrong at the place as such a file of a part with so many rows, by its kind
abbrev pub GoesWrongAt : Schema → ℕ → FileId → List ℕ → ℕ → Type 0
GoesWrongAt schema rows file.Marks bytes place = IsMarksFault (length schema.columns) (granules schema.granularity rows) bytes place
GoesWrongAt schema rows file.Primary bytes place = IsPrimaryFault (shape_of schema rows) bytes place
GoesWrongAt schema rows (file.Skip n) bytes place = IsIndexFault (index_shape schema n rows) bytes place
GoesWrongAt schema rows (file.Column n) bytes place = IsSomeAnd (slice_get (column_types schema) n) (λ t. IsWrongAt t rows bytes place)
GoesWrongAt schema rows f bytes place = ⊥

-- of the files that are read where a part is opened, one is damaged under this manifest, and those before it were read
pub record IsOpenedFault (told : Option Files) (schema : Schema) (manifest : Manifest) (fault : PartFault) : Type 0 where
  pub place : ℕ
  pub file : FileId
  pub file_is : slice_get (opened_ids schema) place ≡ Some file
  pub before : AreReadAs told (IsReadable schema manifest) (take place (opened_ids schema))
  pub explained : ExplainsFile told (mark_for schema manifest file) file (GoesWrongAt schema manifest.rows file) fault

-- one of the files of skip indexes is damaged under this manifest, and those before it were read
pub record IsSkipFault (told : Option Files) (schema : Schema) (manifest : Manifest) (fault : PartFault) : Type 0 where
  pub number : ℕ
  pub below : number < length schema.indexes
  pub before : AreReadAs told (IsReadable schema manifest) (take number (skip_ids schema))
  pub explained : ExplainsFile told (mark_for schema manifest (file.Skip number)) (file.Skip number) (GoesWrongAt schema manifest.rows (file.Skip number)) fault

-- damage of a file of granules or of a skip index is told under a manifest that was read
pub record IsGranuleDamage (told : Option Files) (schema : Schema) (damage : PartFault) : Type 0 where
  pub manifest : Manifest
  pub opened : IsReadAs told file.Manifest (λ bytes. IsManifestFor schema bytes manifest)
  pub damaged : IsOpenedFault told schema manifest damage

-- what a fault says of a part that was opened
abbrev pub ExplainsOpening : Option Files → Schema → PartFault → Type 0
ExplainsOpening told schema Fault = ⊤
ExplainsOpening told schema NoMemory = ⊤
ExplainsOpening told schema (Damaged f place wanted found) =
    IsManifestDamage told schema (Damaged f place wanted found) ⊎ IsGranuleDamage told schema (Damaged f place wanted found)

-- The bytes go wrong at the place by themselves. What a file of granules or of a skip index has in it is compared with the columns.
abbrev pub GoesWrongAlone : Schema → ℕ → FileId → List ℕ → ℕ → Type 0
GoesWrongAlone schema rows (file.Column n) bytes place = GoesWrongAt schema rows (file.Column n) bytes place
GoesWrongAlone schema rows f bytes place = ⊥

-- a file is damaged by itself, and those before it are sound
pub record IsUnsoundFault (told : Option Files) (schema : Schema) (manifest : Manifest) (fault : PartFault) : Type 0 where
  pub place : ℕ
  pub file : FileId
  pub file_is : slice_get (content_ids schema) place ≡ Some file
  pub before : AreChecked told schema manifest (take place (content_ids schema))
  pub explained : ExplainsFile told (mark_for schema manifest file) file (GoesWrongAlone schema manifest.rows file) fault

-- what is kept of these skip indexes of a part is that of rows
abbrev pub AreKeptOf : Schema → List Row → Loaded → (ℕ → Type 0) → Type 0
AreKeptOf schema rows loaded These = (n : ℕ) → These n → slice_get loaded.indexes n ≡ slice_get (indexes_of schema rows) n

-- what is kept of a part is not that of rows: the places, or else the keys, or else the skip index with this number
abbrev pub IsKeptUnlike : Schema → List Row → Loaded → FileId → Type 0
IsKeptUnlike schema rows loaded file.Marks = loaded.places ≢ (loaded_of schema rows).places
IsKeptUnlike schema rows loaded file.Primary = (loaded.places ≡ (loaded_of schema rows).places) × (loaded.marks ≢ (loaded_of schema rows).marks)
IsKeptUnlike schema rows loaded (file.Skip n) =
    (loaded.places ≡ (loaded_of schema rows).places) × (loaded.marks ≡ (loaded_of schema rows).marks) × AreKeptOf schema rows loaded (λ k. k < n) × (slice_get loaded.indexes n ≢ slice_get (indexes_of schema rows) n)
IsKeptUnlike schema rows loaded f = ⊥

-- damage of a file of granules or of a skip index, which is not that of the rows that the files of the columns spell
abbrev pub IsUnlikeDamage : Schema → List Row → Loaded → PartFault → Type 0
IsUnlikeDamage schema rows loaded Fault = ⊥
IsUnlikeDamage schema rows loaded NoMemory = ⊥
IsUnlikeDamage schema rows loaded (Damaged f place wanted found) =
    IsKeptUnlike schema rows loaded f × (place ≡ 0) × (mark_for schema loaded.manifest f ≡ Some wanted) × (found ≡ wanted)

-- no file is damaged by itself, and what is kept of the part is not that of the rows
pub record IsUnlikeFault (told : Option Files) (schema : Schema) (loaded : Loaded) (fault : PartFault) : Type 0 where
  pub rows : List Row
  pub read : AreRowsRead told schema loaded.manifest rows
  pub unlike : IsUnlikeDamage schema rows loaded fault

-- what a fault says of a part that was checked
abbrev pub ExplainsCheck : Option Files → Schema → Loaded → PartFault → Type 0
ExplainsCheck told schema loaded fault = IsUnsoundFault told schema loaded.manifest fault ⊎ IsUnlikeFault told schema loaded fault

-- where the fault tells a damaged file, it is this one
abbrev pub Tells : (Option FileId → Type 0) → PartFault → Type 0
Tells IsThis Fault = ⊤
Tells IsThis NoMemory = ⊤
Tells IsThis (Damaged f place wanted found) = IsThis (Some f)
