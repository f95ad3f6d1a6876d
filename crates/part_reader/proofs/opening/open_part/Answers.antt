use Rattle.std.proofs.Common.{◌≡◌, ◌∙◌, Some, Option, sym, subst}
use Rattle.mt_values.specs.declared.manifest.Manifest.{Manifest}
use Rattle.mt_base.specs.declared.name.FileId.TheVariants as file
use Rattle.mt_values.specs.declared.schema.Schema.{Schema}
use Rattle.mt_outside.specs.Files.{Files, bytes_of}
use Rattle.part_damage.specs.part_writer.declared.loaded.Loaded.{Loaded}
use Rattle.part_reader.specs.Damage.{ExplainsOpening, IsOpenedFault, Tells}
use Rattle.part_reader.specs.declared.reading.PartFault.{PartFault}
use Rattle.part_damage.specs.primary_marks.Keys.{HasMarks}
use Rattle.part_reader.specs.DamagedFile.{damaged_file}
use Rattle.part_reader.specs.Faults.{IsNoDamage}
use Rattle.part_damage.specs.Sound.{AreBlocksUnder, AreIndexes, AreKeysUnder, AreMarksUnder, IsLoadedOf, IsManifestFor, IsOpened, IsReadAs}
use Rattle.part_reader.proofs.Damages.{error_handed_on, opened_told}
use Rattle.part_reader.proofs.DamagedFiles.{manifest_told, told_file}
use Rattle.part_reader.proofs.Gaining.{handed_on}
use Rattle.part_reader.proofs.Opened.{granule_opening, keys_fault, manifest_is, manifest_opening, marks_fault, one_loaded, skip_fault, there}
use Rattle.part_reader.proofs.opening.open_part.Goals as goal
use Rattle.part_reader.proofs.opening.open_part.Given.{Over}

pub returns-in_err-manifest-clause-spelled : goal.returns-in_err-manifest-clause-spelled
returns-in_err-manifest-clause-spelled g c = λ files loaded known is.
    error_handed_on (λ p. p.loaded ≡ loaded) IsNoDamage c.from_residual.result c.in_err-manifest.field-0.0 c.from_residual.ensures.1 (c.in_err-manifest.ensures.spelled files loaded.manifest known is.manifest)

pub returns-in_err-manifest-clause-first : goal.returns-in_err-manifest-clause-first
returns-in_err-manifest-clause-first g c = λ files known.
    handed_on (Tells (λ found. damaged_file c.args.schema.now files ≡ found)) c.from_residual.result c.in_err-manifest.field-0.0 c.from_residual.ensures.1
    (told_file c.args.schema.now files c.in_err-manifest.field-0.0
    (manifest_told (g.R.Dir.Dir.files c.args.dir) c.args.schema.now files c.in_err-manifest.field-0.0 c.in_err-manifest.ensures.damaged (λ manifest is. c.in_err-manifest.ensures.spelled files manifest known is)))

pub returns-in_err-manifest-clause-damaged : goal.returns-in_err-manifest-clause-damaged
returns-in_err-manifest-clause-damaged g c =
    handed_on (ExplainsOpening (g.R.Dir.Dir.files c.args.dir) c.args.schema.now) c.from_residual.result c.in_err-manifest.field-0.0 c.from_residual.ensures.1
    (manifest_opening (g.R.Dir.Dir.files c.args.dir) c.args.schema.now c.in_err-manifest.field-0.0 c.in_err-manifest.ensures.damaged)

-- the manifest that was read is the one that the folder has
module _ (schema : Schema) (told : Option Files) (files : Files) (manifest : Manifest) (loaded : Loaded) (known : told ≡ Some files) (read : IsReadAs told file.Manifest (λ bytes. IsManifestFor schema bytes manifest)) (is : IsLoadedOf schema files loaded) where
  same : loaded.manifest ≡ manifest
  same = manifest_is schema (bytes_of file.Manifest files) loaded.manifest manifest is.manifest (there told files file.Manifest (λ bytes. IsManifestFor schema bytes manifest) known read)

  own_places : AreMarksUnder schema manifest (bytes_of file.Marks files) loaded.places
  own_places = subst (λ (m : Manifest). AreMarksUnder schema m (bytes_of file.Marks files) loaded.places) same is.places

  own_indexes : AreIndexes schema (λ n index. AreBlocksUnder schema manifest n (bytes_of (file.Skip n) files) index) loaded.indexes
  own_indexes = subst (λ (m : Manifest). AreIndexes schema (λ n index. AreBlocksUnder schema m n (bytes_of (file.Skip n) files) index) loaded.indexes) same is.indexes

  own_keys : AreKeysUnder schema manifest (bytes_of file.Primary files) loaded.marks
  own_keys = subst (λ (m : Manifest). AreKeysUnder schema m (bytes_of file.Primary files) loaded.marks) same is.keys

pub returns-in_err-places-clause-spelled : goal.returns-in_err-places-clause-spelled
returns-in_err-places-clause-spelled g c = λ files loaded known is.
    error_handed_on (λ p. p.loaded ≡ loaded) IsNoDamage c.from_residual-in_err-places.result c.in_err-places.field-0.0 c.from_residual-in_err-places.ensures.1
    (c.in_err-places.ensures.spelled files loaded.places known (own_places c.args.schema.now (g.R.Dir.Dir.files c.args.dir) files c.in_ok-manifest.manifest loaded known c.in_ok-manifest.ensures.read is))

-- a fault of a file that is read after the manifest tells the first damaged file
module _ (schema : Schema) (told : Option Files) (files : Files) (manifest : Manifest) (has : HasMarks schema) (known : told ≡ Some files) (read : IsReadAs told file.Manifest (λ bytes. IsManifestFor schema bytes manifest)) where
  file_of : (fault : PartFault) → IsOpenedFault told schema manifest fault → Tells (λ found. damaged_file schema files ≡ found) fault
  file_of fault why = told_file schema files fault (opened_told told files schema manifest fault has known (there told files file.Manifest (λ bytes. IsManifestFor schema bytes manifest) known read) why)

pub returns-in_err-places-clause-first : goal.returns-in_err-places-clause-first
returns-in_err-places-clause-first g c = λ files known.
    let told = g.R.Dir.Dir.files c.args.dir in
    let manifest = c.in_ok-manifest.manifest in
    let fault = c.in_err-places.field-0.0 in
    handed_on (Tells (λ found. damaged_file c.args.schema.now files ≡ found)) c.from_residual-in_err-places.result fault c.from_residual-in_err-places.ensures.1
    (file_of c.args.schema.now told files manifest c.requires.marks known c.in_ok-manifest.ensures.read fault (marks_fault told c.args.schema.now manifest fault c.in_err-places.ensures.damaged))

pub returns-in_err-places-clause-damaged : goal.returns-in_err-places-clause-damaged
returns-in_err-places-clause-damaged g c =
    handed_on (ExplainsOpening (g.R.Dir.Dir.files c.args.dir) c.args.schema.now) c.from_residual-in_err-places.result c.in_err-places.field-0.0 c.from_residual-in_err-places.ensures.1
    (granule_opening (g.R.Dir.Dir.files c.args.dir) c.args.schema.now c.in_ok-manifest.manifest c.in_err-places.field-0.0 c.in_ok-manifest.ensures.read
    (marks_fault (g.R.Dir.Dir.files c.args.dir) c.args.schema.now c.in_ok-manifest.manifest c.in_err-places.field-0.0 c.in_err-places.ensures.damaged))

pub returns-in_err-marks-clause-spelled : goal.returns-in_err-marks-clause-spelled
returns-in_err-marks-clause-spelled g c = λ files loaded known is.
    error_handed_on (λ p. p.loaded ≡ loaded) IsNoDamage c.from_residual-in_err-marks.result c.in_err-marks.field-0.0 c.from_residual-in_err-marks.ensures.1
    (c.in_err-marks.ensures.spelled files loaded.marks known (own_keys c.args.schema.now (g.R.Dir.Dir.files c.args.dir) files c.in_ok-manifest.manifest loaded known c.in_ok-manifest.ensures.read is))

-- the fault of primary.bin
keys_of : (g : Over) (c : goal.After-drop-dir-in_err-marks g) → IsOpenedFault (g.R.Dir.Dir.files c.args.dir) c.args.schema.now c.in_ok-manifest.manifest c.in_err-marks.field-0.0
keys_of g c = keys_fault (g.R.Dir.Dir.files c.args.dir) c.args.schema.now c.in_ok-manifest.manifest c.in_ok-places.places c.in_ok-places.ensures.read c.in_err-marks.field-0.0 c.in_err-marks.ensures.damaged

pub returns-in_err-marks-clause-first : goal.returns-in_err-marks-clause-first
returns-in_err-marks-clause-first g c = λ files known.
    let fault = c.in_err-marks.field-0.0 in
    handed_on (Tells (λ found. damaged_file c.args.schema.now files ≡ found)) c.from_residual-in_err-marks.result fault c.from_residual-in_err-marks.ensures.1
    (file_of c.args.schema.now (g.R.Dir.Dir.files c.args.dir) files c.in_ok-manifest.manifest c.requires.marks known c.in_ok-manifest.ensures.read fault (keys_of g c))

pub returns-in_err-marks-clause-damaged : goal.returns-in_err-marks-clause-damaged
returns-in_err-marks-clause-damaged g c =
    handed_on (ExplainsOpening (g.R.Dir.Dir.files c.args.dir) c.args.schema.now) c.from_residual-in_err-marks.result c.in_err-marks.field-0.0 c.from_residual-in_err-marks.ensures.1
    (granule_opening (g.R.Dir.Dir.files c.args.dir) c.args.schema.now c.in_ok-manifest.manifest c.in_err-marks.field-0.0 c.in_ok-manifest.ensures.read (keys_of g c))

pub returns-in_err-indexes-clause-spelled : goal.returns-in_err-indexes-clause-spelled
returns-in_err-indexes-clause-spelled g c = λ files loaded known is.
    error_handed_on (λ p. p.loaded ≡ loaded) IsNoDamage c.from_residual-in_err-indexes.result c.in_err-indexes.field-0.0 c.from_residual-in_err-indexes.ensures.1
    (c.in_err-indexes.ensures.spelled files loaded.indexes known (own_indexes c.args.schema.now (g.R.Dir.Dir.files c.args.dir) files c.in_ok-manifest.manifest loaded known c.in_ok-manifest.ensures.read is))

-- the fault of the file of a skip index
index_of_fault : (g : Over) (c : goal.After-drop-dir-in_err-indexes g) → IsOpenedFault (g.R.Dir.Dir.files c.args.dir) c.args.schema.now c.in_ok-manifest.manifest c.in_err-indexes.field-0.0
index_of_fault g c =
    skip_fault (g.R.Dir.Dir.files c.args.dir) c.args.schema.now c.in_ok-manifest.manifest c.in_ok-places.places c.in_ok-places.ensures.read c.in_ok-marks.marks c.in_err-indexes.field-0.0 c.in_ok-marks.ensures.read c.in_err-indexes.ensures.damaged

pub returns-in_err-indexes-clause-first : goal.returns-in_err-indexes-clause-first
returns-in_err-indexes-clause-first g c = λ files known.
    let fault = c.in_err-indexes.field-0.0 in
    handed_on (Tells (λ found. damaged_file c.args.schema.now files ≡ found)) c.from_residual-in_err-indexes.result fault c.from_residual-in_err-indexes.ensures.1
    (file_of c.args.schema.now (g.R.Dir.Dir.files c.args.dir) files c.in_ok-manifest.manifest c.requires.marks known c.in_ok-manifest.ensures.read fault (index_of_fault g c))

pub returns-in_err-indexes-clause-damaged : goal.returns-in_err-indexes-clause-damaged
returns-in_err-indexes-clause-damaged g c =
    handed_on (ExplainsOpening (g.R.Dir.Dir.files c.args.dir) c.args.schema.now) c.from_residual-in_err-indexes.result c.in_err-indexes.field-0.0 c.from_residual-in_err-indexes.ensures.1
    (granule_opening (g.R.Dir.Dir.files c.args.dir) c.args.schema.now c.in_ok-manifest.manifest c.in_err-indexes.field-0.0 c.in_ok-manifest.ensures.read (index_of_fault g c))

pub returns-clause-opened : goal.returns-clause-opened
returns-clause-opened g c =
    subst (IsOpened (g.R.Dir.Dir.files c.args.dir) c.args.schema.now) (sym (c.of-2.ensures.loaded ∙ c.in-Ok-of.ensures))
    (record { schema_is = c.in-Ok.ensures; manifest = c.in_ok-manifest.ensures.read; places = c.in_ok-places.ensures.read; keys = c.in_ok-marks.ensures.read; indexes = c.in_ok-indexes.ensures.read })

-- what was read is what the files say
module _ (schema : Schema) (told : Option Files) (files : Files) (loaded : Loaded) (known : told ≡ Some files) (opened : IsOpened told schema loaded) where
  loaded_there : IsLoadedOf schema files loaded
  loaded_there = record {
    schema_is = opened.schema_is;
    manifest = there told files file.Manifest (λ bytes. IsManifestFor schema bytes loaded.manifest) known opened.manifest;
    places = there told files file.Marks (λ bytes. AreMarksUnder schema loaded.manifest bytes loaded.places) known opened.places;
    keys = there told files file.Primary (λ bytes. AreKeysUnder schema loaded.manifest bytes loaded.marks) known opened.keys;
    indexes = record {
      count_is = opened.indexes.count_is;
      each = λ n index here. there told files (file.Skip n) (λ bytes. AreBlocksUnder schema loaded.manifest n bytes index) known (opened.indexes.each n index here);
    };
  }

pub returns-clause-loaded : goal.returns-clause-loaded
returns-clause-loaded g c = λ files known. loaded_there c.args.schema.now (g.R.Dir.Dir.files c.args.dir) files _ known (returns-clause-opened g c)

pub returns-clause-spelled : goal.returns-clause-spelled
returns-clause-spelled g c = λ files loaded known is. one_loaded c.args.schema.now files _ loaded (loaded_there c.args.schema.now (g.R.Dir.Dir.files c.args.dir) files _ known (returns-clause-opened g c)) is
