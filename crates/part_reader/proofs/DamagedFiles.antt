-- The function of the first damaged file is what the relation says.
use Rattle.std.proofs.Common.{◌≡◌, Option, Some, ap, subst, inr}
use Rattle.mt_values.specs.declared.manifest.Manifest.{Manifest}
use Rattle.mt_base.specs.declared.name.FileId.{FileId}
use Rattle.mt_base.specs.declared.name.FileId.TheVariants as file
use Rattle.mt_values.specs.declared.schema.Schema.{Schema}
use Rattle.mt_outside.specs.Files.{Files, bytes_of}
use Rattle.part_reader.specs.declared.reading.PartFault.{PartFault}
use Rattle.part_reader.specs.declared.reading.PartFault.TheVariants.{Fault, NoMemory, Damaged}
use Rattle.part_reader.specs.Damage.{ExplainsManifestFile, Tells}
use Rattle.part_reader.specs.DamagedFile.{damaged_file}
use Rattle.part_reader.specs.Faults.{IsNoDamage}
use Rattle.part_damage.specs.Sound.{FirstDamaged, IsManifestFor}
use Rattle.part_reader.proofs.Damages.{one_damaged}
use Rattle.part_damage.proofs.Deciding.{decide_damaged}

pub damaged_is : (schema : Schema) (files : Files) → FirstDamaged schema files (damaged_file schema files)
unfolding damaged_file
damaged_is schema files = (decide_damaged schema files).1

-- what the relation says is what the function gives
pub file_is : (schema : Schema) (files : Files) (found : Option FileId) → FirstDamaged schema files found → damaged_file schema files ≡ found
file_is schema files found first = one_damaged schema files (damaged_file schema files) found (damaged_is schema files) first

pub file_told : (schema : Schema) (files : Files) (found : Option FileId) → damaged_file schema files ≡ found → FirstDamaged schema files found
file_told schema files found e = subst (FirstDamaged schema files) e (damaged_is schema files)

pub told_more : (P Q : Option FileId → Type 0) (why : PartFault) → ((found : Option FileId) → P found → Q found) → Tells P why → Tells Q why
told_more P Q Fault more tells = tt
told_more P Q NoMemory more tells = tt
told_more P Q (Damaged f place wanted found) more tells = more (Some f) tells

pub told_file : (schema : Schema) (files : Files) (why : PartFault) → Tells (FirstDamaged schema files) why → Tells (λ found. damaged_file schema files ≡ found) why
told_file schema files why tells = told_more (FirstDamaged schema files) (λ found. damaged_file schema files ≡ found) why (file_is schema files) tells

-- bytes that are no manifest with a mark of each file are those of a damaged one
pub manifest_told : (told : Option Files) (schema : Schema) (files : Files) (why : PartFault) → ExplainsManifestFile told schema why → ((manifest : Manifest) → IsManifestFor schema (bytes_of file.Manifest files) manifest → IsNoDamage why) → Tells (FirstDamaged schema files) why
manifest_told told schema files Fault explained spelled = tt
manifest_told told schema files NoMemory explained spelled = tt
manifest_told told schema files (Damaged f place wanted found) explained spelled = inr (spelled, ap Some explained.explained.0)
