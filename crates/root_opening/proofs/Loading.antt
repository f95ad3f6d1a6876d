-- What is told of a part by the schema that is kept of it is told by that of its table.
use Rattle.std.proofs.Common.{◌≡◌, Option, None, sym, subst}
use Rattle.mt_base.specs.declared.name.FileId.{FileId}
use Rattle.mt_values.specs.declared.schema.Schema.{Schema}
use Rattle.mt_outside.specs.Files.{Files}
use Rattle.root_store.specs.part_writer.declared.loaded.Loaded.{Loaded}
use Rattle.root_store.specs.part_reader.declared.reading.PartFault.{PartFault}
use Rattle.root_store.specs.part_reader.Damage.{Tells}
use Rattle.root_store.specs.part_reader.DamagedFile.{damaged_file}
use Rattle.root_store.specs.part_reader.Sound.{IsLoadedOf}

module _ (schema : Schema) (files : Files) (loaded : Loaded) where
  loaded_own : IsLoadedOf schema files loaded → IsLoadedOf loaded.schema files loaded
  loaded_own is = subst (λ (s : Schema). IsLoadedOf s files loaded) (sym is.schema_is) is

  pub sound_own : IsLoadedOf schema files loaded → (IsLoadedOf loaded.schema files loaded → damaged_file loaded.schema files ≡ None) → damaged_file schema files ≡ None
  sound_own is sound = subst (λ (s : Schema). damaged_file s files ≡ None) is.schema_is (sound (loaded_own is))

  pub damaged_own : (fault : PartFault) → IsLoadedOf schema files loaded → (IsLoadedOf loaded.schema files loaded → Tells (λ (found : Option FileId). damaged_file loaded.schema files ≡ found) fault)
      → Tells (λ (found : Option FileId). damaged_file schema files ≡ found) fault
  damaged_own fault is damaged = subst (λ (s : Schema). Tells (λ (found : Option FileId). damaged_file s files ≡ found) fault) is.schema_is (damaged (loaded_own is))
