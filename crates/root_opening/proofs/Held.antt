-- The parts of a store that was opened hold rows.
use Rattle.std.proofs.Common.{◌≡◌, ℕ, List, Option, Some, None, length, get_or, refl, sym, inr}
use Rattle.std.proofs.lemmas.List.Elements.{Contains-get_or}
use Rattle.std.proofs.lemmas.Option.{slice_get_read}
use Rattle.mt_base.specs.declared.name.FileId.{FileId}
use Rattle.mt_outside.specs.Disk.{Names}
use Rattle.mt_outside.specs.Files.{Files}
use Rattle.root_store.specs.mt_model.History.{IsTableSchema}
use Rattle.root_store.specs.part_reader.declared.reading.Part.{Part}
use Rattle.root_store.specs.part_reader.DamagedFile.{damaged_file}
use Rattle.root_store.proofs.PartReaderDamagedFiles.{file_told}
use Rattle.root_store.proofs.PartReaderHeldRows.{undamaged_rows}
use Rattle.root_store.specs.part_reader.Sound.{IsLoadedOf}
use Rattle.root_store.specs.part_set.declared.kept.Kept.{Kept}
use Rattle.root_store.specs.part_set.declared.root_name.RootName.TheVariants as root
use Rattle.root_store.specs.part_set.Sets.{parts_of}
use Rattle.root_store.specs.declared.store.CoreStore.{CoreStore}
use Rattle.root_store.specs.declared.store.Table.{Table}
use Rattle.root_store.specs.Damage.{DamagedAt}
use Rattle.root_store.specs.Soundness.{HasSoundParts, HoldsRows, IsSoundStore}
use Rattle.root_store.specs.Stores.{StoreOf}
use Rattle.root_store.proofs.Items.{map_item}
use Rattle.root_store.proofs.TableIndexes.{has_indexes}
use Rattle.root_store.proofs.TableMarks.{has_marks}

module _ {F : Type 0} (files_of : F → Option Files) where
  -- a root of which no file is damaged was opened
  pub held_opened : (names : Names) (store : CoreStore F) (o : StoreOf files_of names store) → IsSoundStore store → ((place : ℕ) (f : FileId) → DamagedAt names o.read place f → ⊥) → HasSoundParts files_of store
  held_opened names store o sound undamaged = λ table t at k d within.
      let kept = o.kept table t at k d within in
      let part = get_or (parts_of store.set table) k d in
      let has = map_item (λ (x : Kept (Part F)). x.name) (parts_of store.set table) part (Contains-get_or (parts_of store.set table) k d within) in
      let visible = (o.parts table part.name).1 has in
      let here = visible.here in
      let may = (sound.tables table t at).may k d within in
      by table t part kept.files (sound.tables table t at).schema kept.told kept.loaded (λ f bad. undamaged here.0 f (
        root.Part (record { table = table; name = part.name }),
        kept.files,
        slice_get_read o.read (length o.read) here.0 (root.Part (record { table = table; name = part.name })) refl here.1 (sym here.2),
        kept.there,
        (visible, (t.schema, (o.tables table t at).entry, inr (may, bad))),
      )) (damaged_file t.schema kept.files) refl
    where
      by : (table : List ℕ) (t : Table) (part : Kept (Part F)) (files : Files) → IsTableSchema t.schema → files_of part.part.dir ≡ Some files → IsLoadedOf t.schema files part.part.loaded → ((f : FileId) → damaged_file t.schema files ≡ Some f → ⊥) → (found : Option FileId) → damaged_file t.schema files ≡ found
          → HoldsRows files_of t.schema part
      by table t part files schema told loaded none None is = undamaged_rows files_of t.schema part.part files (has_marks t.schema schema) (has_indexes t.schema schema) told loaded (file_told t.schema files None is)
      by table t part files schema told loaded none (Some f) is = absurd (none f is)
