-- A root that stands for a history has no damaged file.
use Rattle.std.proofs.Common.{[], ◌≡◌, ℕ, List, ◌++◌, Option, Some, None, length, refl, sym, ap, ◌∙◌, subst, inl, inr, arith, codes, length-append}
use Rattle.std.proofs.lemmas.List.Elements.{All-contains}
use Rattle.std.specs.Int.{w32, to_le_bytes}
use Rattle.std.specs.List.{Contains as HasItem}
use Rattle.sha2.specs.Sha256.{sha256}
use Rattle.sha2.proofs.Facts256.{length-sha256}
use Rattle.mt_base.specs.declared.name.FileId.{FileId}
use Rattle.mt_values.specs.declared.schema.Schema.{Schema}
use Rattle.mt_values.specs.Manifests.{entry_body, entry_bytes}
use Rattle.mt_values.specs.RootNames.{create_name}
use Rattle.mt_values.specs.Tables.{MayHavePartition}
use Rattle.mt_outside.specs.Disk.{Names, files_at}
use Rattle.mt_outside.specs.Files.{Files}
use Rattle.table_core.specs.mt_model.History.{History, schema_of}
use Rattle.part_reader.proofs.DigestFilePieces.{fronts_apart}
use Rattle.part_reader.specs.DamagedFile.{damaged_file}
use Rattle.part_reader.proofs.DamagedFiles.{file_is}
use Rattle.part_reader.proofs.HeldRows.{written_undamaged}
use Rattle.table_core.specs.part_set.declared.root_name.RootName.{RootName}
use Rattle.table_core.specs.part_set.declared.root_name.RootName.TheVariants as root
use Rattle.table_core.specs.part_set.declared.root_name.TablePart.{TablePart}
use Rattle.table_core.specs.part_set.RootNames.{root_text}
use Rattle.table_core.specs.part_set.Visible.{IsVisible}
use Rattle.table_core.specs.part_history.declared.part.CorePart.{CorePart}
use Rattle.table_core.specs.part_history.Parts.{core_parts_of}
use Rattle.table_core.proofs.PartHistoryApart.{may_have}
use Rattle.table_core.proofs.PartHistoryNumbered.{legal_schema}
use Rattle.root_store.specs.Damage.{DamagedAt, IsDamaged, PartDamaged}
use Rattle.root_store.specs.Entries.{EntryHolds, ReadsAs, create_of}
use Rattle.root_store.specs.Roots.{FolderHolds, HasFolder, Stands}
use Rattle.root_store.proofs.Clear.{of_table}
use Rattle.root_store.proofs.EntriesOf.{entry_known, table_entry}
use Rattle.root_store.proofs.EntryReads.{one_schema}
use Rattle.root_store.proofs.Orphaned.{of_core}
use Rattle.root_store.proofs.Readings.{item_at}
use Rattle.root_store.proofs.TableIndexes.{has_indexes}
use Rattle.root_store.proofs.TableMarks.{has_marks}

-- ---- entries

abbrev entry_head : List ℕ → List ℕ
entry_head text = codes "MTS1" ++ to_le_bytes w32 (length text)

-- bytes are the entry of one text
text_is_one : (x y : List ℕ) → entry_bytes sha256 x ≡ entry_bytes sha256 y → x ≡ y
text_is_one x y e =
    let whole = ap length e in
    let first = length-append (entry_body x) (sha256 (entry_body x)) in
    let second = length-append (entry_body y) (sha256 (entry_body y)) in
    let digests = length-sha256 (entry_body x) in
    let also = length-sha256 (entry_body y) in
    let bodies : length (entry_body x) ≡ length (entry_body y) = omega (arith, whole, first, second, digests, also) in
    let same : entry_body x ≡ entry_body y = (fronts_apart (entry_body x) (entry_body y) (sha256 (entry_body x)) (sha256 (entry_body y)) bodies e).0 in
    (fronts_apart (entry_head x) (entry_head y) x y refl same).1

same_some : {X : Type 0} (x y : X) → Some x ≡ Some y → x ≡ y
same_some x y e = cc

-- a folder holds the entry of a table with one schema
pub entry_is_one : (table : List ℕ) (a b : Schema) (files : Files) → EntryHolds table a files → EntryHolds table b files → a ≡ b
entry_is_one table a b files x y =
    let texts : x.text ≡ y.text = text_is_one x.text y.text (sym x.bytes ∙ y.bytes) in
    one_schema y.text table a b (subst (λ (t : List ℕ). ReadsAs [] t (create_of table a)) texts x.reads) y.reads

-- so do two that have one name
pub folders_agree : (names : Names) (name table : List ℕ) (a b : Schema) → HasFolder names name (EntryHolds table a) → HasFolder names name (EntryHolds table b) → a ≡ b
folders_agree names name table a b x y =
    let files : x.files ≡ y.files = same_some x.files y.files (sym x.there ∙ y.there) in
    entry_is_one table a b y.files (subst (EntryHolds table a) files x.holds) y.holds

-- ---- parts

none_some : {X : Type 0} (o : Option X) (x : X) → o ≡ None → o ≡ Some x → ⊥
none_some o x none some = let both = sym none ∙ some in cc

module _ (names : Names) (h : History) (s : Stands names h) where
  -- a visible part is of a partition that its table may have
  pub may : (part : TablePart) (schema : Schema) → IsVisible s.read part → schema_of part.table h ≡ Some schema → MayHavePartition schema part.name.partition
  may part schema visible known =
      let c = of_core names h s part visible in
      let table : c.core.table ≡ part.table = ap (λ (p : TablePart). p.table) c.name_is in
      let all = may_have h part.table schema (core_parts_of part.table s.parts) s.legal known (s.stand part.table) in
      subst (λ (p : TablePart). MayHavePartition schema p.name.partition) c.name_is
      (All-contains (λ (p : CorePart). MayHavePartition schema p.name.partition) (core_parts_of part.table s.parts) c.core all (of_table part.table s.parts c.core c.here table))

  entry_sound : (table : List ℕ) (files : Files) → HasItem s.read (root.Create table) → files_at (create_name table) names ≡ Some files → ((schema : Schema) → EntryHolds table schema files → ⊥) → ⊥
  entry_sound table files here at damaged =
      let known = entry_known names h s table here in
      let folder = table_entry names h s table known.0 known.1 in
      damaged known.0 (subst (EntryHolds table known.0) (same_some folder.files files (sym folder.there ∙ at)) folder.holds)

  -- the folder of a visible part holds rows under the schema that its table's entry gives
  part_sound : (part : TablePart) (files : Files) (schema : Schema) (f : FileId) → IsVisible s.read part → files_at (root_text (root.Part part)) names ≡ Some files
      → HasFolder names (create_name part.table) (EntryHolds part.table schema) → PartDamaged schema part files f → ⊥
  part_sound part files schema f visible at entry bad =
      let c = of_core names h s part visible in
      let folder = c.there.folder in
      let table : c.core.table ≡ part.table = ap (λ (p : TablePart). p.table) c.name_is in
      let known : schema_of part.table h ≡ Some c.there.schema = subst (λ (t : List ℕ). schema_of t h ≡ Some c.there.schema) table c.there.schema_is in
      let same : c.there.schema ≡ schema = folders_agree names (create_name part.table) part.table c.there.schema schema (table_entry names h s part.table c.there.schema known) entry in
      let here : files_at (root_text (root.Part part)) names ≡ Some folder.files = subst (λ (p : TablePart). files_at (root_text (root.Part p)) names ≡ Some folder.files) c.name_is folder.there in
      let files_are : folder.files ≡ files = same_some folder.files files (sym here ∙ at) in
      let holds = subst (λ (x : Schema). FolderHolds x c.core.rows files) same (subst (FolderHolds c.there.schema c.core.rows) files_are folder.holds) in
      let legal = legal_schema part.table h schema s.legal (known ∙ ap Some same) in
      elim bad [
        | inl other ↦ other.0 (may part schema visible (known ∙ ap Some same))
        | inr file ↦ none_some (damaged_file schema files) f (file_is schema files None (written_undamaged schema files c.core.rows (has_marks schema legal) (has_indexes schema legal) holds)) file.1
      ]

  sound : (n : RootName) (files : Files) (f : FileId) → HasItem s.read n → files_at (root_text n) names ≡ Some files → IsDamaged names s.read n files f → ⊥
  sound (root.Create table) files f here at bad = entry_sound table files here at bad.0
  sound (root.Part part) files f here at bad = part_sound part files bad.1.0 f bad.0 at bad.1.1 bad.1.2

  pub no_damage : (place : ℕ) (f : FileId) → DamagedAt names s.read place f → ⊥
  no_damage place f bad = sound bad.0 bad.1 f (item_at s.read place bad.0 bad.2) bad.3 bad.4
