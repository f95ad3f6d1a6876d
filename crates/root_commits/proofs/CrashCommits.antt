-- What crashes leave of a CREATE and of an INSERT whose files were published.
use Rattle.std.proofs.Common.{is_some, true, refl, ◌≡◌, ℕ, ◌+◌, ◌<◌, ◌≤◌, List, [], ◌∷◌, Option, Some, None, IsTrue, length, sym, ap, ◌∙◌, subst, arith}
use Rattle.std.specs.BTreeMap.{insert_entry}
use Rattle.std.specs.Cmp.Lexicographic.{slice_cmp}
use Rattle.std.specs.Option.{option_map}
use Rattle.std.specs.Ordering.{nat_cmp}
use Rattle.std.proofs.lemmas.List.Elements.{All-contains, All-weaker}
use Rattle.mt_values.specs.declared.command.Command.TheVariants as command
use Rattle.mt_values.specs.declared.command.Create.{Create}
use Rattle.mt_base.specs.declared.name.FileId.{FileId}
use Rattle.mt_base.specs.declared.partition.Partition.{Partition}
use Rattle.mt_base.specs.declared.name.FileId.TheVariants as file
use Rattle.mt_values.specs.declared.schema.Schema.{Schema}
use Rattle.mt_values.specs.Grid.{Grid}
use Rattle.mt_values.specs.RootNames.{create_name, part_name}
use Rattle.mt_values.specs.Values.{Row}
use Rattle.mt_outside.specs.Disk.{MayBecome}
use Rattle.mt_outside.specs.Files.{Files, bytes_of}
use Rattle.root_store.specs.mt_model.History.{History, IsInsertInto, IsTableSchema, creates, entered, schema_of}
use Rattle.root_store.specs.part_name.PartNames.{IsPartition, part_text}
use Rattle.root_store.specs.part_reader.declared.reading.Part.{Part}
use Rattle.root_store.specs.part_set.declared.root_name.RootName.{RootName}
use Rattle.root_store.specs.part_set.declared.root_name.RootName.TheVariants as root
use Rattle.root_store.specs.part_set.RootNames.{IsRootName, is_table}
use Rattle.root_store.specs.part_set.Visible.{HasPart}
use Rattle.root_store.specs.part_writer.PartFiles.{files_of_part, manifest_of}
use Rattle.root_store.specs.digest_file.Spellings.{IsManifestOf}
use Rattle.root_store.specs.durable_commit.stage_dir.Stages.{AreSealed}
use Rattle.root_store.proofs.StageDirImages.{is_synced-sealed}
use Rattle.root_store.specs.part_history.Entered.{next_number}
use Rattle.root_store.specs.declared.store.CoreStore.{CoreStore}
use Rattle.root_store.specs.declared.store.Table.{Table}
use Rattle.root_store.proofs.PartHistoryNumbered.{legal_schema}
use Rattle.root_commits.specs.Commits.{EntersPart, EntersTable, fresh_part, insert_into, insert_of_block, part_rows, partition_of_block}
use Rattle.root_store.specs.Entries.{EntryHolds}
use Rattle.root_store.specs.Roots.{FolderHolds, Stands}
use Rattle.root_store.specs.Stores.{CoreStands, table_at}
use Rattle.root_commits.proofs.CrashNames.{entry_free_in, part_free_in}
use Rattle.root_commits.proofs.CrashImages.{Grows, Shows}
use Rattle.root_commits.proofs.FreeNames.{fresh_named}
use Rattle.root_commits.proofs.Growing.{parts_end_by, stands_with_part, stands_with_table}
use Rattle.root_commits.proofs.Partitions.{block_spells}
use Rattle.root_commits.proofs.Shown.{shown_added, shown_made}
use Rattle.root_store.specs.Shown.{part_called}
use Rattle.root_store.proofs.Readings.{one_reading}
use Rattle.root_store.proofs.Tabled.{table_here}

-- ---- sealed files

module _ (files left : Files) (sealed : AreSealed files) (become : MayBecome files left) where
  -- they keep their bytes
  same_bytes : (f : FileId) → bytes_of f left ≡ bytes_of f files
  same_bytes f = become.kept f (is_synced-sealed files f sealed)

  pub entry_left : (table : List ℕ) (schema : Schema) → EntryHolds table schema files → EntryHolds table schema left
  entry_left table schema holds = record { text = holds.text; few = holds.few; bytes = same_bytes file.Entry ∙ holds.bytes; reads = holds.reads }

  pub folder_left : (schema : Schema) (rows : List Row) → FolderHolds schema rows files → FolderHolds schema rows left
  folder_left schema rows holds = record {
    held = All-weaker (λ (f : FileId × List ℕ). bytes_of f.0 files ≡ f.1) (λ (f : FileId × List ℕ). bytes_of f.0 left ≡ f.1) (λ f is. same_bytes f.0 ∙ is) (files_of_part schema rows) holds.held;
    readable = subst (λ (bytes : List ℕ). IsManifestOf bytes (manifest_of schema rows)) (sym (same_bytes file.Manifest)) holds.readable;
    typed = holds.typed;
    encodable = holds.encodable;
  }

-- ---- roots with a command more

module _ {F : Type 0} (files_of : F → Option Files) (store : CoreStore F) (h : History) (session : ℕ) (s : CoreStands files_of h store) (files : Files) (sealed : AreSealed files) where
  -- each root that stands for the history stands for it with a CREATE, once the table's entry is there
  pub grows_by_table : (c : Create) → table_at store c.table ≡ None → length store.tables.entries < 64 → IsTableSchema c.schema → IsTrue (is_table c.table) → EntryHolds c.table c.schema files
      → Grows store (create_name c.table) files h (entered h session (command.Create c ∷ []))
  grows_by_table c absent few sound named holds = λ old left rise stands shown become.
      let none : schema_of c.table h ≡ None = sym (s.tables c.table) ∙ ap (option_map (λ (t : Table). t.schema)) absent in
      let count : creates h < 65536 = (let known = s.count in omega (arith, few, known)) in
      stands_with_table old h session c left rise stands none count sound named (entry_left files left sealed become c.table c.schema holds) (entry_free_in old h stands c.table none)

  -- and with an INSERT, once its part is
  pub grows_by_part : (table : List ℕ) (t : Table) (block : Grid) → table_at store table ≡ Some t → t.drawn < 4294967295 → IsInsertInto t.schema (insert_into table (partition_of_block t.schema block) block) → FolderHolds t.schema (part_rows t.schema block) files
      → Grows store (part_name table (part_text (fresh_part (partition_of_block t.schema block) (t.drawn + 1)))) files h (entered h session (insert_of_block table (partition_of_block t.schema block) block ∷ []))
  grows_by_part table t block here small rows holds = λ old left rise stands shown become.
      let known : schema_of table h ≡ Some t.schema = sym (s.tables table) ∙ ap (option_map (λ (u : Table). u.schema)) here in
      let number : t.drawn + 1 ≡ next_number table h = ap (λ n. n + 1) (s.drawn table t here) in
      let few : next_number table h ≤ 4294967295 = omega (arith, number, small) in
      subst (λ (n : ℕ). Stands (insert_entry (slice_cmp nat_cmp) old (part_name table (part_text (fresh_part (partition_of_block t.schema block) n))) left) (entered h session (insert_of_block table (partition_of_block t.schema block) block ∷ []))) (sym number)
      (stands_with_part old h session (insert_into table (partition_of_block t.schema block) block) t.schema left rise stands known rows few (folder_left files left sealed become t.schema (part_rows t.schema block) holds)
      (part_free_in old h stands table (partition_of_block t.schema block) (block_spells table t.schema block (legal_schema table h t.schema s.legal known) rows) few))

-- ---- the parts that are visible

module _ {F : Type 0} (files_of : F → Option Files) (old new : CoreStore F) (h : History) (s : CoreStands files_of h old) (files : Files) where
  pub shows_by_table : (table : List ℕ) (schema : Schema) → IsTrue (is_table table) → EntersTable table schema old new → Shows old (create_name table) files h new
  shows_by_table table schema word a = λ names left rise stands shown become. shown_made old table word names left shown new schema a

  pub shows_by_part : (table : List ℕ) (partition : Partition) (part : Part F) (t : Table) → IsPartition partition → t.drawn < 4294967295 → EntersPart table partition part t old new
      → Shows old (part_name table (part_text (fresh_part partition (t.drawn + 1)))) files h new
  shows_by_part table partition part t spells small a = λ names left rise stands shown become.
      let known : is_some (schema_of table h) ≡ true = ap is_some (sym (s.tables table) ∙ ap (option_map (λ (u : Table). u.schema)) a.there) in
      let same : shown.read ≡ stands.read = one_reading names shown.read stands.read shown.are stands.are in
      let word : IsRootName (root.Part (part_called table (fresh_part partition (t.drawn + 1)))) = (
        All-contains IsRootName stands.read (root.Create table) stands.are.sound (table_here names h stands table known),
        fresh_named partition t.drawn spells small,
      ) in
      shown_added old table partition t.drawn names left shown word
      (λ p here own. subst (λ (n : ℕ). p.name.max_block ≤ n) (sym (s.drawn table t a.there)) (parts_end_by names h stands table p (subst (λ (read : List RootName). HasPart read p) same here) own))
      new part t refl a
