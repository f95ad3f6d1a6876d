-- A root that stands for a history stands for it with one command more, once what the command makes is among its names.
use Rattle.std.proofs.Common.{◌≡◌, ℕ, ◌<◌, ◌≤◌, Bool, true, false, cond, List, [], ◌∷◌, ◌++◌, Some, None, IsTrue, length, map, is_some, refl, sym, ap, ◌∙◌, subst, append-nil, arith, inl, inr}
use Rattle.std.proofs.lemmas.List.{map-append}
use Rattle.std.proofs.lemmas.List.Elements.{All-contains, All-push, All-weaker, Contains-append_left, Contains-push, Contains-push_cases, filter-append}
use Rattle.std.specs.BTreeMap.{insert_entry}
use Rattle.std.specs.Cmp.Lexicographic.{slice_cmp}
use Rattle.std.specs.List.{Contains as HasItem}
use Rattle.std.specs.Ordering.{nat_cmp}
use Rattle.mt_values.specs.declared.command.Command.TheVariants as command
use Rattle.mt_values.specs.declared.command.Create.{Create}
use Rattle.mt_values.specs.declared.command.Entry.{Entry}
use Rattle.mt_values.specs.declared.command.Insert.{Insert}
use Rattle.mt_values.specs.declared.schema.Schema.{Schema}
use Rattle.mt_values.specs.Grammar.{same_bytes}
use Rattle.mt_values.specs.RootNames.{create_name}
use Rattle.mt_values.specs.Tables.{sorting_cmp}
use Rattle.mt_outside.specs.Disk.{Names, files_at}
use Rattle.mt_outside.specs.Files.{Files}
use Rattle.root_store.specs.mt_model.History.{History, IsInsertInto, IsTableSchema, creates, entered, schema_of}
use Rattle.root_store.specs.mt_model.Live.{sorted}
use Rattle.root_store.specs.mt_model.Numbers.{numbered}
use Rattle.root_store.proofs.MtModelCommands.{own_partition}
use Rattle.root_store.proofs.MtModelHistories.{legal_push, schema_kept}
use Rattle.root_store.proofs.MtModelTables.{same_is}
use Rattle.root_store.specs.part_set.declared.root_name.RootName.{RootName}
use Rattle.root_store.specs.part_set.declared.root_name.RootName.TheVariants as root
use Rattle.root_store.specs.part_set.declared.root_name.TablePart.{TablePart}
use Rattle.root_store.specs.part_set.RootNames.{IsRootName, is_table, root_text}
use Rattle.root_store.specs.part_set.Visible.{Covers, HasPart, IsVisible}
use Rattle.root_store.specs.part_history.declared.part.CorePart.{CorePart}
use Rattle.root_store.specs.part_history.Parts.{TableStands, core_parts_of}
use Rattle.root_store.specs.part_history.Entered.{next_number, part_of_insert}
use Rattle.root_store.proofs.PartHistoryApart.{ends_below}
use Rattle.root_store.proofs.PartHistoryGrowing.{drawn_apart, mutations_inserted, mutations_still, table_grown, table_kept}
use Rattle.root_store.specs.ByteOrder.{AreInByteOrder}
use Rattle.root_store.proofs.PartHistoryNumbered.{legal_schema}
use Rattle.root_commits.specs.Commits.{fresh_part}
use Rattle.root_store.specs.Entries.{EntryHolds, HoldsEntry, entry_name}
use Rattle.root_store.specs.Roots.{FolderHolds, HasFolder, IsOfEntry, PartIsThere, PlacedEntry, Stands, named}
use Rattle.root_commits.proofs.Added.{are_read, folder_kept, new_folder, new_read, read_or_new, read_with, with_name}
use Rattle.root_commits.proofs.Hiding.{covers_none, new_visible, none_covers, part_or_new, part_was, still_visible, table_hides_none, table_shows_none, was_visible}
use Rattle.root_commits.proofs.Partitions.{may_spell}
use Rattle.root_store.proofs.Clear.{of_table}
use Rattle.root_store.proofs.EntryPlaces.{placed_on, placed_push}
use Rattle.root_store.proofs.EntryReads.{entry_after}
use Rattle.root_store.proofs.Fitting.{ends_by}
use Rattle.root_store.proofs.Orphaned.{of_core}
use Rattle.root_store.proofs.Tabled.{table_here}

abbrev last : History → ℕ → Create → Entry
last h session c = record { session = session; command = command.Create c }

-- ---- a root that stands

-- each part is there with one name and one command more
part_there : (names : Names) (h : History) (new : List ℕ) (files : Files) (e : Entry) → files_at new names ≡ None → (part : CorePart) → PartIsThere names h part → PartIsThere (with_name names new files) (h ++ e ∷ []) part
part_there names h new files e free part there = record {
  schema = there.schema;
  schema_is = schema_kept part.table h (e ∷ []) there.schema there.schema_is;
  folder = folder_kept names new files (root_text (root.Part (named part))) (FolderHolds there.schema part.rows) free there.folder;
}

module _ (names : Names) (h : History) (session : ℕ) (c : Create) (files : Files) (s : Stands names h) (absent : schema_of c.table h ≡ None) (holds : EntryHolds c.table c.schema files)
    (free : files_at (create_name c.table) names ≡ None) where
  abbrev made : List RootName
  made = read_with (root.Create c.table) s.read

  -- each command that has an entry has it
  entry_there : (p : PlacedEntry (h ++ last h session c ∷ [])) (name : List ℕ) → entry_name p.before p.entry.command ≡ Some name → HasFolder (with_name names (create_name c.table) files) name (HoldsEntry p.before p.entry.command)
  entry_there p name is = elim (placed_push h (last h session c) p.before p.entry p.after p.is) [
    | inl old ↦ folder_kept names (create_name c.table) files name (HoldsEntry p.before p.entry.command) free (s.entries (record { before = p.before; entry = p.entry; after = old.0; is = old.1 }) name is)
    | inr new ↦ subst (λ (x : Entry). entry_name p.before x.command ≡ Some name → HasFolder (with_name names (create_name c.table) files) name (HoldsEntry p.before x.command)) new own is
  ]
    where
      own : Some (create_name c.table) ≡ Some name → HasFolder (with_name names (create_name c.table) files) name (HoldsEntry p.before (command.Create c))
      own named =
          let same : create_name c.table ≡ name = cc in
          subst (λ (n : List ℕ). HasFolder (with_name names (create_name c.table) files) n (HoldsEntry p.before (command.Create c))) same
          (record { files = files; there = new_folder names (create_name c.table) files; holds = entry_after [] p.before c.table c.schema files holds })

  -- and no other name is an entry
  entry_of_one : (n : RootName) → HasItem made n → IsOfEntry n → (p : PlacedEntry (h ++ last h session c ∷ [])) × (entry_name p.before p.entry.command ≡ Some (root_text n))
  entry_of_one n has is = elim (read_or_new (root.Create c.table) s.read n has) [
    | inl old ↦ (let known = s.no_other n old is in (placed_on h (last h session c ∷ []) known.0, known.1))
    | inr new ↦ (record { before = h; entry = last h session c; after = []; is = refl }, ap (λ (x : RootName). Some (root_text x)) new)
  ]

  table_stands : creates h < 65536 → IsTableSchema c.schema → IsTrue (is_table c.table) → Stands (with_name names (create_name c.table) files) (h ++ last h session c ∷ [])
  table_stands few sound word = record {
    legal = legal_push h (last h session c) s.legal (absent, few, sound);
    read = made;
    are = are_read (root.Create c.table) word names files s.read s.are;
    unmutated = λ part has. s.unmutated part (part_was s.read c.table part has);
    unaltered = λ t. mutations_still t h (last h session c) refl ∙ s.unaltered t;
    entries = entry_there;
    no_other = entry_of_one;
    parts = s.parts;
    visible = λ part. (λ visible. (s.visible part).0 (table_shows_none s.read c.table part visible), λ has. table_hides_none s.read c.table part ((s.visible part).1 has));
    stand = λ t. table_kept t (core_parts_of t s.parts) h (last h session c ∷ []) refl (s.stand t);
    there = All-weaker (PartIsThere names h) (PartIsThere (with_name names (create_name c.table) files) (h ++ last h session c ∷ []))
        (part_there names h (create_name c.table) files (last h session c) free) s.parts s.there;
  }

-- once the entry of a table is there, the root stands for the history with its CREATE
pub stands_with_table : (names : Names) (h : History) (session : ℕ) (c : Create) (files : Files) → AreInByteOrder names → Stands names h
    → schema_of c.table h ≡ None → creates h < 65536 → IsTableSchema c.schema → IsTrue (is_table c.table) → EntryHolds c.table c.schema files
    → files_at (create_name c.table) names ≡ None → Stands (insert_entry (slice_cmp nat_cmp) names (create_name c.table) files) (entered h session (command.Create c ∷ []))
stands_with_table names h session c files rise s absent few sound word holds free = table_stands names h session c files s absent holds free few sound word

-- ---- the part of an INSERT

module _ (names : Names) (h : History) (s : Stands names h) (table : List ℕ) where
  -- the visible parts of a table end by the number of its last command
  visible_end_by : (part : TablePart) → IsVisible s.read part → part.table ≡ table → part.name.max_block ≤ length (numbered table h)
  visible_end_by part visible own =
      let found = of_core names h s part visible in
      let here : found.core.table ≡ table = ap (λ (p : TablePart). p.table) found.name_is ∙ own in
      let below = All-contains (λ (p : CorePart). p.name.max_block < next_number table h) (core_parts_of table s.parts) found.core
      (ends_below h table (core_parts_of table s.parts) (s.stand table)) (of_table table s.parts found.core found.here here) in
      let block : found.core.name.max_block ≡ part.name.max_block = ap (λ (p : TablePart). p.name.max_block) found.name_is in
      omega (arith, below, block)

  -- so do the hidden ones
  pub parts_end_by : (part : TablePart) → HasPart s.read part → part.table ≡ table → part.name.max_block ≤ length (numbered table h)
  parts_end_by = ends_by s.read s.are.sound s.unmutated table (length (numbered table h)) visible_end_by

module _ (names : Names) (h : History) (session : ℕ) (i : Insert) (schema : Schema) (files : Files) (s : Stands names h) (known : schema_of i.table h ≡ Some schema) (is : IsInsertInto schema i)
    (few : next_number i.table h ≤ 4294967295) (holds : FolderHolds schema (sorted (sorting_cmp schema) i.block.rows) files) where
  abbrev new : TablePart
  new = record { table = i.table; name = fresh_part i.partition (next_number i.table h) }

  abbrev core : CorePart
  core = part_of_insert schema (next_number i.table h) i

  abbrev text : List ℕ
  text = root_text (root.Part new)

  abbrev entry : Entry
  entry = record { session = session; command = command.Insert i }

  abbrev read : List RootName
  read = read_with (root.Part new) s.read

  named_new : named core ≡ new
  named_new = refl

  new_named : IsRootName (root.Part new)
  new_named = (
    All-contains IsRootName s.read (root.Create i.table) s.are.sound (table_here names h s i.table (ap is_some known)),
    record { partition = may_spell schema i.partition (own_partition schema i (legal_schema i.table h schema s.legal known) is); min_block = (omega arith, few); max_block = (omega arith, few); order = omega arith; level = omega arith; mutation = tt },
  )

  ends : (part : TablePart) → HasPart s.read part → part.table ≡ i.table → part.name.max_block ≤ length (numbered i.table h)
  ends part here own = parts_end_by names h s i.table part here own

  clear : (part : TablePart) → HasPart s.read part → Covers new part → ⊥
  clear = covers_none s.read s.are.sound new (length (numbered i.table h)) (omega arith) (omega arith) ends

  uncovered : (part : TablePart) → HasPart s.read part → Covers part new → ⊥
  uncovered = none_covers s.read s.are.sound new (length (numbered i.table h)) (omega arith) (omega arith) ends

  visible_there : (part : TablePart) → IsVisible read part → HasItem (map named (s.parts ++ core ∷ [])) part
  visible_there part visible = subst (λ (ps : List TablePart). HasItem ps part) (sym (map-append named s.parts (core ∷ []))) (elim (part_or_new s.read new part visible.here) [
    | inl old ↦ Contains-append_left (map named s.parts) (named core ∷ []) part ((s.visible part).0 (was_visible s.read new part old visible))
    | inr same ↦ subst (HasItem (map named s.parts ++ named core ∷ [])) (named_new ∙ same) (Contains-push (map named s.parts) (named core))
  ])

  there_visible : (part : TablePart) → HasItem (map named (s.parts ++ core ∷ [])) part → IsVisible read part
  there_visible part has = elim (Contains-push_cases (map named s.parts) (named core) part (subst (λ (ps : List TablePart). HasItem ps part) (map-append named s.parts (core ∷ [])) has)) [
    | inl old ↦ still_visible s.read new part ((s.visible part).1 old) (clear part ((s.visible part).1 old).here)
    | inr same ↦ subst (IsVisible read) (sym named_new ∙ same) (new_visible s.read new uncovered (new_read (root.Part new) new_named s.read s.are.sound))
  ]

  -- the parts of each table stand for the longer history
  tables_stand : (t : List ℕ) → TableStands t (core_parts_of t (s.parts ++ core ∷ [])) (h ++ entry ∷ [])
  tables_stand t = by (same_bytes i.table t) refl
    where
      more : core_parts_of t (s.parts ++ core ∷ []) ≡ core_parts_of t s.parts ++ cond (same_bytes i.table t) (core ∷ []) []
      more = filter-append (λ (p : CorePart). same_bytes p.table t) s.parts (core ∷ [])

      by : (b : Bool) → same_bytes i.table t ≡ b → TableStands t (core_parts_of t (s.parts ++ core ∷ [])) (h ++ entry ∷ [])
      by true here =
          let same = same_is i.table t here in
          let parts = more ∙ ap (λ (b : Bool). core_parts_of t s.parts ++ cond b (core ∷ []) []) here in
          let grown = table_grown h entry i schema refl known (core_parts_of i.table s.parts) (s.stand i.table) in
          subst (λ (ps : List CorePart). TableStands t ps (h ++ entry ∷ [])) (sym parts)
          (subst (λ (u : List ℕ). TableStands u (core_parts_of u s.parts ++ core ∷ []) (h ++ entry ∷ [])) same grown)
      by false apart =
          let parts = more ∙ (ap (λ (b : Bool). core_parts_of t s.parts ++ cond b (core ∷ []) []) apart ∙ append-nil (core_parts_of t s.parts)) in
          subst (λ (ps : List CorePart). TableStands t ps (h ++ entry ∷ [])) (sym parts)
          (table_kept t (core_parts_of t s.parts) h (entry ∷ []) (drawn_apart h entry i schema refl known t apart) (s.stand t))

  new_there : PartIsThere (with_name names text files) (h ++ entry ∷ []) core
  new_there = record {
    schema = schema;
    schema_is = schema_kept i.table h (entry ∷ []) schema known;
    folder = record {
      files = files;
      there = subst (λ (p : TablePart). files_at (root_text (root.Part p)) (with_name names text files) ≡ Some files) (sym named_new) (new_folder names text files);
      holds = holds;
    };
  }

  no_entry : (name : List ℕ) → None ≡ Some name → ⊥
  no_entry name is = cc

  part_stands : files_at text names ≡ None → Stands (with_name names text files) (h ++ entry ∷ [])
  part_stands free = record {
    legal = legal_push h entry s.legal (schema, known, is);
    read = read;
    are = are_read (root.Part new) new_named names files s.read s.are;
    unmutated = λ part has. elim (part_or_new s.read new part has) [
      | inl old ↦ s.unmutated part old
      | inr same ↦ sym (ap (λ (p : TablePart). p.name.mutation) same)
    ];
    unaltered = λ t. mutations_inserted t h session i ∙ s.unaltered t;
    entries = λ p name named_is. elim (placed_push h entry p.before p.entry p.after p.is) [
      | inl old ↦ folder_kept names text files name (HoldsEntry p.before p.entry.command) free (s.entries (record { before = p.before; entry = p.entry; after = old.0; is = old.1 }) name named_is)
      | inr new_one ↦ absurd (no_entry name (ap (λ (x : Entry). entry_name p.before x.command) new_one ∙ named_is))
    ];
    no_other = λ n has of_entry. elim (read_or_new (root.Part new) s.read n has) [
      | inl old ↦ (let was = s.no_other n old of_entry in (placed_on h (entry ∷ []) was.0, was.1))
      | inr same ↦ absurd (subst IsOfEntry (sym same) of_entry)
    ];
    parts = s.parts ++ core ∷ [];
    visible = λ part. (visible_there part, there_visible part);
    stand = tables_stand;
    there = All-push (PartIsThere (with_name names text files) (h ++ entry ∷ [])) s.parts core
        (All-weaker (PartIsThere names h) (PartIsThere (with_name names text files) (h ++ entry ∷ [])) (part_there names h text files entry free) s.parts s.there) new_there;
  }

-- once the part of an INSERT is there, the root stands for the history with the INSERT
pub stands_with_part : (names : Names) (h : History) (session : ℕ) (i : Insert) (schema : Schema) (files : Files) → AreInByteOrder names → Stands names h
    → schema_of i.table h ≡ Some schema → IsInsertInto schema i → next_number i.table h ≤ 4294967295 → FolderHolds schema (sorted (sorting_cmp schema) i.block.rows) files
    → files_at (root_text (root.Part (record { table = i.table; name = fresh_part i.partition (next_number i.table h) }))) names ≡ None
    → Stands (insert_entry (slice_cmp nat_cmp) names (root_text (root.Part (record { table = i.table; name = fresh_part i.partition (next_number i.table h) }))) files) (entered h session (command.Insert i ∷ []))
stands_with_part names h session i schema files rise s known is few holds free = part_stands names h session i schema files s known is few holds free
