-- The store with one part more.
use Rattle.std.proofs.Common.{◌≡◌, ◌≢◌, ℕ, ◌+◌, true, false, List, [], ◌∷◌, ◌++◌, Option, Some, None, length, filter, refl, sym, ap, ◌∙◌, subst, append-nil, length-append, inl, inr, ◌⊎◌}
use Rattle.std.specs.List.{AllZip, insert}
use Rattle.std.specs.Option.{option_map}
use Rattle.std.proofs.lemmas.List.Elements.{filter-append}
use Rattle.mt_base.specs.declared.partition.Partition.{Partition}
use Rattle.mt_values.specs.declared.command.Command.TheVariants as command
use Rattle.mt_values.specs.declared.command.Entry.{Entry}
use Rattle.mt_values.specs.declared.command.Insert.{Insert}
use Rattle.mt_values.specs.declared.schema.Schema.{Schema}
use Rattle.mt_values.specs.Grammar.{same_bytes}
use Rattle.mt_values.specs.Grid.{Grid}
use Rattle.mt_values.specs.Values.{Row}
use Rattle.mt_outside.specs.Files.{Files}
use Rattle.root_store.specs.mt_model.History.{History, IsInsertInto, entered, is_create, schema_of}
use Rattle.root_store.specs.mt_model.Numbers.{last_number, numbered}
use Rattle.root_store.proofs.MtModelHistories.{legal_push, numbered_more, schema_more}
use Rattle.root_store.proofs.MtModelTables.{itself_same}
use Rattle.root_store.specs.part_writer.declared.loaded.Loaded.{Loaded}
use Rattle.root_store.proofs.PartReaderHolding.{written_holds}
use Rattle.root_store.specs.part_reader.declared.reading.Part.{Part}
use Rattle.root_store.specs.part_reader.Parts.{PartHolds}
use Rattle.root_store.specs.part_set.declared.kept.Kept.{Kept}
use Rattle.root_store.specs.part_set.Sets.{parts_of}
use Rattle.root_store.specs.part_history.declared.part.CorePart.{CorePart}
use Rattle.root_store.specs.part_history.Parts.{AreInBlockOrder, TableStands}
use Rattle.root_store.specs.part_history.Entered.{part_of_insert}
use Rattle.root_store.proofs.PartHistoryGrowing.{drawn_apart, drawn_here, mutations_inserted, table_grown, table_kept}
use Rattle.root_store.specs.declared.store.CoreStore.{CoreStore}
use Rattle.root_store.specs.declared.store.Table.{Table}
use Rattle.root_commits.specs.Commits.{EntersSealed, IsSealedOf, fresh_part, insert_into, insert_of_block, part_rows, partition_of_block}
use Rattle.root_store.specs.Stores.{CoreStands, PartsAreThere, core_part, core_parts, table_at}
use Rattle.root_commits.proofs.Entering.{first_none}
use Rattle.root_commits.proofs.Placed.{core_insert, table_moved, zip_insert}
use Rattle.root_store.proofs.InOrder.{core_order}
use Rattle.root_commits.proofs.SameStores.{same_queue}
use Rattle.root_commits.proofs.Updated.{it_or, no_some, one_some}

module _ {F : Type 0} (files_of : F → Option Files) (h : History) (old new : CoreStore F) (session : ℕ) (table : List ℕ) (t : Table) (block : Grid) (sealed : Option Files) (loaded : Loaded)
    (s : CoreStands files_of h old) (rows_fit : IsInsertInto t.schema (insert_into table (partition_of_block t.schema block) block)) (is : IsSealedOf t.schema block sealed loaded) (a : EntersSealed files_of sealed loaded table (partition_of_block t.schema block) t old new) where
  abbrev partition : Partition
  partition = partition_of_block t.schema block

  abbrev i : Insert
  i = insert_into table partition block

  abbrev e : Entry
  e = record { session = session; command = insert_of_block table partition block }

  abbrev more : Table
  more = record { schema = t.schema; drawn = t.drawn + 1 }

  abbrev rows : List Row
  rows = part_rows t.schema block

  abbrev kept : Kept (Part F)
  kept = record { name = fresh_part partition (t.drawn + 1); part = a.part; busy = false }

  abbrev schema_at : Option Table → Option Schema
  schema_at found = option_map (λ (x : Table). x.schema) found

  known : schema_of table h ≡ Some t.schema
  known = sym (s.tables table) ∙ ap schema_at a.enters.there

  -- no table has another schema
  same_schema : (u : List ℕ) → schema_of u (h ++ e ∷ []) ≡ schema_of u h
  same_schema u = schema_more u h (e ∷ []) ∙ first_none (schema_of u h)

  apart : (u : List ℕ) → same_bytes table u ≡ false → u ≢ table
  apart u differ same = let yes : same_bytes table u ≡ true = ap (same_bytes table) same ∙ itself_same table in cc

  -- the number that the table draws
  number : t.drawn + 1 ≡ length (numbered table h) + 1
  number = ap (λ n. n + 1) (s.drawn table t a.enters.there)

  drawn_now : t.drawn + 1 ≡ length (numbered table (h ++ e ∷ []))
  drawn_now = number ∙ sym (ap length (drawn_here h e i t.schema refl known) ∙ length-append (numbered table h) (command.Insert i ∷ []))

  none_drawn : (u : List ℕ) → same_bytes table u ≡ false → numbered u (e ∷ []) ≡ []
  none_drawn u differ = drawn_apart h e i t.schema refl known u differ

  abbrev Holds : Schema → Kept (Part F) → List Row → Type 0
  Holds schema k r = PartHolds files_of schema k.part r

  new_part : core_part table kept rows ≡ part_of_insert t.schema (length (numbered table h) + 1) i
  new_part = ap (λ (n : ℕ). core_part table (record { name = fresh_part partition n; part = a.part; busy = false }) rows) number

  holds : Holds t.schema kept rows
  holds = written_holds files_of t.schema a.part rows is.files (a.files_are ∙ is.sealed_are) (a.loaded_is ∙ is.loaded_is) is.holds

  -- the parts of the table with their rows: those that it had, and the new one in its place
  pub parts_inserted : (rs : List (List Row)) → AllZip (Holds t.schema) (parts_of old.set table) rs
      → core_parts table (parts_of new.set table) (insert rs a.enters.added.place rows)
      ≡ insert (core_parts table (parts_of old.set table) rs) a.enters.added.place (part_of_insert t.schema (length (numbered table h) + 1) i)
  parts_inserted rs hold =
      let ks = parts_of old.set table in
      let n = a.enters.added.place in
      ap (λ (l : List (Kept (Part F))). core_parts table l (insert rs n rows)) a.enters.added.is
      ∙ (core_insert (Holds t.schema) table ks rs n kept rows hold ∙ ap (insert (core_parts table ks rs) n) new_part)

  pub hold_inserted : (rs : List (List Row)) → AllZip (Holds t.schema) (parts_of old.set table) rs → AllZip (Holds t.schema) (parts_of new.set table) (insert rs a.enters.added.place rows)
  hold_inserted rs hold =
      let n = a.enters.added.place in
      subst (λ (l : List (Kept (Part F))). AllZip (Holds t.schema) l (insert rs n rows)) (sym a.enters.added.is) (zip_insert (Holds t.schema) (parts_of old.set table) rs n kept rows hold holds)

  -- the table has one part more
  grown_there : PartsAreThere files_of h old table t.schema → PartsAreThere files_of (h ++ e ∷ []) new table t.schema
  grown_there p =
      let ks = parts_of old.set table in
      let n = a.enters.added.place in
      let all = insert p.rows n rows in
      let new_one = part_of_insert t.schema (length (numbered table h) + 1) i in
      record {
        rows = all;
        hold = hold_inserted p.rows p.hold;
        stand = subst (λ (ps : List CorePart). TableStands table ps (h ++ e ∷ [])) (sym (parts_inserted p.rows p.hold))
            (table_moved table (core_parts table ks p.rows) n new_one (h ++ e ∷ []) (table_grown h e i t.schema refl known (core_parts table ks p.rows) p.stand));
        order = core_order table (parts_of new.set table) all a.enters.ordered;
      }

  -- another has its own
  kept_there : (u : List ℕ) (schema : Schema) → same_bytes table u ≡ false → PartsAreThere files_of h old u schema → PartsAreThere files_of (h ++ e ∷ []) new u schema
  kept_there u schema differ p =
      let same = a.enters.others u (apart u differ) in
      record {
        rows = p.rows;
        hold = subst (λ (ks : List (Kept (Part F))). AllZip (Holds schema) ks p.rows) (sym same) p.hold;
        stand = subst (λ (ks : List (Kept (Part F))). TableStands u (core_parts u ks p.rows) (h ++ e ∷ [])) (sym same)
            (table_kept u (core_parts u (parts_of old.set u) p.rows) h (e ∷ []) (none_drawn u differ) p.stand);
        order = subst (λ (ks : List (Kept (Part F))). AreInBlockOrder (core_parts u ks p.rows)) (sym same) p.order;
      }

  abbrev IsItOr : List ℕ → Type 0
  IsItOr u = (table ≡ u) ⊎ ((same_bytes table u ≡ false) × (table_at new u ≡ table_at old u))

  here : (u : List ℕ) → IsItOr u
  here = it_or old new table (Some more) a.enters.updates

  -- what the store has at the table's name
  one_table : (u : List ℕ) (x : Table) → table_at new u ≡ Some x → table ≡ u → more ≡ x
  one_table u x at same = one_some (table_at new u) more x (subst (λ (v : List ℕ). table_at new v ≡ Some more) same a.enters.updates.1) at

  pub stands_inserted : CoreStands files_of (entered h session (insert_of_block table partition block ∷ [])) new
  stands_inserted =
      let made = λ (x : Entry). is_create x.command in
      record {
        legal = legal_push h e s.legal (t.schema, known, rows_fit);
        length_is = a.enters.length_is ∙ (ap (λ n. n + 1) s.length_is ∙ sym (length-append h (e ∷ [])));
        tables = λ u. tables_at u (here u);
        count = a.enters.count ∙ (s.count ∙ sym (ap length (filter-append made h (e ∷ []) ∙ append-nil (filter made h))));
        drawn = λ u x at. drawn_at u x at (here u);
        parts = λ u x at. parts_at u x at (here u);
        no_other = λ u none. none_at u none (here u);
        mutations = λ u. same_queue old new a.enters.mutations_are u ∙ (s.mutations u ∙ sym (mutations_inserted u h session i));
        unaltered = λ u. mutations_inserted u h session i ∙ s.unaltered u;
      }
    where
      tables_at : (u : List ℕ) → IsItOr u → option_map (λ (x : Table). x.schema) (table_at new u) ≡ schema_of u (h ++ e ∷ [])
      tables_at u (inl same) = subst (λ (v : List ℕ). schema_at (table_at new v) ≡ schema_of v (h ++ e ∷ [])) same (ap schema_at a.enters.updates.1 ∙ sym (same_schema table ∙ known))
      tables_at u (inr other) = ap schema_at other.1 ∙ (s.tables u ∙ sym (same_schema u))

      drawn_at : (u : List ℕ) (x : Table) → table_at new u ≡ Some x → IsItOr u → x.drawn ≡ last_number u (h ++ e ∷ [])
      drawn_at u x at (inl same) = sym (ap (λ (y : Table). y.drawn) (one_table u x at same)) ∙ subst (λ (v : List ℕ). t.drawn + 1 ≡ length (numbered v (h ++ e ∷ []))) same drawn_now
      drawn_at u x at (inr other) =
          s.drawn u x (sym other.1 ∙ at) ∙ sym (ap length (numbered_more u h (e ∷ []) ∙ (ap (λ cs. numbered u h ++ cs) (none_drawn u other.0) ∙ append-nil (numbered u h))))

      parts_at : (u : List ℕ) (x : Table) → table_at new u ≡ Some x → IsItOr u → PartsAreThere files_of (h ++ e ∷ []) new u x.schema
      parts_at u x at (inl same) =
          subst (λ (y : Table). PartsAreThere files_of (h ++ e ∷ []) new u y.schema) (one_table u x at same)
          (subst (λ (v : List ℕ). PartsAreThere files_of (h ++ e ∷ []) new v t.schema) same (grown_there (s.parts table t a.enters.there)))
      parts_at u x at (inr other) = kept_there u x.schema other.0 (s.parts u x (sym other.1 ∙ at))

      none_at : (u : List ℕ) → table_at new u ≡ None → IsItOr u → parts_of new.set u ≡ []
      none_at u none (inl same) = absurd (no_some (table_at new u) more none (subst (λ (v : List ℕ). table_at new v ≡ Some more) same a.enters.updates.1))
      none_at u none (inr other) = a.enters.others u (apart u other.0) ∙ s.no_other u (sym other.1 ∙ none)
