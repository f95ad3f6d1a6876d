-- The store with one table more.
use Rattle.std.proofs.Common.{◌≡◌, ℕ, ◌+◌, ◌-◌, ◌<◌, false, cond, List, [], ◌∷◌, ◌++◌, Option, Some, None, length, filter, slice_get, refl, sym, ap, ◌∙◌, subst, append-nil, length-append, arith, inl, inr, ◌⊎◌}
use Rattle.std.specs.List.{AllZip}
use Rattle.std.specs.Option.{option_map}
use Rattle.std.proofs.lemmas.List.Elements.{All-nil, filter-append}
use Rattle.mt_base.specs.declared.partition.Partition.{Partition}
use Rattle.mt_values.specs.declared.command.Command.{Command}
use Rattle.mt_values.specs.declared.command.Command.TheVariants as command
use Rattle.mt_values.specs.declared.command.Create.{Create}
use Rattle.mt_values.specs.declared.command.Entry.{Entry}
use Rattle.mt_values.specs.declared.schema.Schema.{Schema}
use Rattle.mt_values.specs.Grammar.{same_bytes}
use Rattle.mt_values.specs.Values.{Row}
use Rattle.mt_outside.specs.Files.{Files}
use Rattle.root_store.proofs.TableCoreKeeping.{none_numbered}
use Rattle.root_store.specs.mt_model.History.{History, IsTableSchema, creates, entered, first_of, is_create, schema_of}
use Rattle.root_store.specs.mt_model.Numbers.{IsNumberOfInsert, last_number, numbered}
use Rattle.root_store.proofs.MtModelHistories.{legal_push, numbered_more, schema_more}
use Rattle.root_store.proofs.MtModelLists.{get_past}
use Rattle.root_store.proofs.MtModelTables.{itself_same}
use Rattle.root_store.specs.part_reader.declared.reading.Part.{Part}
use Rattle.root_store.specs.part_reader.Parts.{PartHolds}
use Rattle.root_store.specs.part_set.declared.kept.Kept.{Kept}
use Rattle.root_store.specs.part_set.declared.set.PartSet.{PartSet}
use Rattle.root_store.specs.part_set.Sets.{parts_of}
use Rattle.root_store.specs.part_history.declared.part.CorePart.{CorePart}
use Rattle.root_store.specs.part_history.Parts.{AreInBlockOrder, PartStands, TableStands}
use Rattle.root_store.proofs.PartHistoryGrowing.{mutations_still, table_kept}
use Rattle.root_store.specs.declared.store.CoreStore.{CoreStore}
use Rattle.root_store.specs.declared.store.Table.{Table}
use Rattle.root_store.specs.Stores.{fresh_table}
use Rattle.root_commits.specs.Commits.{EntersTable}
use Rattle.root_store.specs.Stores.{CoreStands, PartsAreThere, core_parts, table_at}
use Rattle.root_commits.proofs.SameStores.{same_queue}
use Rattle.root_commits.proofs.Updated.{it_or, one_some}

pub first_none : (o : Option Schema) → first_of o None ≡ o
first_none None = refl
first_none (Some schema) = refl

nothing_in_order : AreInBlockOrder []
nothing_in_order = λ k d low lt. absurd (omega (arith, lt))

module _ {F : Type 0} (files_of : F → Option Files) (h : History) (old new : CoreStore F) (session : ℕ) (c : Create) (s : CoreStands files_of h old)
    (a : EntersTable c.table c.schema old new) where
  abbrev e : Entry
  e = record { session = session; command = command.Create c }

  abbrev schema_at : Option Table → Option Schema
  schema_at found = option_map (λ (x : Table). x.schema) found

  absent : schema_of c.table h ≡ None
  absent = sym (s.tables c.table) ∙ ap schema_at a.absent

  -- a name is that of the new table, or the store has there what it had
  abbrev IsNewOr : List ℕ → Type 0
  IsNewOr t = (c.table ≡ t) ⊎ ((same_bytes c.table t ≡ false) × (table_at new t ≡ table_at old t))

  here : (t : List ℕ) → IsNewOr t
  here = it_or old new c.table (Some (fresh_table c.schema)) a.updates

  schema_apart : (t : List ℕ) → same_bytes c.table t ≡ false → schema_of t (h ++ e ∷ []) ≡ schema_of t h
  schema_apart t apart = schema_more t h (e ∷ []) ∙ (ap (λ b. first_of (schema_of t h) (first_of (cond b (Some c.schema) None) None)) apart ∙ first_none (schema_of t h))

  schema_here : schema_of c.table (h ++ e ∷ []) ≡ Some c.schema
  schema_here =
      schema_more c.table h (e ∷ [])
      ∙ (ap (λ o. first_of o (schema_of c.table (e ∷ []))) absent ∙ ap (λ b. first_of (cond b (Some c.schema) None) None) (itself_same c.table))

  none_drawn : (t : List ℕ) → numbered t (h ++ e ∷ []) ≡ numbered t h
  none_drawn t = numbered_more t h (e ∷ []) ∙ append-nil (numbered t h)

  none_here : numbered c.table (h ++ e ∷ []) ≡ []
  none_here = none_drawn c.table ∙ none_numbered c.table h s.legal absent

  no_insert : (w : Partition) (n : ℕ) → IsNumberOfInsert c.table w n (h ++ e ∷ []) → ⊥
  no_insert w n is =
      let found : None ≡ Some (command.Insert is.insert) =
      sym (get_past [] (n - 1) (omega arith)) ∙ (sym (ap (λ (cs : List Command). slice_get cs (n - 1)) none_here) ∙ is.there) in
      cc

  same_parts : (t : List ℕ) → parts_of new.set t ≡ parts_of old.set t
  same_parts t = ap (λ (x : PartSet (Part F)). parts_of x t) a.set_is

  no_parts : parts_of new.set c.table ≡ []
  no_parts = same_parts c.table ∙ s.no_other c.table a.absent

  abbrev Hold : Schema → List (Kept (Part F)) → List (List Row) → Type 0
  Hold schema ks rows = AllZip (λ (k : Kept (Part F)) (r : List Row). PartHolds files_of schema k.part r) ks rows

  -- the new table has no parts
  empty_there : PartsAreThere files_of (h ++ e ∷ []) new c.table c.schema
  empty_there = record {
    rows = [];
    hold = subst (λ (ks : List (Kept (Part F))). Hold c.schema ks []) (sym no_parts) tt;
    stand = subst (λ (ks : List (Kept (Part F))). TableStands c.table (core_parts c.table ks []) (h ++ e ∷ [])) (sym no_parts)
        (record { own = All-nil (λ (p : CorePart). p.table ≡ c.table); each = All-nil (PartStands (h ++ e ∷ [])); once = λ w n is. absurd (no_insert w n is) });
    order = subst (λ (ks : List (Kept (Part F))). AreInBlockOrder (core_parts c.table ks [])) (sym no_parts) nothing_in_order;
  }

  -- another has its own
  kept_there : (t : List ℕ) (schema : Schema) → PartsAreThere files_of h old t schema → PartsAreThere files_of (h ++ e ∷ []) new t schema
  kept_there t schema p = record {
    rows = p.rows;
    hold = subst (λ (ks : List (Kept (Part F))). Hold schema ks p.rows) (sym (same_parts t)) p.hold;
    stand = subst (λ (ks : List (Kept (Part F))). TableStands t (core_parts t ks p.rows) (h ++ e ∷ [])) (sym (same_parts t))
        (table_kept t (core_parts t (parts_of old.set t) p.rows) h (e ∷ []) refl p.stand);
    order = subst (λ (ks : List (Kept (Part F))). AreInBlockOrder (core_parts t ks p.rows)) (sym (same_parts t)) p.order;
  }

  -- what the store has at the new table's name
  one_table : (t : List ℕ) (x : Table) → table_at new t ≡ Some x → c.table ≡ t → fresh_table c.schema ≡ x
  one_table t x is same = one_some (table_at new t) (fresh_table c.schema) x (subst (λ (u : List ℕ). table_at new u ≡ Some (fresh_table c.schema)) same a.updates.1) is

  pub stands_created : IsTableSchema c.schema → length old.tables.entries < 64 → CoreStands files_of (entered h session (command.Create c ∷ [])) new
  stands_created sound few =
      let made = λ (x : Entry). is_create x.command in
      let count : creates h < 65536 = omega (arith, few, s.count) in
      record {
        legal = legal_push h e s.legal (absent, count, sound);
        length_is = a.length_is ∙ (ap (λ n. n + 1) s.length_is ∙ sym (length-append h (e ∷ [])));
        tables = λ t. tables_at t (here t);
        count = a.count ∙ (ap (λ n. n + 1) s.count ∙ sym (ap length (filter-append made h (e ∷ [])) ∙ length-append (filter made h) (e ∷ [])));
        drawn = λ t x is. drawn_at t x is (here t);
        parts = λ t x is. parts_at t x is (here t);
        no_other = λ t none. none_at t none (here t);
        mutations = λ t. same_queue old new a.mutations_are t ∙ (s.mutations t ∙ sym (mutations_still t h e refl));
        unaltered = λ t. mutations_still t h e refl ∙ s.unaltered t;
      }
    where
      tables_at : (t : List ℕ) → IsNewOr t → option_map (λ (x : Table). x.schema) (table_at new t) ≡ schema_of t (h ++ e ∷ [])
      tables_at t (inl is) = subst (λ (u : List ℕ). schema_at (table_at new u) ≡ schema_of u (h ++ e ∷ [])) is (ap schema_at a.updates.1 ∙ sym schema_here)
      tables_at t (inr other) = ap schema_at other.1 ∙ (s.tables t ∙ sym (schema_apart t other.0))

      drawn_at : (t : List ℕ) (x : Table) → table_at new t ≡ Some x → IsNewOr t → x.drawn ≡ last_number t (h ++ e ∷ [])
      drawn_at t x is (inl same) =
          sym (ap (λ (y : Table). y.drawn) (one_table t x is same)) ∙ sym (ap length (subst (λ (u : List ℕ). numbered u (h ++ e ∷ []) ≡ []) same none_here))
      drawn_at t x is (inr other) = s.drawn t x (sym other.1 ∙ is) ∙ ap length (sym (none_drawn t))

      parts_at : (t : List ℕ) (x : Table) → table_at new t ≡ Some x → IsNewOr t → PartsAreThere files_of (h ++ e ∷ []) new t x.schema
      parts_at t x is (inl same) =
          subst (λ (y : Table). PartsAreThere files_of (h ++ e ∷ []) new t y.schema) (one_table t x is same)
          (subst (λ (u : List ℕ). PartsAreThere files_of (h ++ e ∷ []) new u c.schema) same empty_there)
      parts_at t x is (inr other) = kept_there t x.schema (s.parts t x (sym other.1 ∙ is))

      none_at : (t : List ℕ) → table_at new t ≡ None → IsNewOr t → parts_of new.set t ≡ []
      none_at t none (inl same) = subst (λ (u : List ℕ). parts_of new.set u ≡ []) same no_parts
      none_at t none (inr other) = same_parts t ∙ s.no_other t (sym other.1 ∙ none)
