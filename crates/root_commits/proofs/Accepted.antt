-- A commit is an accept of the core: the store shows the state that the core gives.
use Rattle.std.proofs.Common.{◌≡◌, ◌≢◌, ℕ, ◌+◌, ◌<◌, Bool, true, false, cond, List, [], ◌∷◌, ◌++◌, Option, Some, None, length, take, drop, refl, sym, ap, ap₂, ◌∙◌, subst, arith, inl, inr, ◌⊎◌, zero, suc}
use Rattle.std.specs.BTreeMap.{is_at}
use Rattle.std.specs.Cmp.Lexicographic.{slice_cmp}
use Rattle.std.specs.List.{AllZip, insert}
use Rattle.std.specs.Map.{lookup}
use Rattle.std.specs.Option.{option_map}
use Rattle.std.specs.Ordering.{nat_cmp}
use Rattle.std.proofs.lemmas.List.Elements.{filter-append}
use Rattle.mt_values.specs.declared.command.Command.TheVariants as command
use Rattle.mt_values.specs.declared.command.Create.{Create}
use Rattle.mt_values.specs.declared.command.Insert.{Insert}
use Rattle.mt_values.specs.declared.schema.Schema.{Schema}
use Rattle.mt_values.specs.Grammar.{same_bytes}
use Rattle.mt_values.specs.Grid.{Grid}
use Rattle.mt_values.specs.Values.{Row}
use Rattle.mt_outside.specs.Files.{Files}
use Rattle.root_store.specs.durable_commit.Commits.{entry_of}
use Rattle.root_store.specs.mt_model.History.{History, IsInsertInto, IsTableSchema, creates, entered, schema_of}
use Rattle.root_store.specs.mt_model.Numbers.{numbered}
use Rattle.root_store.proofs.MtModelTables.{itself_same}
use Rattle.root_store.specs.part_writer.declared.loaded.Loaded.{Loaded}
use Rattle.root_store.specs.part_reader.declared.reading.Part.{Part}
use Rattle.root_store.specs.part_reader.Parts.{PartHolds}
use Rattle.root_store.specs.part_set.declared.kept.Kept.{Kept}
use Rattle.root_store.specs.part_set.declared.set.PartSet.{PartSet}
use Rattle.root_store.specs.part_set.Sets as sets
use Rattle.root_store.specs.part_history.declared.part.CorePart.{CorePart}
use Rattle.root_store.specs.part_history.Entered.{part_of_insert}
use Rattle.root_store.specs.part_history.Parts.{AreInBlockOrder, core_parts_of}
use Rattle.root_store.specs.table_core.Core.{Core}
use Rattle.root_store.specs.table_core.Steps.{AddsPart}
use Rattle.root_store.proofs.TableCoreStepping.{parts_added_apart}
use Rattle.root_store.specs.declared.store.CoreStore.{CoreStore}
use Rattle.root_store.specs.declared.store.Table.{Table}
use Rattle.root_store.specs.Cores.{ShowsCore, ShowsParts}
use Rattle.root_store.specs.Stores.{core_parts, fresh_table, table_at}
use Rattle.root_store.proofs.InOrder.{core_order}
use Rattle.root_commits.specs.Commits.{EntersSealed, EntersTable, IsSealedOf, SameStore, insert_into, insert_of_block, part_rows, partition_of_block}
use Rattle.root_commits.specs.Events.{IsAccepted}
use Rattle.root_commits.proofs.Entering.{stands_created}
use Rattle.root_commits.proofs.Inserted.{hold_inserted, parts_inserted, stands_inserted}
use Rattle.root_commits.proofs.SameStores.{stands_same}
use Rattle.root_commits.proofs.Updated.{it_or, no_some, one_some}

module _ {F : Type 0} (files_of : F → Option Files) where
  abbrev Hold : Schema → List (Kept (Part F)) → List (List Row) → Type 0
  Hold schema ks rows = AllZip (λ (k : Kept (Part F)) (r : List Row). PartHolds files_of schema k.part r) ks rows

  -- a table whose parts are the same in the store, and in the state
  parts_kept : (old new : CoreStore F) (core next : Core) (table : List ℕ) (schema : Schema) → sets.parts_of new.set table ≡ sets.parts_of old.set table → core_parts_of table next.parts ≡ core_parts_of table core.parts
      → ShowsParts files_of old core table schema → ShowsParts files_of new next table schema
  parts_kept old new core next table schema kept same p = record {
    rows = p.rows;
    hold = subst (λ (ks : List (Kept (Part F))). Hold schema ks p.rows) (sym kept) p.hold;
    same = same ∙ (p.same ∙ ap (λ (ks : List (Kept (Part F))). core_parts table ks p.rows) (sym kept));
  }

  -- the same store shows the same state
  pub shows_same : (core : Core) (old new : CoreStore F) → SameStore old new → ShowsCore files_of old core → ShowsCore files_of new core
  shows_same core old new same s = record {
    stands = stands_same files_of core.history old new s.stands same;
    parts = λ u x at. parts_kept old new core core u x.schema (same.parts u) refl (s.parts u x (sym (here u) ∙ at));
    no_other = λ u none. s.no_other u (sym (here u) ∙ none);
  }
    where
      here : (u : List ℕ) → table_at new u ≡ table_at old u
      here u = ap (λ (es : List (List ℕ × Table)). lookup (is_at (slice_cmp nat_cmp u)) es) same.tables

  -- ---- a CREATE

  module _ (core : Core) (old new : CoreStore F) (session : ℕ) (c : Create) (s : ShowsCore files_of old core) (a : EntersTable c.table c.schema old new) where
    abbrev made : Core
    made = record { parts = core.parts; history = entered core.history session (command.Create c ∷ []); snapshots = core.snapshots }

    kept_parts : (u : List ℕ) → sets.parts_of new.set u ≡ sets.parts_of old.set u
    kept_parts u = ap (λ (x : PartSet (Part F)). sets.parts_of x u) a.set_is

    no_parts : sets.parts_of new.set c.table ≡ []
    no_parts = kept_parts c.table ∙ s.stands.no_other c.table a.absent

    -- the new table has no parts
    empty_shown : ShowsParts files_of new made c.table c.schema
    empty_shown = record {
      rows = [];
      hold = subst (λ (ks : List (Kept (Part F))). Hold c.schema ks []) (sym no_parts) tt;
      same = s.no_other c.table a.absent ∙ ap (λ (ks : List (Kept (Part F))). core_parts c.table ks []) (sym no_parts);
    }

    abbrev IsNewOr : List ℕ → Type 0
    IsNewOr u = (c.table ≡ u) ⊎ ((same_bytes c.table u ≡ false) × (table_at new u ≡ table_at old u))

    made_here : (u : List ℕ) → IsNewOr u
    made_here = it_or old new c.table (Some (fresh_table c.schema)) a.updates

    shown_at : (u : List ℕ) (x : Table) → table_at new u ≡ Some x → IsNewOr u → ShowsParts files_of new made u x.schema
    shown_at u x at (inl same) =
        let fresh = one_some (table_at new u) (fresh_table c.schema) x (subst (λ (v : List ℕ). table_at new v ≡ Some (fresh_table c.schema)) same a.updates.1) at in
        subst (λ (y : Table). ShowsParts files_of new made u y.schema) fresh (subst (λ (v : List ℕ). ShowsParts files_of new made v c.schema) same empty_shown)
    shown_at u x at (inr other) = parts_kept old new core made u x.schema (kept_parts u) refl (s.parts u x (sym other.1 ∙ at))

    none_at : (u : List ℕ) → table_at new u ≡ None → IsNewOr u → core_parts_of u core.parts ≡ []
    none_at u none (inl same) = subst (λ (v : List ℕ). core_parts_of v core.parts ≡ []) same (s.no_other c.table a.absent)
    none_at u none (inr other) = s.no_other u (sym other.1 ∙ none)

    pub create_accepted : IsTableSchema c.schema → length old.tables.entries < 64 → IsAccepted files_of core (entry_of session (command.Create c)) new
    create_accepted schema few =
        let absent : schema_of c.table core.history ≡ None = sym (s.stands.tables c.table) ∙ ap (option_map (λ (x : Table). x.schema)) a.absent in
        let room : creates core.history < 65536 = omega (arith, few, s.stands.count) in
        record {
          next = made;
          may = schema;
          gives = (absent, room, refl, refl);
          shows = record {
            stands = stands_created files_of core.history old new session c s.stands a schema few;
            parts = λ u x at. shown_at u x at (made_here u);
            no_other = λ u none. none_at u none (made_here u);
          };
        }

-- ---- the place of a part

-- a list parted where so many of a table's parts have come
record Parted (table : List ℕ) (n : ℕ) (ps : List CorePart) : Type 0 where
  front : List CorePart
  behind : List CorePart
  are : ps ≡ front ++ behind
  first : core_parts_of table front ≡ take n (core_parts_of table ps)
  rest : core_parts_of table behind ≡ drop n (core_parts_of table ps)

part_at : (table : List ℕ) (n : ℕ) (ps : List CorePart) → Parted table n ps
part_at table zero ps = record { front = []; behind = ps; are = refl; first = refl; rest = refl }
part_at table (suc n) [] = record { front = []; behind = []; are = refl; first = refl; rest = refl }
part_at table (suc n) (p ∷ ps) = by (same_bytes p.table table) refl (part_at table n ps) (part_at table (suc n) ps)
  where
    kept : Bool → List CorePart → List CorePart
    kept b qs = cond b (p ∷ core_parts_of table qs) (core_parts_of table qs)

    by : (b : Bool) → same_bytes p.table table ≡ b → Parted table n ps → Parted table (suc n) ps → Parted table (suc n) (p ∷ ps)
    by true own s later = record {
      front = p ∷ s.front;
      behind = s.behind;
      are = ap (λ (qs : List CorePart). p ∷ qs) s.are;
      first = ap (λ (b : Bool). kept b s.front) own ∙ (ap (λ (qs : List CorePart). p ∷ qs) s.first ∙ sym (ap (λ (b : Bool). take (suc n) (kept b ps)) own));
      rest = s.rest ∙ sym (ap (λ (b : Bool). drop (suc n) (kept b ps)) own);
    }
    by false other s later = record {
      front = p ∷ later.front;
      behind = later.behind;
      are = ap (λ (qs : List CorePart). p ∷ qs) later.are;
      first = ap (λ (b : Bool). kept b later.front) other ∙ (later.first ∙ sym (ap (λ (b : Bool). take (suc n) (kept b ps)) other));
      rest = later.rest ∙ sym (ap (λ (b : Bool). drop (suc n) (kept b ps)) other);
    }

-- a part of the table put there is in that place among the table's parts
placed_at : (table : List ℕ) (n : ℕ) (ps : List CorePart) (p : CorePart) (s : Parted table n ps) → p.table ≡ table → core_parts_of table (s.front ++ p ∷ s.behind) ≡ insert (core_parts_of table ps) n p
placed_at table n ps p s own =
    let test : CorePart → Bool = λ q. same_bytes q.table table in
    let yes : same_bytes p.table table ≡ true = ap (λ (u : List ℕ). same_bytes u table) own ∙ itself_same table in
    let mine : core_parts_of table (p ∷ s.behind) ≡ p ∷ drop n (core_parts_of table ps) =
    ap (λ (b : Bool). cond b (p ∷ core_parts_of table s.behind) (core_parts_of table s.behind)) yes ∙ ap (λ (qs : List CorePart). p ∷ qs) s.rest in
    filter-append test s.front (p ∷ s.behind) ∙ ap₂ (λ (xs ys : List CorePart). xs ++ ys) s.first mine

-- ---- an INSERT

module _ {F : Type 0} (files_of : F → Option Files) (core : Core) (old new : CoreStore F) (session : ℕ) (table : List ℕ) (t : Table) (block : Grid) (sealed : Option Files) (loaded : Loaded)
    (s : ShowsCore files_of old core) (rows_fit : IsInsertInto t.schema (insert_into table (partition_of_block t.schema block) block)) (is : IsSealedOf t.schema block sealed loaded)
    (a : EntersSealed files_of sealed loaded table (partition_of_block t.schema block) t old new) where
  abbrev h : History
  h = core.history

  abbrev i : Insert
  i = insert_into table (partition_of_block t.schema block) block

  abbrev number : ℕ
  number = length (numbered table h) + 1

  abbrev part : CorePart
  part = part_of_insert t.schema number i

  abbrev place : ℕ
  place = a.enters.added.place

  parted : Parted table place core.parts
  parted = part_at table place core.parts

  abbrev next : Core
  next = record { parts = parted.front ++ part ∷ parted.behind; history = entered h session (insert_of_block table (partition_of_block t.schema block) block ∷ []); snapshots = core.snapshots }

  there : ShowsParts files_of old core table t.schema
  there = s.parts table t a.enters.there

  abbrev all_rows : List (List Row)
  all_rows = insert there.rows place (part_rows t.schema block)

  now_are : core_parts_of table next.parts ≡ core_parts table (sets.parts_of new.set table) all_rows
  now_are =
      placed_at table place core.parts part parted refl
      ∙ (ap (λ (ps : List CorePart). insert ps place part) there.same
      ∙ sym (parts_inserted files_of h old new session table t block sealed loaded s.stands rows_fit is a there.rows there.hold))

  adds : AddsPart part core.parts next.parts
  adds = record {
    front = parted.front;
    behind = parted.behind;
    old_is = parted.are;
    new_is = refl;
    order = subst AreInBlockOrder (sym now_are) (core_order table (sets.parts_of new.set table) all_rows a.enters.ordered);
  }

  grown_shown : ShowsParts files_of new next table t.schema
  grown_shown = record {
    rows = all_rows;
    hold = hold_inserted files_of h old new session table t block sealed loaded s.stands rows_fit is a there.rows there.hold;
    same = now_are;
  }

  abbrev more : Table
  more = record { schema = t.schema; drawn = t.drawn + 1 }

  abbrev IsItOr : List ℕ → Type 0
  IsItOr u = (table ≡ u) ⊎ ((same_bytes table u ≡ false) × (table_at new u ≡ table_at old u))

  here : (u : List ℕ) → IsItOr u
  here = it_or old new table (Some more) a.enters.updates

  other_table : (u : List ℕ) → same_bytes table u ≡ false → u ≢ table
  other_table u differ same = let yes : same_bytes table u ≡ true = ap (same_bytes table) same ∙ itself_same table in cc

  shown_of : (u : List ℕ) (x : Table) → table_at new u ≡ Some x → IsItOr u → ShowsParts files_of new next u x.schema
  shown_of u x at (inl same) =
      let kept = one_some (table_at new u) more x (subst (λ (v : List ℕ). table_at new v ≡ Some more) same a.enters.updates.1) at in
      subst (λ (y : Table). ShowsParts files_of new next u y.schema) kept (subst (λ (v : List ℕ). ShowsParts files_of new next v t.schema) same grown_shown)
  shown_of u x at (inr other) =
      parts_kept files_of old new core next u x.schema (a.enters.others u (other_table u other.0)) (parts_added_apart u part core.parts next.parts adds other.0) (s.parts u x (sym other.1 ∙ at))

  none_of : (u : List ℕ) → table_at new u ≡ None → IsItOr u → core_parts_of u next.parts ≡ []
  none_of u none (inl same) = absurd (no_some (table_at new u) more none (subst (λ (v : List ℕ). table_at new v ≡ Some more) same a.enters.updates.1))
  none_of u none (inr other) = parts_added_apart u part core.parts next.parts adds other.0 ∙ s.no_other u (sym other.1 ∙ none)

  one_schema : (x y : Schema) → Some x ≡ Some y → x ≡ y
  one_schema x y same = cc

  pub insert_accepted : t.drawn < 4294967295 → IsAccepted files_of core (entry_of session (insert_of_block table (partition_of_block t.schema block) block)) new
  insert_accepted small =
      let known : schema_of table h ≡ Some t.schema = sym (s.stands.tables table) ∙ ap (option_map (λ (x : Table). x.schema)) a.enters.there in
      let drawn = s.stands.drawn table t a.enters.there in
      record {
        next = next;
        may = λ schema at. subst (λ (x : Schema). IsInsertInto x i) (one_schema t.schema schema (sym known ∙ at)) rows_fit;
        gives = record { schema = t.schema; there = known; room = omega (arith, drawn, small); place_is = refl; parts = adds; history = refl; snapshots = refl };
        shows = record {
          stands = stands_inserted files_of h old new session table t block sealed loaded s.stands rows_fit is a;
          parts = λ u x at. shown_of u x at (here u);
          no_other = λ u none. none_of u none (here u);
        };
      }
