-- What always holds of the core holds of what a store shows, and each store that stands for a history shows a state of it.
use Rattle.std.proofs.Common.{◌≡◌, ℕ, ◌-◌, Bool, true, false, cond, ◌||◌, List, [], ◌∷◌, ◌++◌, Option, Some, None, is_some, slice_get, All, refl, sym, ap, ap₂, ◌∙◌, subst, append-nil, arith}
use Rattle.std.specs.BTreeMap.{is_at}
use Rattle.std.specs.Cmp.Lexicographic.{slice_cmp}
use Rattle.std.specs.List.{AllByRecursion, AllZip, list_any}
use Rattle.std.specs.Map.{keys_of}
use Rattle.std.specs.Option.{option_map}
use Rattle.std.specs.Ordering.{is_eq, nat_cmp}
use Rattle.std.proofs.lemmas.Cmp.{nat_list_cmp_total, tied_itself}
use Rattle.std.proofs.lemmas.List.Elements.{All-nil, filter-append}
use Rattle.std.proofs.lemmas.Map.Made.{is_some-lookup}
use Rattle.mt_base.specs.declared.partition.Partition.{Partition}
use Rattle.mt_values.specs.declared.command.Command.{Command}
use Rattle.mt_values.specs.declared.command.Command.TheVariants as command
use Rattle.mt_values.specs.declared.schema.Schema.{Schema}
use Rattle.mt_values.specs.Grammar.{same_bytes}
use Rattle.mt_values.specs.Values.{Row}
use Rattle.mt_outside.specs.Files.{Files}
use Rattle.table_core.specs.mt_model.History.{History, IsLegal, schema_of}
use Rattle.table_core.specs.mt_model.Numbers.{IsNumberOfInsert}
use Rattle.table_core.proofs.MtModelLists.{get_past}
use Rattle.table_core.proofs.MtModelTables.{same_is}
use Rattle.part_reader.specs.declared.reading.Part.{Part}
use Rattle.part_reader.specs.Parts.{PartHolds}
use Rattle.part_reader.proofs.HeldRows.{one_held}
use Rattle.table_core.specs.part_set.declared.kept.Kept.{Kept}
use Rattle.table_core.specs.part_set.Sets as sets
use Rattle.table_core.proofs.PartSetMaps.{found_is}
use Rattle.table_core.specs.part_history.declared.part.CorePart.{CorePart}
use Rattle.table_core.specs.part_history.Parts.{AreInBlockOrder, PartStands, TableStands, core_parts_of}
use Rattle.table_core.specs.Core.{Core, IsCore, IsSnapshot}
use Rattle.table_core.proofs.Keeping.{none_numbered, others_none, own_all}
use Rattle.root_store.specs.declared.store.CoreStore.{CoreStore}
use Rattle.root_store.specs.declared.store.Table.{Table}
use Rattle.root_store.specs.Cores.{ShowsCore, ShowsCoreOf}
use Rattle.root_store.specs.Stores.{CoreStands, core_parts, table_at}

-- ---- tables without parts

-- where there is no table, no part stands for it
none_stand : (h : History) (table : List ℕ) → IsLegal h → schema_of table h ≡ None → TableStands table [] h
none_stand h table legal none = record {
  own = All-nil (λ (p : CorePart). p.table ≡ table);
  each = All-nil (PartStands h);
  once = λ w n is. absurd (no_insert w n is);
}
  where
    no_insert : (w : Partition) (n : ℕ) → IsNumberOfInsert table w n h → ⊥
    no_insert w n is =
        let found : None ≡ Some (command.Insert is.insert) =
        sym (get_past [] (n - 1) (omega arith)) ∙ (sym (ap (λ (cs : List Command). slice_get cs (n - 1)) (none_numbered table h legal none)) ∙ is.there) in
        cc

none_in_order : AreInBlockOrder []
none_in_order = λ k d low lt. absurd (omega (arith, lt))

-- parts of a table, as the history has them and in their order
abbrev pub StandInOrder : List ℕ → History → List CorePart → Type 0
StandInOrder table h ps = TableStands table ps h × AreInBlockOrder ps

module _ {F : Type 0} (files_of : F → Option Files) where
  abbrev Hold : Schema → List (Kept (Part F)) → List (List Row) → Type 0
  Hold schema ks rows = AllZip (λ (k : Kept (Part F)) (r : List Row). PartHolds files_of schema k.part r) ks rows

  -- parts hold one list of rows each
  pub one_list : (schema : Schema) (ks : List (Kept (Part F))) (xs ys : List (List Row)) → Hold schema ks xs → Hold schema ks ys → xs ≡ ys
  one_list schema [] [] [] first second = refl
  one_list schema [] [] (y ∷ ys) first second = absurd second
  one_list schema [] (x ∷ xs) ys first second = absurd first
  one_list schema (k ∷ ks) [] ys first second = absurd first
  one_list schema (k ∷ ks) (x ∷ xs) [] first second = absurd second
  one_list schema (k ∷ ks) (x ∷ xs) (y ∷ ys) first second =
      ap₂ (λ (r : List Row) (rs : List (List Row)). r ∷ rs) (one_held files_of schema k.part x y first.0 second.0) (one_list schema ks xs ys first.1 second.1)

-- ---- what a store shows

module _ {F : Type 0} (files_of : F → Option Files) (store : CoreStore F) (core : Core) (s : ShowsCore files_of store core) where
  shown_table : (table : List ℕ) → StandInOrder table core.history (core_parts_of table core.parts)
  shown_table table = by (table_at store table) refl
    where
      by : (found : Option Table) → table_at store table ≡ found → StandInOrder table core.history (core_parts_of table core.parts)
      by None none =
          let absent : schema_of table core.history ≡ None = sym (s.stands.tables table) ∙ ap (option_map (λ (t : Table). t.schema)) none in
          subst (StandInOrder table core.history) (sym (s.no_other table none)) (none_stand core.history table s.stands.legal absent, none_in_order)
      by (Some t) at =
          let there = s.stands.parts table t at in
          let shown = s.parts table t at in
          let ks = sets.parts_of store.set table in
          let rows = one_list files_of t.schema ks there.rows shown.rows there.hold shown.hold in
          let are : core_parts table ks there.rows ≡ core_parts_of table core.parts = ap (core_parts table ks) rows ∙ sym shown.same in
          subst (StandInOrder table core.history) are (there.stand, there.order)

  -- what always holds of the core holds of a state that a store shows, where its snapshots are of its history
  pub shown_core : All (IsSnapshot core.history) core.snapshots → IsCore core
  shown_core snapshots = record {
    legal = s.stands.legal;
    parts = λ table. (shown_table table).0;
    order = λ table. (shown_table table).1;
    snapshots = snapshots;
  }

-- ---- a state that a store shows

own_parts : {F : Type 0} (table : List ℕ) (ks : List (Kept (Part F))) (rows : List (List Row)) → AllByRecursion (λ (p : CorePart). p.table ≡ table) (core_parts table ks rows)
own_parts table [] rows = tt
own_parts table (k ∷ ks) [] = tt
own_parts table (k ∷ ks) (r ∷ rows) = (refl, own_parts table ks rows)

-- whether a name is among these
abbrev has : List (List ℕ) → List ℕ → Bool
has names table = list_any (is_at (slice_cmp nat_cmp table)) names

-- a name that is not found at another is not that one
apart : (table name : List ℕ) → is_at (slice_cmp nat_cmp table) name ≡ false → same_bytes name table ≡ false
apart table name miss = by (same_bytes name table) refl
  where
    by : (b : Bool) → same_bytes name table ≡ b → same_bytes name table ≡ false
    by false same = same
    by true same =
        let hit : is_at (slice_cmp nat_cmp table) name ≡ true = subst (λ (x : List ℕ). is_at (slice_cmp nat_cmp table) x ≡ true) (sym (same_is name table same)) (ap is_eq (tied_itself nat_list_cmp_total table)) in
        cc

module _ {F : Type 0} (files_of : F → Option Files) (h : History) (store : CoreStore F) (s : CoreStands files_of h store) where
  -- the parts of a table with the rows that they hold, none where there is no table
  abbrev parts_by : (table : List ℕ) (found : Option Table) → table_at store table ≡ found → List CorePart
  parts_by table None none = []
  parts_by table (Some t) at = core_parts table (sets.parts_of store.set table) (s.parts table t at).rows

  abbrev parts_at : List ℕ → List CorePart
  parts_at table = parts_by table (table_at store table) refl

  none_by : (table : List ℕ) (found : Option Table) (is : table_at store table ≡ found) → found ≡ None → parts_by table found is ≡ []
  none_by table None is none = refl
  none_by table (Some t) is none = cc

  own_by : (table : List ℕ) (found : Option Table) (is : table_at store table ≡ found) → AllByRecursion (λ (p : CorePart). p.table ≡ table) (parts_by table found is)
  own_by table None is = tt
  own_by table (Some t) is = own_parts table (sets.parts_of store.set table) (s.parts table t is).rows

  -- the rows that parts hold
  record RowsOf (table : List ℕ) (schema : Schema) (parts : List CorePart) : Type 0 where
    rows : List (List Row)
    hold : Hold files_of schema (sets.parts_of store.set table) rows
    are : parts ≡ core_parts table (sets.parts_of store.set table) rows

  rows_by : (table : List ℕ) (found : Option Table) (is : table_at store table ≡ found) (t : Table) → found ≡ Some t → RowsOf table t.schema (parts_by table found is)
  rows_by table None is t at = cc
  rows_by table (Some u) is t at =
      let one : u ≡ t = cc in
      let there = s.parts table u is in
      subst (λ (x : Table). RowsOf table x.schema (parts_by table (Some u) is)) one (record { rows = there.rows; hold = there.hold; are = refl })

  -- the parts of these tables, each once
  abbrev all_parts : List (List ℕ) → List CorePart
  all_parts [] = []
  all_parts (name ∷ names) = cond (has names name) (all_parts names) (parts_at name ++ all_parts names)

  own_at : (table : List ℕ) → core_parts_of table (parts_at table) ≡ parts_at table
  own_at table = own_all table (parts_at table) (own_by table (table_at store table) refl)

  parts_among : (names : List (List ℕ)) (table : List ℕ) → core_parts_of table (all_parts names) ≡ cond (has names table) (parts_at table) []
  parts_among [] table = refl
  parts_among (name ∷ names) table = by (has names name) refl (is_at (slice_cmp nat_cmp table) name) refl (parts_among names table)
    where
      test : CorePart → Bool
      test p = same_bytes p.table table

      by : (b : Bool) → has names name ≡ b → (c : Bool) → is_at (slice_cmp nat_cmp table) name ≡ c → core_parts_of table (all_parts names) ≡ cond (has names table) (parts_at table) []
          → core_parts_of table (cond b (all_parts names) (parts_at name ++ all_parts names)) ≡ cond (c || has names table) (parts_at table) []
      by true again true hit rest =
          let among : has names table ≡ true = ap (has names) (found_is table name hit) ∙ again in
          rest ∙ ap (λ (b : Bool). cond b (parts_at table) []) among
      by true again false miss rest = rest
      by false first true hit rest =
          let same = found_is table name hit in
          let none : has names table ≡ false = ap (has names) same ∙ first in
          subst (λ (n : List ℕ). core_parts_of table (parts_at n ++ all_parts names) ≡ parts_at table) same
          (filter-append test (parts_at table) (all_parts names)
          ∙ (ap₂ (λ (xs ys : List CorePart). xs ++ ys) (own_at table) (rest ∙ ap (λ (b : Bool). cond b (parts_at table) []) none) ∙ append-nil (parts_at table)))
      by false first false miss rest =
          filter-append test (parts_at name) (all_parts names)
          ∙ ap₂ (λ (xs ys : List CorePart). xs ++ ys) (others_none table name (parts_at name) (apart table name miss) (own_by name (table_at store name) refl)) rest

  abbrev state : Core
  state = record { parts = all_parts (keys_of store.tables.entries); history = h; snapshots = [] }

  parts_are : (table : List ℕ) → core_parts_of table state.parts ≡ parts_at table
  parts_are table =
      parts_among (keys_of store.tables.entries) table
      ∙ (ap (λ (b : Bool). cond b (parts_at table) []) (sym (is_some-lookup (is_at (slice_cmp nat_cmp table)) store.tables.entries)) ∙ by (table_at store table) refl)
    where
      by : (found : Option Table) → table_at store table ≡ found → cond (is_some found) (parts_at table) [] ≡ parts_at table
      by None none = sym (none_by table (table_at store table) refl none)
      by (Some t) at = refl

  shows_state : ShowsCore files_of store state
  shows_state = record {
    stands = s;
    parts = λ table t at.
        let r = rows_by table (table_at store table) refl t at in
        record { rows = r.rows; hold = r.hold; same = parts_are table ∙ r.are };
    no_other = λ table none. parts_are table ∙ none_by table (table_at store table) refl none;
  }

  -- a store that stands for a history shows a state of it, without snapshots
  pub shows_core : ShowsCoreOf files_of h store
  shows_core = record {
    core = state;
    history_is = refl;
    snapshots_are = refl;
    holds = shown_core files_of store state shows_state (All-nil (IsSnapshot h));
    shows = shows_state;
  }
