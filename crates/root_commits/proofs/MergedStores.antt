-- The store with one part in place of those that were merged stands for the same history.
use Rattle.std.proofs.Common.{◌≡◌, ◌≢◌, ℕ, ◌+◌, true, false, List, [], ◌∷◌, ◌++◌, Option, Some, None, get_or, append-nil, refl, sym, ap, ap₂, ◌∙◌, subst, inl, inr, length}
use Rattle.std.proofs.lemmas.Bool.{false≢true}
use Rattle.std.proofs.lemmas.List.Elements.{All-contains, All-from_recursion, Contains-append_left, Contains-append_right, Contains-get_or, recursion_from_All}
use Rattle.std.specs.List.{All, AllByRecursion, AllZip}
use Rattle.std.specs.BTreeMap.{BTreeMap, get}
use Rattle.std.specs.Cmp.Lexicographic.{slice_cmp}
use Rattle.std.specs.Option.{option_map}
use Rattle.std.specs.Ordering.{nat_cmp}
use Rattle.mt_base.specs.declared.partition.Partition.{Partition}
use Rattle.mt_values.specs.declared.mutation.Mutation.{Mutation}
use Rattle.mt_values.specs.declared.schema.Schema.{Schema}
use Rattle.mt_values.specs.Grammar.{same_bytes}
use Rattle.mt_values.specs.Values.{Row}
use Rattle.mt_outside.specs.Files.{Files}
use Rattle.root_store.specs.mt_model.History.{History, schema_of}
use Rattle.root_store.proofs.MtModelTables.{itself_same, same_is}
use Rattle.root_store.specs.part_name.declared.part.PartName.{PartName}
use Rattle.root_store.specs.part_name.Merged.{merged_of}
use Rattle.root_store.specs.part_reader.declared.reading.Part.{Part}
use Rattle.root_store.specs.part_reader.Parts.{PartHolds}
use Rattle.root_store.proofs.PartReaderHolding.{written_holds}
use Rattle.root_store.specs.part_set.declared.kept.Kept.{Kept}
use Rattle.root_store.specs.part_set.Parts.{IsInBlockOrder, kept_in}
use Rattle.root_store.specs.part_set.Runs.{EndsInOrder, IsRun}
use Rattle.root_store.specs.part_set.Sets.{parts_of}
use Rattle.root_store.proofs.PartSetItems.{item_first}
use Rattle.root_store.proofs.PartSetMaps.{true_or_false}
use Rattle.root_store.specs.part_history.declared.part.CorePart.{CorePart}
use Rattle.root_store.specs.part_name.Pending.{NoneParted}
use Rattle.root_store.specs.part_history.Merges.{IsMergedPart, names_of, with_rows}
use Rattle.root_store.specs.part_history.Parts.{AreInBlockOrder, PartStands, TableStands}
use Rattle.root_store.proofs.PartHistoryMerging.{merged_stand, unparted_none}
use Rattle.root_store.specs.table_core.declared.event.Sources.{Sources}
use Rattle.root_store.specs.table_core.declared.store.Run.{Run}
use Rattle.root_store.specs.table_core.Store.{parts_below}
use Rattle.root_store.proofs.TableCoreNeighbours.{sources_stand}
use Rattle.root_store.specs.declared.store.CoreStore.{CoreStore}
use Rattle.root_store.specs.declared.store.Table.{Table}
use Rattle.root_store.specs.Stores.{CoreStands, PartsAreThere, core_part, core_parts, table_at}
use Rattle.root_store.proofs.InOrder.{core_order}
use Rattle.root_commits.specs.Events.{merged_sources}
use Rattle.root_commits.specs.Merges.{EntersMerge, HoldsMerge, Merging, SealsMerge, SealsMergeOfParts, name_of_merge, source_names, sources_of}
use Rattle.root_commits.proofs.MergedNames.{run_own, run_partition}
use Rattle.root_commits.proofs.SameStores.{same_queue}
use Rattle.root_commits.proofs.RunRows.{part_names, parts_own, reached_stand, rows_of_run, run_among, run_hold, run_neighbours, stand_reached}

-- ---- parts with their rows, in two

module _ {F : Type 0} (R : Kept (Part F) → List Row → Type 0) where
  -- the rows of two lists of parts, one after the other
  pub record Split (ks ls : List (Kept (Part F))) (rows : List (List Row)) : Type 0 where
    pub first : List (List Row)
    pub rest : List (List Row)
    pub are : rows ≡ first ++ rest
    pub first_hold : AllZip R ks first
    pub rest_hold : AllZip R ls rest

  pub split_rows : (ks ls : List (Kept (Part F))) (rows : List (List Row)) → AllZip R (ks ++ ls) rows → Split ks ls rows
  split_rows [] ls rows hold = record { first = []; rest = rows; are = refl; first_hold = tt; rest_hold = hold }
  split_rows (k ∷ ks) ls [] hold = absurd hold
  split_rows (k ∷ ks) ls (r ∷ rows) hold =
      let more = split_rows ks ls rows hold.1 in
      record { first = r ∷ more.first; rest = more.rest; are = ap (λ (rs : List (List Row)). r ∷ rs) more.are; first_hold = (hold.0, more.first_hold); rest_hold = more.rest_hold }

  pub join_rows : (ks ls : List (Kept (Part F))) (rows more : List (List Row)) → AllZip R ks rows → AllZip R ls more → AllZip R (ks ++ ls) (rows ++ more)
  join_rows [] ls [] more first rest = rest
  join_rows [] ls (r ∷ rows) more first rest = absurd first
  join_rows (k ∷ ks) ls [] more first rest = absurd first
  join_rows (k ∷ ks) ls (r ∷ rows) more first rest = (first.0, join_rows ks ls rows more first.1 rest)

  pub join_parts : (table : List ℕ) (ks ls : List (Kept (Part F))) (rows more : List (List Row)) → AllZip R ks rows → core_parts table (ks ++ ls) (rows ++ more) ≡ core_parts table ks rows ++ core_parts table ls more
  join_parts table [] ls [] more first = refl
  join_parts table [] ls (r ∷ rows) more first = absurd first
  join_parts table (k ∷ ks) ls [] more first = absurd first
  join_parts table (k ∷ ks) ls (r ∷ rows) more first = ap (λ (ps : List CorePart). core_part table k r ∷ ps) (join_parts table ks ls rows more first.1)

pub middle_of : (P : CorePart → Type 0) (xs ys zs : List CorePart) → All P (xs ++ (ys ++ zs)) → All P ys
middle_of P xs ys zs all = λ i d inside.
    let has = Contains-get_or ys i d inside in
    All-contains P (xs ++ (ys ++ zs)) (get_or ys i d) all (Contains-append_right xs (ys ++ zs) (get_or ys i d) (Contains-append_left ys zs (get_or ys i d) has))

-- ---- the part of a merge

module _ {F : Type 0} (files_of : F → Option Files) (h : History) (store : CoreStore F) (m : Merging) (t : Table) (at : table_at store m.table ≡ Some t) (s : CoreStands files_of h store)
    (run : IsRun m.run (kept_in m.partition (parts_of store.set m.table))) (ordered : IsInBlockOrder (kept_in m.partition (parts_of store.set m.table))) (fit : All EndsInOrder (parts_of store.set m.table))
    (is : SealsMerge t.schema h (source_names store m) m) (name : PartName) (name_is : name_of_merge (sources_of store m) ≡ Some name) where
  abbrev Hold : Kept (Part F) → List Row → Type 0
  Hold k r = PartHolds files_of t.schema k.part r

  abbrev those : List (Kept (Part F))
  those = sources_of store m

  known : schema_of m.table h ≡ Some t.schema
  known = sym (s.tables m.table) ∙ ap (option_map (λ (x : Table). x.schema)) at

  own : AllByRecursion (λ (k : Kept (Part F)). k.name.partition ≡ name.partition) those
  own =
      recursion_from_All (λ (k : Kept (Part F)). k.name.partition ≡ name.partition) those (λ i d inside.
      run_own (parts_of store.set m.table) m.partition m.run ordered fit name name_is (get_or those i d) (Contains-get_or those i d inside)
      ∙ sym (run_partition (parts_of store.set m.table) m.partition m.run ordered fit name name_is))

  -- what was sealed is what a merge may make of the parts, with rows that they hold and with which they stand
  pub is_merge : (inputs : List (List Row)) (hold : AllZip Hold those inputs) → IsMergedPart h t.schema (core_parts m.table those inputs) (record { table = m.table; name = name; rows = is.holds.rows })
  is_merge inputs hold = record {
    named = ap merged_of (part_names Hold m.table those inputs hold) ∙ name_is;
    own = All-from_recursion (λ (p : CorePart). p.name.partition ≡ name.partition) (core_parts m.table those inputs) (parts_own Hold (λ (p : Partition). p ≡ name.partition) m.table those inputs hold own);
    unparted = subst (λ (ms : List Mutation). NoneParted ms (names_of (core_parts m.table those inputs))) (sym (s.unaltered m.table)) (unparted_none (names_of (core_parts m.table those inputs)));
    leaves = record {
      inputs = is.inputs;
      stand = subst (λ (k : History). AllZip (λ (p : CorePart) (r : List Row). PartStands k (with_rows p r)) (core_parts m.table those inputs) is.inputs) (sym is.grown) (reached_stand Hold is.front is.more m.table those inputs is.inputs hold is.reach);
      rising = is.holds.rising;
      merges = is.holds.merges;
    };
  }

  abbrev was : PartsAreThere files_of h store m.table t.schema
  was = s.parts m.table t at

  abbrev run_rows : List (List Row)
  run_rows = rows_of_run m.partition m.run (parts_of store.set m.table) was.rows

  run_held : AllZip Hold those run_rows
  run_held = run_hold Hold m.partition m.run (parts_of store.set m.table) was.rows was.hold

  -- so it holds rows
  pub made : HoldsMerge t.schema is.inputs m
  made = is.holds

  abbrev meant : Sources
  meant = merged_sources m

  abbrev all_parts : List CorePart
  all_parts = core_parts m.table (parts_of store.set m.table) was.rows

  abbrev place : Run
  place = record { from = length (parts_below m.partition all_parts) + m.run.first; count = m.run.count }

  -- with which it stands for the history
  pub made_stands : PartStands h (record { table = m.table; name = name; rows = made.rows })
  unfolding made
  made_stands =
      let among = run_among Hold meant m.run refl refl (parts_of store.set m.table) was.rows was.hold in
      let stand = sources_stand all_parts meant place was.order (run_neighbours Hold meant m.run refl refl (parts_of store.set m.table) was.rows was.hold run) refl refl in
      let new_part : CorePart = record { table = m.table; name = name; rows = made.rows } in
      let source_parts = core_parts m.table those run_rows in
      let are : all_parts ≡ stand.front ++ (source_parts ++ stand.back) = stand.parts_are ∙ ap (λ (ps : List CorePart). stand.front ++ (ps ++ stand.back)) among in
      let before : TableStands m.table (stand.front ++ (source_parts ++ stand.back)) h = subst (λ (ps : List CorePart). TableStands m.table ps h) are was.stand in
      let rising : AreInBlockOrder (stand.front ++ (source_parts ++ stand.back)) = subst AreInBlockOrder are was.order in
      let now = merged_stand h t.schema stand.front source_parts stand.back new_part s.legal known (is_merge run_rows run_held) before rising in
      All-contains (PartStands h) (stand.front ++ new_part ∷ stand.back) new_part now.each (Contains-append_right stand.front (new_part ∷ stand.back) new_part (item_first new_part stand.back))

-- ---- where nobody acts in between

module _ {F : Type 0} (files_of : F → Option Files) (store : CoreStore F) (m : Merging) (t : Table) (at : table_at store m.table ≡ Some t) (run : IsRun m.run (kept_in m.partition (parts_of store.set m.table)))
    (is : SealsMergeOfParts files_of t.schema store m) (h : History) (s : CoreStands files_of h store) where
  abbrev Held : Kept (Part F) → List Row → Type 0
  Held k r = PartHolds files_of t.schema k.part r

  abbrev sealed_parts : List (Kept (Part F))
  sealed_parts = sources_of store m

  abbrev there : PartsAreThere files_of h store m.table t.schema
  there = s.parts m.table t at

  abbrev there_rows : List (List Row)
  there_rows = rows_of_run m.partition m.run (parts_of store.set m.table) there.rows

  there_held : AllZip Held sealed_parts there_rows
  there_held = run_hold Held m.partition m.run (parts_of store.set m.table) there.rows there.hold

  abbrev there_meant : Sources
  there_meant = merged_sources m

  abbrev there_parts : List CorePart
  there_parts = core_parts m.table (parts_of store.set m.table) there.rows

  abbrev there_place : Run
  there_place = record { from = length (parts_below m.partition there_parts) + m.run.first; count = m.run.count }

  each_there : All (PartStands h) (core_parts m.table sealed_parts there_rows)
  each_there =
      let among = run_among Held there_meant m.run refl refl (parts_of store.set m.table) there.rows there.hold in
      let stand = sources_stand there_parts there_meant there_place there.order (run_neighbours Held there_meant m.run refl refl (parts_of store.set m.table) there.rows there.hold run) refl refl in
      let are : there_parts ≡ stand.front ++ (core_parts m.table sealed_parts there_rows ++ stand.back) = stand.parts_are ∙ ap (λ (ps : List CorePart). stand.front ++ (ps ++ stand.back)) among in
      middle_of (PartStands h) stand.front (core_parts m.table sealed_parts there_rows) stand.back (subst (All (PartStands h)) are there.stand.each)

  -- what was sealed of whatever rows the parts hold is a merge by each history that the store stands for
  pub sealed_by_parts : SealsMerge t.schema h (source_names store m) m
  sealed_by_parts = record {
    front = h;
    more = [];
    grown = sym (append-nil h);
    inputs = there_rows;
    reach = stand_reached Held h m.table sealed_parts there_rows there_held (recursion_from_All (PartStands h) (core_parts m.table sealed_parts there_rows) each_there);
    holds = is there_rows there_held;
  }

-- ---- the store

module _ {F : Type 0} (files_of : F → Option Files) (h : History) (old new : CoreStore F) (m : Merging) (t : Table) (at : table_at old m.table ≡ Some t)
    (ordered : IsInBlockOrder (kept_in m.partition (parts_of old.set m.table))) (fit : All EndsInOrder (parts_of old.set m.table))
    (is : SealsMerge t.schema h (source_names old m) m) (name : PartName) (name_is : name_of_merge (sources_of old m) ≡ Some name) (a : EntersMerge files_of m name old new) where
  abbrev Holds : Kept (Part F) → List Row → Type 0
  Holds k r = PartHolds files_of t.schema k.part r

  abbrev sources : List (Kept (Part F))
  sources = sources_of old m

  abbrev kept : Kept (Part F)
  kept = record { name = name; part = a.part; busy = false }

  abbrev front : List (Kept (Part F))
  front = a.swapped.front

  abbrev back : List (Kept (Part F))
  back = a.swapped.back

  -- the parts with rows that they hold: those before the run, those of the run, and those after it
  pub record Rows (rows : List (List Row)) : Type 0 where
    pub front_rows : List (List Row)
    pub inputs : List (List Row)
    pub back_rows : List (List Row)
    pub are : rows ≡ front_rows ++ (inputs ++ back_rows)
    pub front_hold : AllZip Holds front front_rows
    pub inputs_hold : AllZip Holds sources inputs
    pub back_hold : AllZip Holds back back_rows

  pub rows_of : (rows : List (List Row)) → AllZip Holds (parts_of old.set m.table) rows → Rows rows
  rows_of rows hold =
      let outer = split_rows Holds front (sources ++ back) rows (subst (λ (ks : List (Kept (Part F))). AllZip Holds ks rows) a.swapped.before_is hold) in
      let inner = split_rows Holds sources back outer.rest outer.rest_hold in
      record {
        front_rows = outer.first;
        inputs = inner.first;
        back_rows = inner.rest;
        are = outer.are ∙ ap (λ (rs : List (List Row)). outer.first ++ rs) inner.are;
        front_hold = outer.first_hold;
        inputs_hold = inner.first_hold;
        back_hold = inner.rest_hold;
      }

  module _ (rows : List (List Row)) (r : Rows rows) where
    -- what the merge made of those of the run
    abbrev merge : HoldsMerge t.schema is.inputs m
    merge = is.holds

    abbrev rows_now : List (List Row)
    rows_now = r.front_rows ++ merge.rows ∷ r.back_rows

    abbrev new_part : CorePart
    new_part = core_part m.table kept merge.rows

    -- the new part holds its rows
    pub new_holds : Holds kept merge.rows
    new_holds = written_holds files_of t.schema a.part merge.rows merge.files (a.files_are ∙ merge.sealed_are) (a.loaded_is ∙ merge.loaded_is) merge.holds

    pub hold_now : AllZip Holds (parts_of new.set m.table) rows_now
    hold_now = subst (λ (ks : List (Kept (Part F))). AllZip Holds ks rows_now) (sym a.swapped.after_is) (join_rows Holds front (kept ∷ back) r.front_rows (merge.rows ∷ r.back_rows) r.front_hold (new_holds, r.back_hold))

    abbrev front_parts : List CorePart
    front_parts = core_parts m.table front r.front_rows

    abbrev source_parts : List CorePart
    source_parts = core_parts m.table sources r.inputs

    abbrev back_parts : List CorePart
    back_parts = core_parts m.table back r.back_rows

    pub parts_before : core_parts m.table (parts_of old.set m.table) rows ≡ front_parts ++ (source_parts ++ back_parts)
    parts_before =
        ap₂ (λ (ks : List (Kept (Part F))) (rs : List (List Row)). core_parts m.table ks rs) a.swapped.before_is r.are
        ∙ (join_parts Holds m.table front (sources ++ back) r.front_rows (r.inputs ++ r.back_rows) r.front_hold
        ∙ ap (λ (ps : List CorePart). front_parts ++ ps) (join_parts Holds m.table sources back r.inputs r.back_rows r.inputs_hold))

    pub parts_now : core_parts m.table (parts_of new.set m.table) rows_now ≡ front_parts ++ new_part ∷ back_parts
    parts_now =
        ap (λ (ks : List (Kept (Part F))). core_parts m.table ks rows_now) a.swapped.after_is
        ∙ join_parts Holds m.table front (kept ∷ back) r.front_rows (merge.rows ∷ r.back_rows) r.front_hold

  module _ (s : CoreStands files_of h old) (run : IsRun m.run (kept_in m.partition (parts_of old.set m.table))) where
    abbrev schema_at : Option Table → Option Schema
    schema_at found = option_map (λ (x : Table). x.schema) found

    schema_known : schema_of m.table h ≡ Some t.schema
    schema_known = sym (s.tables m.table) ∙ ap schema_at at

    abbrev were : PartsAreThere files_of h old m.table t.schema
    were = s.parts m.table t at

    abbrev rows_were : Rows were.rows
    rows_were = rows_of were.rows were.hold

    stands_before : TableStands m.table (front_parts were.rows rows_were ++ (source_parts were.rows rows_were ++ back_parts were.rows rows_were)) h
    stands_before = subst (λ (ps : List CorePart). TableStands m.table ps h) (parts_before were.rows rows_were) were.stand

    order_before : AreInBlockOrder (front_parts were.rows rows_were ++ (source_parts were.rows rows_were ++ back_parts were.rows rows_were))
    order_before = subst AreInBlockOrder (parts_before were.rows rows_were) were.order

    stands_now : TableStands m.table (front_parts were.rows rows_were ++ new_part were.rows rows_were ∷ back_parts were.rows rows_were) h
    stands_now =
        merged_stand h t.schema (front_parts were.rows rows_were) (source_parts were.rows rows_were) (back_parts were.rows rows_were) (new_part were.rows rows_were) s.legal schema_known
        (is_merge files_of h old m t at s run ordered fit is name name_is rows_were.inputs rows_were.inputs_hold) stands_before order_before

    there_now : PartsAreThere files_of h new m.table t.schema
    there_now = record {
      rows = rows_now were.rows rows_were;
      hold = hold_now were.rows rows_were;
      stand = subst (λ (ps : List CorePart). TableStands m.table ps h) (sym (parts_now were.rows rows_were)) stands_now;
      order = core_order m.table (parts_of new.set m.table) (rows_now were.rows rows_were) a.ordered;
    }

    other : (u : List ℕ) → same_bytes m.table u ≡ false → u ≢ m.table
    other u differ same = let yes : same_bytes m.table u ≡ true = ap (same_bytes m.table) same ∙ itself_same m.table in false≢true (sym differ ∙ yes)

    here : (u : List ℕ) → table_at new u ≡ table_at old u
    here u = ap (λ (ts : BTreeMap (List ℕ) Table). get (slice_cmp nat_cmp) ts u) a.tables_are

    one_table : (x y : Table) → Some x ≡ Some y → x ≡ y
    one_table x y same = cc

    parts_at : (u : List ℕ) (x : Table) → table_at old u ≡ Some x → PartsAreThere files_of h new u x.schema
    parts_at u x found = elim (true_or_false (same_bytes m.table u)) [
      | inl same ↦ (
          let is_it = same_is m.table u same in
          let one : t ≡ x = one_table t x (sym at ∙ (ap (table_at old) is_it ∙ found)) in
          subst (λ (v : List ℕ). PartsAreThere files_of h new v x.schema) is_it (subst (λ (y : Table). PartsAreThere files_of h new m.table y.schema) one there_now))
      | inr differ ↦ (
          let same = a.others u (other u differ) in
          let p = s.parts u x found in
          record {
            rows = p.rows;
            hold = subst (λ (ks : List (Kept (Part F))). AllZip (λ (k : Kept (Part F)) (r : List Row). PartHolds files_of x.schema k.part r) ks p.rows) (sym same) p.hold;
            stand = subst (λ (ks : List (Kept (Part F))). TableStands u (core_parts u ks p.rows) h) (sym same) p.stand;
            order = subst (λ (ks : List (Kept (Part F))). AreInBlockOrder (core_parts u ks p.rows)) (sym same) p.order;
          })
    ]

    none_at : (u : List ℕ) → table_at old u ≡ None → parts_of new.set u ≡ []
    none_at u none = elim (true_or_false (same_bytes m.table u)) [
      | inl same ↦ (let both : Some t ≡ None = sym at ∙ (ap (table_at old) (same_is m.table u same) ∙ none) in absurd (no_table both))
      | inr differ ↦ a.others u (other u differ) ∙ s.no_other u none
    ]
      where
        no_table : Some t ≡ None → ⊥
        no_table is = cc

    pub stands_merged : CoreStands files_of h new
    stands_merged = record {
      legal = s.legal;
      length_is = a.length_is ∙ s.length_is;
      tables = λ u. ap schema_at (here u) ∙ s.tables u;
      count = ap (λ (ts : BTreeMap (List ℕ) Table). length ts.entries) a.tables_are ∙ s.count;
      drawn = λ u x found. s.drawn u x (sym (here u) ∙ found);
      parts = λ u x found. parts_at u x (sym (here u) ∙ found);
      no_other = λ u none. none_at u (sym (here u) ∙ none);
      mutations = λ u. same_queue old new a.mutations_are u ∙ s.mutations u;
      unaltered = s.unaltered;
    }
