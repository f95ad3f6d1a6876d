-- A work whose sources stand, and turns of another work that has no source in common with it.
use Rattle.std.proofs.Common.{◌≡◌, ◌≢◌, ◌⊎◌, inl, inr, ℕ, true, false, List, [], ◌∷◌, ◌++◌, map, Option, Some, None, Result, Ok, Err, sym, ap, ◌∙◌, subst, ◌+◌, ◌<◌, arith, refl}
use Rattle.std.proofs.lemmas.Bool.{false≢true}
use Rattle.std.proofs.lemmas.List.Elements.{All-cons, All-contains, All-nil}
use Rattle.std.specs.BTreeMap.{BTreeMap, is_at}
use Rattle.std.specs.Cmp.Lexicographic.{slice_cmp}
use Rattle.std.specs.List.{All, Contains as HasItem}
use Rattle.std.specs.Map.{lookup}
use Rattle.std.specs.Ordering.{nat_cmp}
use Rattle.mt_base.specs.declared.partition.Partition.{Partition}
use Rattle.mt_values.specs.declared.command.Create.{Create}
use Rattle.mt_values.specs.Grammar.{same_bytes}
use Rattle.mt_values.specs.Tables.{same_partition}
use Rattle.mt_outside.specs.Files.{Files}
use Rattle.root_commits.proofs.MtModelTables.{same_is}
use Rattle.root_commits.specs.part_name.declared.part.PartName.{PartName}
use Rattle.root_commits.specs.part_reader.declared.reading.Part.{Part}
use Rattle.root_commits.specs.part_writer.declared.loaded.Loaded.{Loaded}
use Rattle.root_commits.specs.part_set.declared.kept.Kept.{Kept}
use Rattle.root_commits.specs.part_set.declared.run.Run.{Run}
use Rattle.root_commits.specs.part_set.declared.set.PartSet.{PartSet}
use Rattle.root_commits.specs.part_set.Parts.{IsInBlockOrder, kept_in}
use Rattle.root_commits.specs.part_set.Runs.{IsBusyRun, IsRun, parts_of_run, with_mark}
use Rattle.root_commits.specs.part_set.Sets.{parts_of}
use Rattle.root_commits.specs.stage_dir.Stages.{Filled}
use Rattle.root_commits.proofs.PartSetMaps.{true_or_false}
use Rattle.root_commits.proofs.PartSetShelving.{mine_within}
use Rattle.root_commits.proofs.RootStoreItems.{map_item, mapped}
use Rattle.root_commits.specs.root_store.declared.store.CoreStore.{CoreStore}
use Rattle.root_commits.specs.root_store.declared.store.Table.{Table}
use Rattle.root_commits.specs.root_store.Stores.{fresh_table, table_at}
use Rattle.root_commits.proofs.Updated.{IsItOr, it_or, no_some, one_some}
use Rattle.root_commits.specs.root_store.Soundness.{IsSoundStore, IsSoundTable}
use Rattle.root_commits.specs.declared.commits.Returned.{Returned}
use Rattle.root_commits.specs.Commits.{EntersPart, SameStore, fresh_part}
use Rattle.root_commits.specs.Merges.{EntersMerge}
use Rattle.root_commits.specs.Publications.{Adding, partition_of_adding}
use Rattle.root_commits.specs.Turns.{CommitsCreate, CommitsPart, Root}
use Rattle.root_commits.proofs.MergedNames.{of_run, run_partition}
use Rattle.shared_store.specs.declared.work.Put.{Put}
use Rattle.shared_store.specs.declared.work.Put.TheVariants as put
use Rattle.shared_store.specs.declared.work.Work.{Work}
use Rattle.shared_store.specs.Engines.{IsOpen, Opened, root_in}
use Rattle.shared_store.specs.Works.{AreApart, Marks, PutsRun, PutsWork, SourcesStand, TakesUp, WorkStands, merging_of, names_of_work, parts_beside}
use Rattle.shared_store.proofs.Freed.{clears_beside}
use Rattle.shared_store.proofs.Merging.{merges_done, merges_refused}
use Rattle.shared_store.proofs.Standing.{marked_own, mine_long, mine_ordered, one_named, ordered_before, own_of, partition_itself, stands_added, stands_beside}
use Rattle.shared_store.proofs.Working.{long_of, other_by_bytes}

module _ {F : Type 0} where
  abbrev name_of : Kept (Part F) → PartName
  name_of k = k.name

  -- no part of the one run is one of the other
  abbrev HaveNone : CoreStore F → Work F → Run → Work F → Run → Type 0
  HaveNone store work run other o = (k : Kept (Part F)) → HasItem (parts_of_run run (parts_beside store work)) k → HasItem (parts_of_run o (parts_beside store other)) k → ⊥

  -- ---- others in the place of a run

  module _ (was now : CoreStore F) (sound : IsSoundStore was) (work : Work F) (run : Run) (is_run : IsRun run (parts_beside was work)) (ordered : IsInBlockOrder (parts_beside was work))
      (front back middle : List (Kept (Part F))) (before_is : parts_of was.set work.table ≡ front ++ (parts_of_run run (parts_beside was work) ++ back)) (after_is : parts_of now.set work.table ≡ front ++ (middle ++ back))
      (own : All (λ (k : Kept (Part F)). own_of work.partition k ≡ true) middle) (others : (u : List ℕ) → u ≢ work.table → parts_of now.set u ≡ parts_of was.set u) (other : Work F) (o : Run) where
    abbrev StandsOnIn : List ℕ → Type 0
    StandsOnIn u =
        IsBusyRun o (names_of_work other) (kept_in other.partition (parts_of was.set u))
        → ((k : Kept (Part F)) → HasItem (parts_of_run run (parts_beside was work)) k → HasItem (parts_of_run o (kept_in other.partition (parts_of was.set u))) k → ⊥)
        → (again : Run) × IsBusyRun again (names_of_work other) (kept_in other.partition (parts_of now.set u))

    here : StandsOnIn work.table
    here =
        stands_beside work.partition run (parts_of was.set work.table) (parts_of now.set work.table) is_run ordered (mine_long work.partition (parts_of was.set work.table) (long_of was sound work.table)) front back middle before_is after_is own
        (names_of_work other) o other.partition

    pub stands_on : SourcesStand was other o → (work.table ≡ other.table → HaveNone was work run other o) → (again : Run) × SourcesStand now other again
    stands_on stands apart = by (true_or_false (same_bytes work.table other.table))
      where
        by : (same_bytes work.table other.table ≡ true) ⊎ (same_bytes work.table other.table ≡ false) → (again : Run) × SourcesStand now other again
        by (inl same) = let table = same_is work.table other.table same in subst StandsOnIn table here stands (apart table)
        by (inr differ) =
            (o, subst (λ (ks : List (Kept (Part F))). IsBusyRun o (names_of_work other) (kept_in other.partition ks)) (sym (others other.table (other_by_bytes work.table other.table differ))) stands)

  -- ---- the sources of works

  -- works without a common source stand in runs without a common part
  pub apart_none : (store : CoreStore F) (work other : Work F) (run o : Run) → AreApart work other → SourcesStand store work run → SourcesStand store other o → work.table ≡ other.table → HaveNone store work run other o
  apart_none store work other run o apart stands stands_other table k has has_other =
      apart table k.name
      (subst (λ (ns : List PartName). HasItem ns k.name) stands.named (map_item name_of (parts_of_run run (parts_beside store work)) k has))
      (subst (λ (ns : List PartName). HasItem ns k.name) stands_other.named (map_item name_of (parts_of_run o (parts_beside store other)) k has_other))

  -- a part of a run is one of its table
  in_table : (store : CoreStore F) (work : Work F) (run : Run) (k : Kept (Part F)) → HasItem (parts_of_run run (parts_beside store work)) k → HasItem (parts_of store.set work.table) k
  in_table store work run k has = mine_within work.partition (parts_of store.set work.table) k (of_run run (parts_beside store work) k has)

  -- marks on a run, or none any more
  module _ (was now : CoreStore F) (sound : IsSoundStore was) (work other : Work F) (run o : Run) (is_run : IsRun run (parts_beside was work)) (m : Marks work run was now) where
    ordered_was : IsInBlockOrder (parts_of was.set work.table)
    ordered_was = ordered_before work.partition run true (parts_of was.set work.table) (parts_of now.set work.table) m.marked m.ordered

    mine_order : IsInBlockOrder (parts_beside was work)
    mine_order = mine_ordered work.partition (parts_of was.set work.table) ordered_was

    pub stands_on_marked : SourcesStand was other o → (work.table ≡ other.table → HaveNone was work run other o) → (again : Run) × SourcesStand now other again
    stands_on_marked =
        stands_on was now sound work run is_run mine_order m.marked.front m.marked.back (map (with_mark true) (parts_of_run run (parts_beside was work))) m.marked.before_is m.marked.after_is
        (marked_own work.partition run (parts_of was.set work.table) is_run mine_order (mine_long work.partition (parts_of was.set work.table) (long_of was sound work.table)) true (parts_of now.set work.table) m.marked) m.others other o

  -- ---- a work is taken up

  module _ (was now : CoreStore F) (sound : IsSoundStore was) (work other : Work F) (run o : Run) (t : TakesUp was now work run) (stands : SourcesStand was other o) where
    taken_idle : All (λ (k : Kept (Part F)). k.busy ≡ false) (parts_of_run run (parts_beside was work))
    taken_idle = subst (All (λ (k : Kept (Part F)). k.busy ≡ false)) t.sources_are t.idle

    -- what bore no mark is no source of one whose sources bear marks
    taken_none : HaveNone was work run other o
    taken_none k has has_other =
        false≢true (sym (All-contains (λ (l : Kept (Part F)). l.busy ≡ false) (parts_of_run run (parts_beside was work)) k taken_idle has)
        ∙ All-contains (λ (l : Kept (Part F)). l.busy ≡ true) (parts_of_run o (parts_beside was other)) k stands.busy has_other)

    pub taken_apart : AreApart work other
    taken_apart table name has has_other =
        let one = mapped name_of (parts_of_run run (parts_beside was work)) name (subst (λ (ks : List (Kept (Part F))). HasItem (map name_of ks) name) t.sources_are has) in
        let two = mapped name_of (parts_of_run o (parts_beside was other)) name (subst (λ (ns : List PartName). HasItem ns name) (sym stands.named) has_other) in
        let in_one = in_table was work run one.0 one.1 in
        let in_two = subst (λ (u : List ℕ). HasItem (parts_of was.set u) two.0) (sym table) (in_table was other o two.0 two.1) in
        let same : one.0 ≡ two.0 =
        one_named (parts_of was.set work.table) (ordered_was was now sound work other run o t.is t.marks) (long_of was sound work.table) one.0 two.0 in_one in_two (one.2 ∙ sym two.2) in
        taken_none one.0 one.1 (subst (HasItem (parts_of_run o (parts_beside was other))) (sym same) two.1)

    pub taken_beside : (again : Run) × SourcesStand now other again
    taken_beside = stands_on_marked was now sound work other run o t.is t.marks stands (λ table. taken_none)

  -- ---- it is put, or let go

  module _ (was now : Opened F) (work other : Work F) (o : Run) (ready : IsOpen was) (apart : AreApart work other) (stands : SourcesStand was.store other o) where
    none_of : (run : Run) → SourcesStand was.store work run → work.table ≡ other.table → HaveNone was.store work run other o
    none_of run there = apart_none was.store work other run o apart there stands

    run_beside : {T S : Type 0} (files_of : F → Option Files) (sealed : Filled) (loaded : Loaded) (part : S) (result : Result T (Returned S)) → PutsRun files_of work sealed loaded was now part result → (again : Run) × SourcesStand now.store other again
    run_beside {T} {S} files_of sealed loaded part (Ok x) p =
        let m = merging_of work p.run sealed loaded in
        let d = merges_done files_of m (root_in was) p.mid part x p.merges in
        let e : EntersMerge files_of m d.0 was.store now.store = subst (λ (r : Root F). EntersMerge files_of m d.0 was.store r.store) (sym p.left) d.1.enters in
        let k : Kept (Part F) = record { name = d.0; part = e.part; busy = false } in
        let partition : d.0.partition ≡ work.partition =
        run_partition (parts_of was.store.set work.table) work.partition p.run d.1.from.ordered (long_of was.store ready.sound work.table) d.0 d.1.from.named in
        let own : own_of work.partition k ≡ true = ap (λ (q : Partition). same_partition q work.partition) partition ∙ partition_itself work.partition in
        stands_on was.store now.store ready.sound work p.run p.there.is d.1.from.ordered e.swapped.front e.swapped.back (k ∷ []) e.swapped.before_is e.swapped.after_is
        (All-cons (λ (l : Kept (Part F)). own_of work.partition l ≡ true) k [] own (All-nil (λ (l : Kept (Part F)). own_of work.partition l ≡ true))) e.others other o stands (none_of p.run p.there)
    run_beside {T} {S} files_of sealed loaded part (Err r) p =
        let same = merges_refused files_of (merging_of work p.run sealed loaded) (root_in was) p.mid part T r p.merges in
        (o, clears_beside work p.mid (root_in now) p.left other o apart (subst (λ (ks : List (Kept (Part F))). IsBusyRun o (names_of_work other) (kept_in other.partition ks)) (sym (same.parts other.table)) stands))

    pub put_beside : {S : Type 0} (files_of : F → Option Files) (sealed : Filled) (loaded : Loaded) (part : S) (result : Result (Put S) (Returned S)) → PutsWork files_of work sealed loaded was now part result → (again : Run) × SourcesStand now.store other again
    put_beside files_of sealed loaded part (Ok (put.Gone name back)) gone = (o, clears_beside work (root_in was) (root_in now) gone.clears other o apart stands)
    put_beside files_of sealed loaded part (Ok put.Done) p = run_beside files_of sealed loaded part (Ok put.Done) p
    put_beside files_of sealed loaded part (Err r) p = run_beside files_of sealed loaded part (Err r) p

  -- ---- a command is committed

  module _ (was now : Opened F) (other : Work F) (o : Run) (ready : IsOpen was) (stands : SourcesStand was.store other o) where
    abbrev StandsAmong : List (Kept (Part F)) → Type 0
    StandsAmong ks = IsBusyRun o (names_of_work other) (kept_in other.partition ks)

    same_beside : SameStore was.store now.store → SourcesStand now.store other o
    same_beside same = subst StandsAmong (sym (same.parts other.table)) stands

    pub create_beside : {T S : Type 0} (session : ℕ) (create : Create) (entry : Filled) (sealed : S) (result : Result T (Returned S)) → CommitsCreate session create entry (root_in was) (root_in now) sealed result → SourcesStand now.store other o
    create_beside session create entry sealed (Ok x) d = subst (λ (set : PartSet (Part F)). StandsAmong (parts_of set other.table)) (sym d.enters.set_is) stands
    create_beside session create entry sealed (Err r) d = same_beside d.enters

    pub insert_beside : {T S : Type 0} (files_of : F → Option Files) (a : Adding) (sealed : S) (result : Result T (Returned S)) → CommitsPart files_of a (root_in was) (root_in now) sealed result → SourcesStand now.store other o
    insert_beside files_of a sealed (Err r) d = same_beside d.enters
    insert_beside files_of a sealed (Ok x) d = by (true_or_false (same_bytes a.table other.table))
      where
        p : Partition
        p = partition_of_adding a

        e : EntersPart a.table p d.enters.part a.kept was.store now.store
        e = d.enters.enters

        k : Kept (Part F)
        k = record { name = fresh_part p (a.kept.drawn + 1); part = d.enters.part; busy = false }

        table : IsSoundTable was.store a.table a.kept
        table = ready.sound.tables a.table a.kept e.there

        last : All (λ (x : Kept (Part F)). x.name.max_block < a.kept.drawn + 1) (parts_of was.store.set a.table)
        last i d inside = let ends = table.ends i d inside in omega (arith, ends)

        here : StandsAmong (parts_of was.store.set a.table) → StandsAmong (parts_of now.store.set a.table)
        here = stands_added p (parts_of was.store.set a.table) (parts_of now.store.set a.table) k e.added.place e.added.is e.ordered refl table.order last other.partition (names_of_work other) o

        by : (same_bytes a.table other.table ≡ true) ⊎ (same_bytes a.table other.table ≡ false) → SourcesStand now.store other o
        by (inl same) = subst (λ (u : List ℕ). StandsAmong (parts_of was.store.set u) → StandsAmong (parts_of now.store.set u)) (same_is a.table other.table same) here stands
        by (inr differ) = subst StandsAmong (sym (e.others other.table (other_by_bytes a.table other.table differ))) stands

-- ---- their tables and schemas

module _ {F : Type 0} where
  -- a work stands on where its sources do, and its table has the schema that it had
  pub stands_with : (was now : CoreStore F) (other : Work F) (o again : Run) → WorkStands was other o → ((made : Table) → table_at was other.table ≡ Some made → (t : Table) × (table_at now other.table ≡ Some t) × (t.schema ≡ made.schema)) → SourcesStand now other again
      → WorkStands now other again
  stands_with was now other o again w kept sources =
      let t = kept w.made w.there in
      record { sources = sources; made = t.0; there = t.1; schema_is = w.schema_is ∙ sym t.2 }

  abbrev pub KeepsSchema : CoreStore F → CoreStore F → List ℕ → Type 0
  KeepsSchema was now table = (made : Table) → table_at was table ≡ Some made → (t : Table) × (table_at now table ≡ Some t) × (t.schema ≡ made.schema)

  -- the same tables
  pub same_tables : (was now : CoreStore F) → now.tables.entries ≡ was.tables.entries → (table : List ℕ) → KeepsSchema was now table
  same_tables was now same table made there = (made, ap (λ (es : List (List ℕ × Table)). lookup (is_at (slice_cmp nat_cmp table)) es) same ∙ there, refl)

  put_tables : {T S : Type 0} (files_of : F → Option Files) (work : Work F) (sealed : Filled) (loaded : Loaded) (was now : Opened F) (part : S) (result : Result T (Returned S)) → PutsRun files_of work sealed loaded was now part result → now.store.tables.entries ≡ was.store.tables.entries
  put_tables files_of work sealed loaded was now part (Ok x) p =
      let d = merges_done files_of (merging_of work p.run sealed loaded) (root_in was) p.mid part x p.merges in
      ap (λ (r : Root F). r.store.tables.entries) p.left ∙ ap (λ (ts : BTreeMap (List ℕ) Table). ts.entries) d.1.enters.tables_are
  put_tables {T} files_of work sealed loaded was now part (Err r) p =
      p.left.tables ∙ (merges_refused files_of (merging_of work p.run sealed loaded) (root_in was) p.mid part T r p.merges).tables

  pub work_tables : {S : Type 0} (files_of : F → Option Files) (work : Work F) (sealed : Filled) (loaded : Loaded) (was now : Opened F) (part : S) (result : Result (Put S) (Returned S)) → PutsWork files_of work sealed loaded was now part result → now.store.tables.entries ≡ was.store.tables.entries
  work_tables files_of work sealed loaded was now part (Ok (put.Gone name back)) gone = gone.clears.tables
  work_tables files_of work sealed loaded was now part (Ok put.Done) p = put_tables files_of work sealed loaded was now part (Ok put.Done) p
  work_tables files_of work sealed loaded was now part (Err r) p = put_tables files_of work sealed loaded was now part (Err r) p

  -- a table more
  pub create_tables : {T S : Type 0} (session : ℕ) (create : Create) (entry : Filled) (was now : Root F) (sealed : S) (result : Result T (Returned S)) → CommitsCreate session create entry was now sealed result → (table : List ℕ) → KeepsSchema was.store now.store table
  create_tables session create entry was now sealed (Err r) d table made there = same_tables was.store now.store d.enters.tables table made there
  create_tables session create entry was now sealed (Ok x) d table made there = by (it_or was.store now.store create.table (Some (fresh_table create.schema)) d.enters.updates table)
    where
      by : IsItOr was.store now.store create.table (Some (fresh_table create.schema)) d.enters.updates table → (t : Table) × (table_at now.store table ≡ Some t) × (t.schema ≡ made.schema)
      by (inl same) = absurd (no_some (table_at was.store table) made (subst (λ (u : List ℕ). table_at was.store u ≡ None) same d.enters.absent) there)
      by (inr other) = (made, other.1 ∙ there, refl)

  -- a number more was drawn
  pub insert_tables : {T S : Type 0} (files_of : F → Option Files) (a : Adding) (was now : Root F) (sealed : S) (result : Result T (Returned S)) → CommitsPart files_of a was now sealed result → (table : List ℕ) → KeepsSchema was.store now.store table
  insert_tables files_of a was now sealed (Err r) d table made there = same_tables was.store now.store d.enters.tables table made there
  insert_tables files_of a was now sealed (Ok x) d table made there = by (it_or was.store now.store a.table (Some more) d.enters.enters.updates table)
    where
      more : Table
      more = record { schema = a.kept.schema; drawn = a.kept.drawn + 1 }

      by : IsItOr was.store now.store a.table (Some more) d.enters.enters.updates table → (t : Table) × (table_at now.store table ≡ Some t) × (t.schema ≡ made.schema)
      by (inl same) = (
        more,
        subst (λ (u : List ℕ). table_at now.store u ≡ Some more) same d.enters.enters.updates.1,
        ap (λ (t : Table). t.schema) (one_some (table_at was.store table) a.kept made (subst (λ (u : List ℕ). table_at was.store u ≡ Some a.kept) same d.enters.enters.there) there),
      )
      by (inr other) = (made, other.1 ∙ there, refl)
