-- What is known of a snapshot, and of a work, as a lock hands them out.
use Rattle.std.proofs.Common.{◌≡◌, ℕ, ◌++◌, true, false, drop, get_or, List, Option, Some, None, length, map, All, refl, sym, ap, ◌∙◌, subst, arith}
use Rattle.std.specs.List.{AllZip}
use Rattle.std.specs.Option.{MatchOption, option_map}
use Rattle.std.proofs.lemmas.List.Elements.{All-contains, All-drop, All-take, Contains-get_or, filter_passes}
use Rattle.mt_base.specs.declared.partition.Partition.{Partition}
use Rattle.mt_values.specs.declared.schema.Schema.{Schema}
use Rattle.mt_values.specs.Tables.{same_partition}
use Rattle.mt_values.specs.Values.{Row}
use Rattle.mt_outside.specs.Files.{Files}
use Rattle.root_commits.specs.mt_model.History.{History, IsTableSchema}
use Rattle.root_commits.specs.mutation_queue.declared.scope.Scope.{Scope}
use Rattle.root_commits.specs.part_history.Parts.{PartStands}
use Rattle.root_commits.specs.part_name.declared.part.PartName.{PartName}
use Rattle.root_commits.specs.part_reader.declared.reading.Part.{Part}
use Rattle.root_commits.specs.part_reader.Parts.{PartHolds}
use Rattle.root_commits.specs.part_set.declared.kept.Kept.{Kept}
use Rattle.root_commits.specs.part_set.declared.kept.Snap.{Snap}
use Rattle.root_commits.specs.part_set.declared.run.Run.{Run}
use Rattle.root_commits.specs.part_set.Parts.{IsInBlockOrder, kept_in}
use Rattle.root_commits.specs.part_set.Runs.{EndsInOrder, parts_of_run}
use Rattle.root_commits.specs.part_set.Sets.{parts_of}
use Rattle.root_commits.specs.root_store.declared.store.CoreStore.{CoreStore}
use Rattle.root_commits.specs.root_store.declared.store.Table.{Table}
use Rattle.root_commits.specs.root_store.Soundness.{HoldsRows}
use Rattle.root_commits.specs.root_store.Stores.{table_at}
use Rattle.root_commits.proofs.MergedNames.{of_run}
use Rattle.root_commits.proofs.PartSetShelving.{mine_within}
use Rattle.root_commits.proofs.RunStands.{run_held, run_reach, run_rows}
use Rattle.shared_store.specs.declared.work.Work.{Work}
use Rattle.shared_store.specs.Engines.{IsOpen, IsSnapOf, Opened, Snaps, choice_of, schema_kept}
use Rattle.shared_store.specs.Handed.{AreNeighbours, GivesSchema, IsHanded, IsPinned, IsSchemaOf, Pins, SourcesHold}
use Rattle.shared_store.specs.Levels.{any_greatest}
use Rattle.shared_store.specs.Sharing.{AtOpening, IsShared, Shown, schema_there}
use Rattle.shared_store.specs.Stood.{Premise, is_listed, is_told}
use Rattle.shared_store.specs.Works.{IsPicked, TakesUp, TakesWork, parts_beside}
use Rattle.shared_store.proofs.Neighbours.{run_neighbours, run_ordered}
use Rattle.shared_store.proofs.Picked.{picked_low}
use Rattle.shared_store.proofs.Standing.{long_run, ordered_before, partition_is}

module _ {F : Type 0} (files_of : F → Option Files) (given : Premise → Type 0) (before : History) (o : AtOpening) (s : Shown F) (shared : IsShared files_of given before o s) (ready : IsOpen s.root) where
  -- the lists have each table with the schema that the store has
  there_schema : (table : List ℕ) (t : Table) → table_at s.root.store table ≡ Some t → schema_there o.tables s.list table ≡ Some t.schema
  there_schema table t at = sym (shared.fits.schemas table) ∙ ap schema_kept at

  -- ---- schemas

  kept_is : (x : Option Table) → option_map (λ (t : Table). t.schema) x ≡ schema_kept x
  kept_is None = refl
  kept_is (Some t) = refl

  -- it is the one of the whole history
  whole_schema : (table : List ℕ) → IsSchemaOf given before o.tables s.list table
  whole_schema table = λ told known.
      let stands = (shared.stood.listed told known).stands in
      sym (stands.tables table) ∙ (kept_is (table_at s.root.store table) ∙ shared.fits.schemas table)

  pub gives_schema : (table : List ℕ) (found : Option Schema) → found ≡ schema_kept (table_at s.root.store table) → GivesSchema given before o.tables s.list table found
  gives_schema table found is =
      (is ∙ shared.fits.schemas table, subst (λ (f : Option Schema). MatchOption f (Unit {0}) IsTableSchema) (sym is) (by (table_at s.root.store table) refl), whole_schema table)
    where
      by : (x : Option Table) → table_at s.root.store table ≡ x → MatchOption (schema_kept x) (Unit {0}) IsTableSchema
      by None at = tt
      by (Some t) at = (ready.sound.tables table t at).schema

  -- ---- snapshots

  pinned : (table : List ℕ) (snap : Snap (Part F)) → IsSnapOf s.root.store table snap → IsPinned files_of given before o s.list table snap
  pinned table snap is = record {
    there = there_schema table is.made is.there ∙ ap (λ (x : Schema). Some x) (sym is.schema);
    schema = subst IsTableSchema (sym is.schema) (ready.sound.tables table is.made is.there).schema;
    ordered = is.ordered;
    length_is = is.length_is ∙ shared.fits.length_is;
    shows = λ told known. record { store = s.root.store; stands = (shared.stood.listed told known).stands; snap_is = is };
    held = λ told held.
        subst (λ (x : Schema). All (HoldsRows files_of x) snap.parts.items) (sym is.schema)
        (subst (All (HoldsRows files_of is.made.schema)) (sym is.parts) (shared.stood.held told held table is.made is.there));
  }

  pub pins : (table : List ℕ) (found : Option (Snap (Part F))) → Snaps s.root.store table found → Pins files_of given before o s.list table found
  pins table None none = (whole_schema table, sym (shared.fits.schemas table) ∙ ap schema_kept none)
  pins table (Some snap) is = (whole_schema table, pinned table snap is)

  -- ---- works

  module _ (now : CoreStore F) (work : Work F) (run : Run) (t : TakesUp s.root.store now work run) where
    abbrev run_parts : List (Kept (Part F))
    run_parts = parts_of_run run (parts_beside s.root.store work)

    -- the parts of its table stand in block order
    in_order : IsInBlockOrder (parts_of s.root.store.set work.table)
    in_order = ordered_before work.partition run true (parts_of s.root.store.set work.table) (parts_of now.set work.table) t.marks.marked t.marks.ordered

    in_ends : All EndsInOrder (parts_of s.root.store.set work.table)
    in_ends = (ready.sound.tables work.table t.made t.there).order

    sources_hold : given is_told → given is_listed → SourcesHold files_of (before ++ s.list) work
    sources_hold told known =
        let stands = (shared.stood.listed told known).stands in
        let rows = run_rows files_of s.root.store work.table work.partition run t.made t.there t.is (before ++ s.list) stands in
        record {
          legal = stands.legal;
          there = whole_schema work.table told known ∙ (there_schema work.table t.made t.there ∙ ap (λ (x : Schema). Some x) (sym t.schema_is));
          inputs = rows;
          hold =
              subst (λ (x : Schema). AllZip (λ (k : Kept (Part F)) (r : List Row). PartHolds files_of x k.part r) work.sources.items rows) (sym t.schema_is)
              (subst (λ (ks : List (Kept (Part F))). AllZip (λ (k : Kept (Part F)) (r : List Row). PartHolds files_of t.made.schema k.part r) ks rows) (sym t.sources_are)
              (run_held files_of s.root.store work.table work.partition run t.made t.there t.is (before ++ s.list) stands));
          reach =
              subst (λ (ks : List (Kept (Part F))). AllZip (λ (name : PartName) (r : List Row). PartStands (before ++ s.list) (record { table = work.table; name = name; rows = r })) (map (λ (k : Kept (Part F)). k.name) ks) rows)
              (sym t.sources_are) (run_reach files_of s.root.store work.table work.partition run t.made t.there t.is (before ++ s.list) stands);
          neighbours =
              subst (λ (ks : List (Kept (Part F))). AreNeighbours (before ++ s.list) work.table work.partition (map (λ (k : Kept (Part F)). k.name) ks)) (sym t.sources_are)
              (run_neighbours files_of s.root.store work.table work.partition run t.made t.there (before ++ s.list) stands in_order in_ends);
        }

    -- the parts of a run are among those of their table
    sources_among : (P : Kept (Part F) → Type 0) → All P (parts_of s.root.store.set work.table) → All P run_parts
    sources_among P all = λ i d inside.
        let k = Contains-get_or run_parts i d inside in
        All-contains P (parts_of s.root.store.set work.table) _ all (mine_within work.partition (parts_of s.root.store.set work.table) _ (of_run run (parts_beside s.root.store work) _ k))

    -- and of one partition
    sources_own : All (λ (k : Kept (Part F)). k.name.partition ≡ work.partition) run_parts
    sources_own =
        let parts = parts_of s.root.store.set work.table in
        let is_own = λ (k : Kept (Part F)). same_partition k.name.partition work.partition in
        let passes = All-take (λ (k : Kept (Part F)). is_own k ≡ true) run.count (drop run.first (kept_in work.partition parts)) (All-drop (λ (k : Kept (Part F)). is_own k ≡ true) run.first (kept_in work.partition parts) (filter_passes is_own parts)) in
        λ i d inside. partition_is (get_or run_parts i d).name.partition work.partition (passes i d inside)

    pub handed : IsHanded files_of given before o s.list work
    handed = record {
      some = (let long = long_run run (parts_beside s.root.store work) t.is in let one = t.is.some in let same = ap (λ (ks : List (Kept (Part F))). length ks) t.sources_are in omega (arith, long, one, same));
      own = subst (All (λ (k : Kept (Part F)). k.name.partition ≡ work.partition)) (sym t.sources_are) sources_own;
      ordered = subst (λ (ks : List (Kept (Part F))). IsInBlockOrder ks) (sym t.sources_are) (run_ordered s.root.store work.table work.partition run in_order);
      there = there_schema work.table t.made t.there ∙ ap (λ (x : Schema). Some x) (sym t.schema_is);
      schema = subst IsTableSchema (sym t.schema_is) (ready.sound.tables work.table t.made t.there).schema;
      reach = sources_hold;
      held = λ told held.
          subst (λ (x : Schema). All (HoldsRows files_of x) work.sources.items) (sym t.schema_is)
          (subst (All (HoldsRows files_of t.made.schema)) (sym t.sources_are) (sources_among (HoldsRows files_of t.made.schema) (shared.stood.held told held work.table t.made t.there)));
    }

-- the pair that a policy takes has no part of the greatest level
pub pair_low : {F : Type 0} (was now : Opened F) (work : Work F) (scope : Scope) (run : Run) → IsPicked (choice_of was) scope work run → TakesWork was now work run → any_greatest work.sources.items ≡ false
pair_low {F} was now work scope run picked takes =
    let pick = picked.pick in
    let set = was.store.set in
    ap (λ (ks : List (Kept (Part F))). any_greatest ks)
    (takes.takes.sources_are
    ∙ (ap (λ (r : Run). parts_of_run r (kept_in work.partition (parts_of set work.table))) picked.run_is
    ∙ (ap (λ (q : Partition). parts_of_run pick.run (kept_in q (parts_of set work.table))) picked.partition_is ∙ ap (λ (t : List ℕ). parts_of_run pick.run (kept_in pick.partition (parts_of set t))) picked.table_is)))
    ∙ picked_low (choice_of was) scope pick picked.is
