-- The marks of a work's sources once they were taken away by names, and works whose sources stand beside it.
use Rattle.std.proofs.Common.{◌≡◌, ◌≢◌, ◌⊎◌, inl, inr, ℕ, Bool, true, false, cond, List, [], ◌∷◌, ◌++◌, get_or, map, take, drop, Option, Result, Ok, Err, refl, sym, ap, ap₂, ◌∙◌, subst, arith}
use Rattle.std.proofs.lemmas.Bool.{false_from_ne_true, false≢true}
use Rattle.std.proofs.lemmas.List.{length-map, map-append, take-map, drop-map}
use Rattle.std.proofs.lemmas.List.Elements.{All-append, All-cons, All-contains, All-head, All-map, All-tail, Contains-append_left, Contains-append_right, Contains-get_or}
use Rattle.std.specs.List.{All, Contains as HasItem, list_any}
use Rattle.mt_base.specs.declared.partition.Partition.{Partition}
use Rattle.mt_values.specs.Grammar.{same_bytes}
use Rattle.mt_values.specs.Tables.{same_partition}
use Rattle.mt_outside.specs.Files.{Files}
use Rattle.root_commits.proofs.MtModelTables.{same_is}
use Rattle.root_commits.specs.part_name.declared.part.PartName.{PartName}
use Rattle.root_commits.specs.part_reader.declared.reading.Part.{Part}
use Rattle.root_commits.specs.part_set.declared.kept.Kept.{Kept}
use Rattle.root_commits.specs.part_set.declared.run.Run.{Run}
use Rattle.root_commits.specs.part_set.Parts.{IsInBlockOrder, StandsClear, kept_in, same_part}
use Rattle.root_commits.specs.part_set.Runs.{EndsInOrder, IsBusyRun, IsSwapped, cleared, parts_of_run, with_mark}
use Rattle.root_commits.specs.part_set.Sets.{parts_of}
use Rattle.root_commits.proofs.PartSetClearing.{cleared_name, cleared_named, cleared_other, map_same}
use Rattle.root_commits.proofs.PartSetMaps.{true_or_false}
use Rattle.root_commits.proofs.PartSetShelving.{filter_has}
use Rattle.root_commits.proofs.PartSetSwaps.{pairs_across, pairs_back}
use Rattle.root_commits.specs.part_writer.declared.loaded.Loaded.{Loaded}
use Rattle.root_commits.specs.stage_dir.Stages.{Filled}
use Rattle.root_commits.proofs.RootStoreItems.{map_item, mapped}
use Rattle.root_commits.specs.durable_commit.Publications.{Storage}
use Rattle.root_commits.specs.root_store.declared.store.CoreStore.{CoreStore}
use Rattle.root_commits.specs.root_store.Shown.{HasNoMark}
use Rattle.root_commits.specs.root_store.Soundness.{IsSoundStore}
use Rattle.root_commits.specs.declared.commits.Returned.{Returned}
use Rattle.root_commits.specs.Commits.{SameStore}
use Rattle.root_commits.specs.Merges.{EntersMerge}
use Rattle.root_commits.specs.Turns.{Root}
use Rattle.shared_store.specs.declared.work.Put.{Put}
use Rattle.shared_store.specs.declared.work.Put.TheVariants as put
use Rattle.shared_store.specs.declared.work.Work.{Work}
use Rattle.shared_store.specs.Engines.{IsOpen, Opened, root_in}
use Rattle.shared_store.specs.Works.{AreApart, Clears, NoOtherMark, PutsRun, PutsWork, SourcesAreFree, SourcesStand, TakesUp, merging_of, names_of_work, parts_beside}
use Rattle.shared_store.proofs.Merging.{merges_done, merges_refused}
use Rattle.shared_store.proofs.Standing.{mine_is, mine_long, not_clear, own_of, own_sources}
use Rattle.shared_store.proofs.Working.{long_of, other_by_bytes}

module _ {P : Type 0} where
  abbrev name_of : Kept P → PartName
  name_of k = k.name

  abbrev Idle : Kept P → Type 0
  Idle k = k.busy ≡ false

  -- ---- parts that lost marks

  -- one that bore none bears none
  cleared_idle : (names : List PartName) (k : Kept P) → Idle k → Idle (cleared names k)
  cleared_idle names k idle = by (list_any (same_part k.name) names)
    where
      by : (b : Bool) → Idle (cond b (with_mark false k) k)
      by true = refl
      by false = idle

  cleared_free : (names : List PartName) (k : Kept P) → HasItem names k.name → Idle (cleared names k)
  cleared_free names k has = ap (λ (x : Kept P). x.busy) (cleared_named names k has)

  -- no part has one of the names and a mark
  pub names_free : (names : List PartName) (ks : List (Kept P)) → All (λ (k : Kept P). HasItem names k.name → Idle k) (map (cleared names) ks)
  names_free names ks = All-map (λ (k : Kept P). HasItem names k.name → Idle k) (cleared names) ks (λ i d inside has. cleared_free names (get_or ks i d) (subst (HasItem names) (cleared_name names (get_or ks i d)) has))

  -- where all that bore marks had one of the names, none bears one
  pub all_free : (names : List PartName) (ks : List (Kept P)) → All (λ (k : Kept P). k.busy ≡ true → HasItem names k.name) ks → All Idle (map (cleared names) ks)
  all_free names ks only = All-map Idle (cleared names) ks (λ i d inside. by (get_or ks i d) (get_or ks i d).busy refl (only i d inside))
    where
      by : (k : Kept P) (b : Bool) → k.busy ≡ b → (k.busy ≡ true → HasItem names k.name) → Idle (cleared names k)
      by k true is named = cleared_free names k (named is)
      by k false is named = cleared_idle names k is

  -- ---- a run of others

  kept_cleared : (q : Partition) (names : List PartName) (ks : List (Kept P)) → kept_in q (map (cleared names) ks) ≡ map (cleared names) (kept_in q ks)
  kept_cleared q names [] = refl
  kept_cleared q names (k ∷ ks) =
      ap (λ (n : PartName). cond (same_partition n.partition q) (cleared names k ∷ kept_in q (map (cleared names) ks)) (kept_in q (map (cleared names) ks))) (cleared_name names k)
      ∙ by (same_partition k.name.partition q) (kept_cleared q names ks)
    where
      by : (b : Bool) → kept_in q (map (cleared names) ks) ≡ map (cleared names) (kept_in q ks)
          → cond b (cleared names k ∷ kept_in q (map (cleared names) ks)) (kept_in q (map (cleared names) ks)) ≡ map (cleared names) (cond b (k ∷ kept_in q ks) (kept_in q ks))
      by true rest = ap (λ (xs : List (Kept P)). cleared names k ∷ xs) rest
      by false rest = rest

  run_cleared : (names : List PartName) (o : Run) (ks : List (Kept P)) → ((k : Kept P) → HasItem (parts_of_run o ks) k → HasItem names k.name → ⊥) → parts_of_run o (map (cleared names) ks) ≡ parts_of_run o ks
  run_cleared names o ks apart =
      ap (λ (xs : List (Kept P)). take o.count xs) (drop-map (cleared names) o.first ks) ∙ (take-map (cleared names) o.count (drop o.first ks)
      ∙ map_same (cleared names) (parts_of_run o ks) (λ i d inside. cleared_other names (get_or (parts_of_run o ks) i d) (apart (get_or (parts_of_run o ks) i d) (Contains-get_or (parts_of_run o ks) i d inside))))

  -- a run none of whose parts has one of the names stands on
  pub stands_cleared : (q : Partition) (names others : List PartName) (o : Run) (ks : List (Kept P)) → ((n : PartName) → HasItem names n → HasItem others n → ⊥) → IsBusyRun o others (kept_in q ks) → IsBusyRun o others (kept_in q (map (cleared names) ks))
  stands_cleared q names others o ks apart stands = subst (IsBusyRun o others) (sym (kept_cleared q names ks)) (record {
    is = record { some = stands.is.some; within = (let long = length-map (kept_in q ks) (cleared names) in let within = stands.is.within in omega (arith, long, within)) };
    named = ap (λ (xs : List (Kept P)). map name_of xs) same ∙ stands.named;
    busy = subst (All (λ (k : Kept P). k.busy ≡ true)) (sym same) stands.busy;
  })
    where
      same : parts_of_run o (map (cleared names) (kept_in q ks)) ≡ parts_of_run o (kept_in q ks)
      same = run_cleared names o (kept_in q ks) (λ k has named. apart k.name named (subst (λ (ns : List PartName). HasItem ns k.name) stands.named (map_item name_of (parts_of_run o (kept_in q ks)) k has)))

module _ {F : Type 0} where
  -- ---- what is left of marks

  module _ (work : Work F) (was now : Root F) (c : Clears work was now) where
    pub clears_free : SourcesAreFree now.store work
    clears_free = subst (All (λ (k : Kept (Part F)). HasItem (names_of_work work) k.name → k.busy ≡ false)) (sym c.cleared_are) (names_free (names_of_work work) (parts_of was.store.set work.table))

    pub clears_all : NoOtherMark was.store work → HasNoMark now.store
    clears_all only u = by (true_or_false (same_bytes work.table u))
      where
        by : (same_bytes work.table u ≡ true) ⊎ (same_bytes work.table u ≡ false) → All Idle (parts_of now.store.set u)
        by (inl same) =
            subst (λ (v : List ℕ). All Idle (parts_of now.store.set v)) (same_is work.table u same)
            (subst (All Idle) (sym c.cleared_are) (all_free (names_of_work work) (parts_of was.store.set work.table) (λ i d inside busy. (only work.table i d inside busy).1)))
        by (inr differ) =
            let other = other_by_bytes work.table u differ in
            subst (All Idle) (sym (c.others u other)) (λ i d inside. false_from_ne_true (get_or (parts_of was.store.set u) i d).busy (λ busy. other (only u i d inside busy).0))

    -- the sources of another work stand on
    pub clears_beside : (other : Work F) (o : Run) → AreApart work other → SourcesStand was.store other o → SourcesStand now.store other o
    clears_beside other o apart stands = by (true_or_false (same_bytes work.table other.table))
      where
        Among : List (Kept (Part F)) → Type 0
        Among ks = IsBusyRun o (names_of_work other) (kept_in other.partition ks)

        by : (same_bytes work.table other.table ≡ true) ⊎ (same_bytes work.table other.table ≡ false) → SourcesStand now.store other o
        by (inl same) =
            let table = same_is work.table other.table same in
            subst (λ (u : List ℕ). Among (parts_of was.store.set u) → Among (parts_of now.store.set u)) table
            (λ here. subst Among (sym c.cleared_are) (stands_cleared other.partition (names_of_work work) (names_of_work other) o (parts_of was.store.set work.table) (apart table) here)) stands
        by (inr differ) = subst Among (sym (c.others other.table (other_by_bytes work.table other.table differ))) stands

  -- ---- a work that was taken up

  -- no part bears a mark then but for its sources, where none bore one
  pub taken_marks : (before now : CoreStore F) (work : Work F) (run : Run) → HasNoMark before → TakesUp before now work run → NoOtherMark now work
  taken_marks before now work run none t u = by (true_or_false (same_bytes work.table u))
    where
      Own : List ℕ → Kept (Part F) → Type 0
      Own v k = k.busy ≡ true → (v ≡ work.table) × HasItem (names_of_work work) k.name

      ks : List (Kept (Part F))
      ks = parts_of_run run (parts_beside before work)

      idle_own : (v : List ℕ) (ls : List (Kept (Part F))) → ((k : Kept (Part F)) → HasItem ls k → Idle k) → All (Own v) ls
      idle_own v ls idle i d inside busy = absurd (false≢true (sym (idle (get_or ls i d) (Contains-get_or ls i d inside)) ∙ busy))

      was : (k : Kept (Part F)) → HasItem (t.marks.marked.front ++ (ks ++ t.marks.marked.back)) k → Idle k
      was k has = All-contains Idle (parts_of before.set work.table) k (none work.table) (subst (λ (ls : List (Kept (Part F))). HasItem ls k) (sym t.marks.marked.before_is) has)

      marked_own : All (Own work.table) (map (with_mark true) ks)
      marked_own = All-map (Own work.table) (with_mark true) ks (λ i d inside busy. (
        refl,
        subst (λ (ls : List (Kept (Part F))). HasItem (map name_of ls) (get_or ks i d).name) (sym t.sources_are) (map_item name_of ks (get_or ks i d) (Contains-get_or ks i d inside)),
      ))

      here : All (Own work.table) (parts_of now.set work.table)
      here =
          let x = t.marks.marked in
          subst (All (Own work.table)) (sym x.after_is)
          (All-append (Own work.table) x.front (map (with_mark true) ks ++ x.back) (idle_own work.table x.front (λ k has. was k (Contains-append_left x.front (ks ++ x.back) k has)))
          (All-append (Own work.table) (map (with_mark true) ks) x.back marked_own (idle_own work.table x.back (λ k has. was k (Contains-append_right x.front (ks ++ x.back) k (Contains-append_right ks x.back k has))))))

      by : (same_bytes work.table u ≡ true) ⊎ (same_bytes work.table u ≡ false) → All (Own u) (parts_of now.set u)
      by (inl same) = subst (λ (v : List ℕ). All (Own v) (parts_of now.set v)) (same_is work.table u same) here
      by (inr differ) = subst (All (Own u)) (sym (t.marks.others u (other_by_bytes work.table u differ))) (idle_own u (parts_of before.set u) (λ k has. All-contains Idle (parts_of before.set u) k (none u) has))

  -- ---- one part stands in place of the sources

  module _ (was now : CoreStore F) (sound : IsSoundStore was) (work : Work F) (run : Run) (stands : SourcesStand was work run) (ordered : IsInBlockOrder (parts_beside was work)) (k : Kept (Part F)) (idle : Idle k)
      (x : IsSwapped work.partition run k (parts_of was.set work.table) (parts_of now.set work.table)) (others : (u : List ℕ) → u ≢ work.table → parts_of now.set u ≡ parts_of was.set u) where
    abbrev parts : List (Kept (Part F))
    parts = parts_of was.set work.table

    abbrev sources : List (Kept (Part F))
    sources = parts_of_run run (parts_beside was work)

    abbrev Clear : Kept (Part F) → Kept (Part F) → Type 0
    Clear a b = StandsClear a.name b.name

    long : All EndsInOrder parts
    long = long_of was sound work.table

    long_there : (y : Kept (Part F)) → HasItem (x.front ++ (sources ++ x.back)) y → EndsInOrder y
    long_there y has = All-contains EndsInOrder parts y long (subst (λ (ls : List (Kept (Part F))). HasItem ls y) (sym x.before_is) has)

    mine_ends : All EndsInOrder (parts_beside was work)
    mine_ends = mine_long work.partition parts long

    in_order : IsInBlockOrder (kept_in work.partition x.front ++ (sources ++ kept_in work.partition x.back))
    in_order = subst (λ (ls : List (Kept (Part F))). IsInBlockOrder ls) (mine_is work.partition run parts stands.is ordered mine_ends x.front x.back x.before_is) ordered

    -- the sources are the only parts that have their names
    beside_none : (y : Kept (Part F)) → HasItem x.front y ⊎ HasItem x.back y → HasItem (names_of_work work) y.name → ⊥
    beside_none y beside named = by beside
      where
        z : (s : Kept (Part F)) × HasItem sources s × (s.name ≡ y.name)
        z = mapped name_of sources y.name (subst (λ (ns : List PartName). HasItem ns y.name) (sym stands.named) named)

        own : own_of work.partition y ≡ true
        own =
            subst (λ (n : PartName). same_partition n.partition work.partition ≡ true) z.2
            (All-contains (λ (s : Kept (Part F)). own_of work.partition s ≡ true) sources z.0 (own_sources work.partition run parts stands.is ordered mine_ends) z.1)

        by : HasItem x.front y ⊎ HasItem x.back y → ⊥
        by (inl front) =
            not_clear y z.0 (long_there y (Contains-append_left x.front (sources ++ x.back) y front)) (sym z.2)
            (pairs_across Clear (kept_in work.partition x.front) (sources ++ kept_in work.partition x.back) in_order y z.0 (filter_has (own_of work.partition) x.front y front own) (Contains-append_left sources (kept_in work.partition x.back) z.0 z.1))
        by (inr back) =
            not_clear z.0 y (long_there z.0 (Contains-append_right x.front (sources ++ x.back) z.0 (Contains-append_left sources x.back z.0 z.1))) z.2
            (pairs_across Clear sources (kept_in work.partition x.back) (pairs_back Clear (kept_in work.partition x.front) (sources ++ kept_in work.partition x.back) in_order) z.0 y z.1 (filter_has (own_of work.partition) x.back y back own))

    -- what holds of the parts beside them and of the new one holds of all
    now_all : (Q : Kept (Part F) → Type 0) → ((y : Kept (Part F)) → HasItem x.front y ⊎ HasItem x.back y → Q y) → Q k → All Q (parts_of now.set work.table)
    now_all Q beside one =
        subst (All Q) (sym x.after_is)
        (All-append Q x.front (k ∷ x.back) (λ i d inside. beside (get_or x.front i d) (inl (Contains-get_or x.front i d inside)))
        (All-cons Q k x.back one (λ i d inside. beside (get_or x.back i d) (inr (Contains-get_or x.back i d inside)))))

    pub swapped_free : SourcesAreFree now work
    swapped_free = now_all (λ (y : Kept (Part F)). HasItem (names_of_work work) y.name → y.busy ≡ false) (λ y beside named. absurd (beside_none y beside named)) (λ named. idle)

    pub swapped_all : NoOtherMark was work → HasNoMark now
    swapped_all only u = by (true_or_false (same_bytes work.table u))
      where
        there : (y : Kept (Part F)) → HasItem x.front y ⊎ HasItem x.back y → HasItem parts y
        there y (inl front) = subst (λ (ls : List (Kept (Part F))). HasItem ls y) (sym x.before_is) (Contains-append_left x.front (sources ++ x.back) y front)
        there y (inr back) = subst (λ (ls : List (Kept (Part F))). HasItem ls y) (sym x.before_is) (Contains-append_right x.front (sources ++ x.back) y (Contains-append_right sources x.back y back))

        beside_idle : (y : Kept (Part F)) → HasItem x.front y ⊎ HasItem x.back y → Idle y
        beside_idle y beside =
            false_from_ne_true y.busy (λ busy. beside_none y beside
            (All-contains (λ (s : Kept (Part F)). s.busy ≡ true → (work.table ≡ work.table) × HasItem (names_of_work work) s.name) parts y (only work.table) (there y beside) busy).1)

        by : (same_bytes work.table u ≡ true) ⊎ (same_bytes work.table u ≡ false) → All Idle (parts_of now.set u)
        by (inl same) = subst (λ (v : List ℕ). All Idle (parts_of now.set v)) (same_is work.table u same) (now_all Idle beside_idle idle)
        by (inr differ) =
            let other = other_by_bytes work.table u differ in
            subst (All Idle) (sym (others u other)) (λ i d inside. false_from_ne_true (get_or (parts_of was.set u) i d).busy (λ busy. other (only u i d inside busy).0))

  -- ---- once a work was put

  other_same : (work : Work F) (old new : CoreStore F) → SameStore old new → NoOtherMark old work → NoOtherMark new work
  other_same work old new same only u = subst (All (λ (k : Kept (Part F)). k.busy ≡ true → (u ≡ work.table) × HasItem (names_of_work work) k.name)) (sym (same.parts u)) (only u)

  abbrev pub LeavesNone : Work F → CoreStore F → CoreStore F → Type 0
  LeavesNone work was now = SourcesAreFree now work × (NoOtherMark was work → HasNoMark now)

  pub clears_both : (work : Work F) (was now : Root F) → Clears work was now → LeavesNone work was.store now.store
  clears_both work was now c = (clears_free work was now c, clears_all work was now c)

  module _ {S : Type 0} (files_of : F → Option Files) (work : Work F) (sealed : Filled) (loaded : Loaded) (was now : Opened F) (ready : IsOpen was) (part : S) where
    pub run_put : {T : Type 0} (result : Result T (Returned S)) → PutsRun files_of work sealed loaded was now part result → LeavesNone work was.store now.store
    run_put (Ok y) p =
        let m = merging_of work p.run sealed loaded in
        let d = merges_done files_of m (root_in was) p.mid part y p.merges in
        let e : EntersMerge files_of m d.0 was.store now.store = subst (λ (r : Root F). EntersMerge files_of m d.0 was.store r.store) (sym p.left) d.1.enters in
        let k : Kept (Part F) = record { name = d.0; part = e.part; busy = false } in (
          swapped_free was.store now.store ready.sound work p.run p.there d.1.from.ordered k refl e.swapped e.others,
          swapped_all was.store now.store ready.sound work p.run p.there d.1.from.ordered k refl e.swapped e.others,
        )
    run_put {T} (Err r) p =
        let same = merges_refused files_of (merging_of work p.run sealed loaded) (root_in was) p.mid part T r p.merges in
        (clears_free work p.mid (root_in now) p.left, λ only. clears_all work p.mid (root_in now) p.left (other_same work was.store p.mid.store same only))

    pub work_put : (result : Result (Put S) (Returned S)) → PutsWork files_of work sealed loaded was now part result → LeavesNone work was.store now.store
    work_put (Ok (put.Gone name back)) gone = clears_both work (root_in was) (root_in now) gone.clears
    work_put (Ok put.Done) p = run_put (Ok put.Done) p
    work_put (Err r) p = run_put (Err r) p

  -- ---- marks that were given and taken away again

  unmarked : (names : List PartName) (ks : List (Kept (Part F))) → All (λ (k : Kept (Part F)). HasItem names k.name) ks → All Idle ks → map (cleared names) (map (with_mark true) ks) ≡ ks
  unmarked names [] named idle = refl
  unmarked names (k ∷ ks) named idle =
      ap₂ (λ (y : Kept (Part F)) (ys : List (Kept (Part F))). y ∷ ys)
      (cleared_named names (with_mark true k) (All-head (λ (y : Kept (Part F)). HasItem names y.name) k ks named) ∙ ap (λ (b : Bool). with_mark b k) (sym (All-head Idle k ks idle)))
      (unmarked names ks (All-tail (λ (y : Kept (Part F)). HasItem names y.name) k ks named) (All-tail Idle k ks idle))

  -- a work was taken up and its marks were taken away: the store is as it was
  module _ (before mid : CoreStore F) (work : Work F) (run : Run) (t : TakesUp before mid work run) (sound : IsSoundStore mid) (storage : Storage) (now : Root F) (c : Clears work (record { store = mid; storage = storage }) now) where
    abbrev names : List PartName
    names = names_of_work work

    abbrev given : List (Kept (Part F))
    given = parts_of_run run (parts_beside before work)

    abbrev marked : List (Kept (Part F))
    marked = map (with_mark true) given

    abbrev front : List (Kept (Part F))
    front = t.marks.marked.front

    abbrev back : List (Kept (Part F))
    back = t.marks.marked.back

    abbrev Before : Kept (Part F) → Kept (Part F) → Type 0
    Before a b = StandsClear a.name b.name

    in_row : IsInBlockOrder (front ++ (marked ++ back))
    in_row = subst (λ (ls : List (Kept (Part F))). IsInBlockOrder ls) t.marks.marked.after_is t.marks.ordered

    ends : (y : Kept (Part F)) → HasItem (front ++ (marked ++ back)) y → EndsInOrder y
    ends y has = All-contains EndsInOrder (parts_of mid.set work.table) y (long_of mid sound work.table) (subst (λ (ls : List (Kept (Part F))). HasItem ls y) (sym t.marks.marked.after_is) has)

    source : (y : Kept (Part F)) → HasItem names y.name → (z : Kept (Part F)) × HasItem marked z × (z.name ≡ y.name)
    source y named =
        let z = mapped name_of given y.name (subst (λ (ls : List (Kept (Part F))). HasItem (map name_of ls) y.name) t.sources_are named) in
        (with_mark true z.0, map_item (with_mark true) given z.0 z.1, z.2)

    front_none : (y : Kept (Part F)) → HasItem front y → HasItem names y.name → ⊥
    front_none y has named =
        let z = source y named in
        not_clear y z.0 (ends y (Contains-append_left front (marked ++ back) y has)) (sym z.2) (pairs_across Before front (marked ++ back) in_row y z.0 has (Contains-append_left marked back z.0 z.1))

    back_none : (y : Kept (Part F)) → HasItem back y → HasItem names y.name → ⊥
    back_none y has named =
        let z = source y named in
        not_clear z.0 y (ends z.0 (Contains-append_right front (marked ++ back) z.0 (Contains-append_left marked back z.0 z.1))) z.2 (pairs_across Before marked back (pairs_back Before front (marked ++ back) in_row) z.0 y z.1 has)

    others_stay : (ks : List (Kept (Part F))) → ((y : Kept (Part F)) → HasItem ks y → HasItem names y.name → ⊥) → map (cleared names) ks ≡ ks
    others_stay ks none = map_same (cleared names) ks (λ i d inside. cleared_other names (get_or ks i d) (none (get_or ks i d) (Contains-get_or ks i d inside)))

    given_named : All (λ (k : Kept (Part F)). HasItem names k.name) given
    given_named i d inside = subst (λ (ls : List (Kept (Part F))). HasItem (map name_of ls) (get_or given i d).name) (sym t.sources_are) (map_item name_of given (get_or given i d) (Contains-get_or given i d inside))

    here : parts_of now.store.set work.table ≡ parts_of before.set work.table
    here =
        c.cleared_are
        ∙ (ap (map (cleared names)) t.marks.marked.after_is
        ∙ (map-append (cleared names) front (marked ++ back)
        ∙ (ap (λ (ls : List (Kept (Part F))). map (cleared names) front ++ ls) (map-append (cleared names) marked back)
        ∙ (ap₂ (λ (xs ys : List (Kept (Part F))). xs ++ (map (cleared names) marked ++ ys)) (others_stay front front_none) (others_stay back back_none)
        ∙ (ap (λ (ls : List (Kept (Part F))). front ++ (ls ++ back)) (unmarked names given given_named (subst (All Idle) t.sources_are t.idle)) ∙ sym t.marks.marked.before_is)))))

    pub cleared_back : SameStore before now.store
    cleared_back = record {
      tables = c.tables ∙ t.marks.tables;
      parts = λ u. elim (true_or_false (same_bytes work.table u)) [
        | inl same ↦ subst (λ (v : List ℕ). parts_of now.store.set v ≡ parts_of before.set v) (same_is work.table u same) here
        | inr differ ↦ c.others u (other_by_bytes work.table u differ) ∙ t.marks.others u (other_by_bytes work.table u differ)
      ];
      mutations_are = c.mutations_are ∙ t.marks.mutations_are;
      length_is = c.length_is ∙ t.marks.length_is;
      opened_is = c.opened_is ∙ t.marks.opened_is;
    }
