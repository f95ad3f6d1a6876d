-- Parts of the greatest level and marks of parts, and what a turn leaves of them.
use Rattle.std.proofs.Common.{◌≡◌, ◌⊎◌, ◌||◌, ℕ, Bool, true, false, cond, is_some, nat_le, nat_lt, List, [], ◌∷◌, ◌++◌, length, map, get_or, ◌<◌, Option, Some, None, Result, Ok, Err, refl, sym, ap, ◌∙◌, ◌≤◌, subst, inl, inr, arith}
use Rattle.std.specs.BTreeMap.{is_at}
use Rattle.std.specs.Cmp.Lexicographic.{slice_cmp}
use Rattle.std.specs.List.{All, Contains as HasItem, list_any}
use Rattle.std.specs.Map.{lookup}
use Rattle.std.specs.Ordering.{is_eq, nat_cmp}
use Rattle.std.proofs.lemmas.Bool.{false≢true}
use Rattle.std.proofs.lemmas.Bool.Decides.{nat_tests}
use Rattle.std.proofs.lemmas.List.Elements.{All-contains, Contains-append_cases, Contains-append_left, Contains-append_right, Contains-get_or}
use Rattle.std.proofs.lemmas.List.Folds.{list_any_at}
use Rattle.std.proofs.lemmas.Cmp.{nat_list_cmp_total, tied_itself}
use Rattle.std.proofs.lemmas.Map.Views.{Contains-from_lookup}
use Rattle.mt_base.specs.declared.partition.Partition.{Partition}
use Rattle.mt_base.specs.Limits.{level_limit}
use Rattle.mt_values.specs.declared.command.Create.{Create}
use Rattle.mt_values.specs.declared.schema.Schema.{Schema}
use Rattle.mt_values.specs.Grammar.{same_bytes}
use Rattle.mt_outside.specs.Files.{Files}
use Rattle.root_commits.specs.durable_commit.declared.causes.Limit.TheVariants as limit
use Rattle.root_commits.specs.durable_commit.declared.causes.Refused.{Refused}
use Rattle.root_commits.specs.durable_commit.declared.causes.Refused.TheVariants as refused
use Rattle.root_commits.specs.durable_commit.Commits.{IsOutside, stopped_by}
use Rattle.root_commits.specs.part_name.declared.part.PartName.{PartName}
use Rattle.root_commits.specs.part_writer.declared.loaded.Loaded.{Loaded}
use Rattle.root_commits.specs.part_reader.declared.reading.Part.{Part}
use Rattle.root_commits.specs.part_set.declared.kept.Kept.{Kept}
use Rattle.root_commits.specs.part_set.declared.run.Run.{Run}
use Rattle.root_commits.specs.part_set.Parts.{HasName, IsInBlockOrder, kept_in}
use Rattle.root_commits.specs.part_set.Runs.{parts_of_run}
use Rattle.root_commits.specs.stage_dir.Stages.{Filled}
use Rattle.root_commits.proofs.MtModelTables.{same_is}
use Rattle.root_commits.proofs.PartSetShelving.{mine_within}
use Rattle.root_commits.specs.part_set.Sets.{parts_of}
use Rattle.root_commits.proofs.PartSetItems.{item_first, item_kept, item_none}
use Rattle.root_commits.proofs.PartSetMaps.{found_is, true_or_false}
use Rattle.root_commits.specs.Commits.{EntersPart, EntersTable, IsCause, SameStore, refuses_create, refuses_part}
use Rattle.root_commits.specs.declared.commits.Returned.{Returned}
use Rattle.root_commits.specs.Merges.{EntersMerge, Merging, name_of_merge, sources_of}
use Rattle.root_commits.specs.Publications.{Adding, partition_of_adding}
use Rattle.root_commits.specs.Turns.{CommitsCreate, CommitsPart, Root}
use Rattle.root_commits.proofs.Placed.{all_added}
use Rattle.root_commits.specs.root_store.declared.store.CoreStore.{CoreStore}
use Rattle.root_commits.specs.root_store.declared.store.Table.{Table}
use Rattle.root_commits.specs.root_store.Shown.{HasNoMark}
use Rattle.root_commits.specs.root_store.Soundness.{IsSoundStore}
use Rattle.root_commits.specs.root_store.Stores.{table_at}
use Rattle.root_commits.proofs.RootStoreItems.{map_item, mapped}
use Rattle.root_commits.proofs.MergedNames.{of_run, run_within}
use Rattle.shared_store.specs.declared.work.Work.{Work}
use Rattle.shared_store.specs.Engines.{GoesOn, IsOpen, Opened, root_in}
use Rattle.shared_store.specs.Levels.{KeepsGreatest, LeavesParts, has_greatest, is_greatest}
use Rattle.shared_store.specs.Tallies.{levels_in}
use Rattle.shared_store.specs.Works.{Clears, DropsWork, PutsRun, SourcesStand, TakesWork, merging_of, parts_beside}
use Rattle.shared_store.proofs.Freed.{clears_all}
use Rattle.shared_store.proofs.Marked.{cleared_after}
use Rattle.shared_store.proofs.Marking.{StoresAlike, alike_names, cleared_alike, marked_alike}
use Rattle.shared_store.proofs.Merging.{merges_done, merges_refused}
use Rattle.shared_store.proofs.Standing.{long_run, some_item}
use Rattle.shared_store.proofs.Working.{long_of, other_by_bytes}

-- ---- lists

module _ {X : Type 0} (p : X → Bool) where
  -- some element passes a test that some element passes
  pub any_item : (xs : List X) → list_any p xs ≡ true → (x : X) × HasItem xs x × (p x ≡ true)
  any_item [] is = cc
  any_item (x ∷ xs) is = by (p x) refl is (any_item xs)
    where
      by : (b : Bool) → p x ≡ b → (b || list_any p xs) ≡ true → (list_any p xs ≡ true → (y : X) × HasItem xs y × (p y ≡ true)) → (y : X) × HasItem (x ∷ xs) y × (p y ≡ true)
      by true passes h more = (x, item_first x xs, passes)
      by false none h more = let rest = more h in (rest.0, Contains-append_right (x ∷ []) xs rest.0 rest.1, rest.2)

  -- and the other way round
  pub item_any : (xs : List X) (x : X) → HasItem xs x → p x ≡ true → list_any p xs ≡ true
  item_any xs x has is = list_any_at p xs has.0 x has.1 (subst (λ y. p y ≡ true) (sym has.2) is)

-- what a look-up finds is the value of an entry with that key
entry_found : {V : Type 0} (table : List ℕ) (es : List (List ℕ × V)) (v : V) → lookup (is_at (slice_cmp nat_cmp table)) es ≡ Some v → HasItem es (table, v)
entry_found table es v is = Contains-from_lookup {eq = λ a b. is_at (slice_cmp nat_cmp a) b} found_is table v es is

-- a table that a query does not find is another
other_table : (table u : List ℕ) → is_at (slice_cmp nat_cmp table) u ≡ false → u ≡ table → ⊥
other_table table u apart same = false≢true (sym (subst (λ (v : List ℕ). is_at (slice_cmp nat_cmp table) v ≡ false) same apart) ∙ ap is_eq (tied_itself nat_list_cmp_total table))

-- the name of a part is among the names of the parts
pub name_here : {P : Type 0} (parts : List (Kept P)) (kept : Kept P) → HasItem parts kept → HasName parts kept.name
name_here {P} parts kept has = map_item (λ (k : Kept P). k.name) parts kept has

-- ---- a part of the greatest level

-- some part of a store, and its level is the greatest
pub record HasGreatest {F : Type 0} (store : CoreStore F) : Type 0 where
  pub table : List ℕ
  pub kept : Kept (Part F)
  pub here : HasItem (parts_of store.set table) kept
  pub is : level_limit ≤ kept.name.level

module _ {F : Type 0} where
  abbrev name_of : Kept (Part F) → PartName
  name_of k = k.name

  pub greatest_level : (kept : Kept (Part F)) → is_greatest kept ≡ true → level_limit ≤ kept.name.level
  greatest_level kept is = grind (arith, is, nat_tests)

  pub level_greatest : (kept : Kept (Part F)) → level_limit ≤ kept.name.level → is_greatest kept ≡ true
  level_greatest kept is = grind (arith, is, nat_tests)

  pub greatest_there : (store : CoreStore F) → has_greatest store ≡ true → HasGreatest store
  greatest_there store is =
      let entry = any_item (λ (e : List ℕ × Table). list_any is_greatest (parts_of store.set e.0)) store.tables.entries is in
      let part = any_item is_greatest (parts_of store.set entry.0.0) entry.2 in
      record { table = entry.0.0; kept = part.0; here = part.1; is = greatest_level part.0 part.2 }

  -- a store that keeps no parts but of its tables
  pub there_greatest : (store : CoreStore F) → IsSoundStore store → HasGreatest store → has_greatest store ≡ true
  there_greatest store sound has = by (table_at store has.table) refl
    where
      by : (o : Option Table) → table_at store has.table ≡ o → has_greatest store ≡ true
      by None none = absurd (item_none has.kept (subst (λ (ks : List (Kept (Part F))). HasItem ks has.kept) (sound.no_other has.table none) has.here))
      by (Some t) there =
          item_any (λ (e : List ℕ × Table). list_any is_greatest (parts_of store.set e.0)) store.tables.entries (has.table, t) (entry_found has.table store.tables.entries t there)
          (item_any is_greatest (parts_of store.set has.table) has.kept has.here (level_greatest has.kept has.is))

  -- ---- what keeps it

  -- the parts of each table are there still
  pub keeps_by : (was now : CoreStore F) → IsSoundStore now → ((table : List ℕ) (kept : Kept (Part F)) → HasItem (parts_of was.set table) kept → level_limit ≤ kept.name.level → HasGreatest now) → KeepsGreatest was now
  keeps_by was now sound kept is = let has = greatest_there was is in there_greatest now sound (kept has.table has.kept has.here has.is)

  keeps_same : (was now : CoreStore F) → IsSoundStore now → SameStore was now → KeepsGreatest was now
  keeps_same was now sound same =
      keeps_by was now sound (λ table kept here is. record { table = table; kept = kept; here = subst (λ (ks : List (Kept (Part F))). HasItem ks kept) (sym (same.parts table)) here; is = is })

  keeps_table : (table : List ℕ) (was now : CoreStore F) (schema : Schema) → IsSoundStore now → EntersTable table schema was now → KeepsGreatest was now
  keeps_table table was now schema sound enters =
      keeps_by was now sound (λ t kept here is. record { table = t; kept = kept; here = subst (λ set. HasItem (parts_of set t) kept) (sym enters.set_is) here; is = is })

  keeps_part : (table : List ℕ) (partition : Partition) (part : Part F) (t : Table) (was now : CoreStore F) → IsSoundStore now → EntersPart table partition part t was now → KeepsGreatest was now
  keeps_part table partition part t was now sound enters = keeps_by was now sound stays
    where
      stays : (u : List ℕ) (kept : Kept (Part F)) → HasItem (parts_of was.set u) kept → level_limit ≤ kept.name.level → HasGreatest now
      stays u kept here is = record { table = u; kept = kept; here = by (true_or_false (is_at (slice_cmp nat_cmp table) u)); is = is }
        where
          by : (is_at (slice_cmp nat_cmp table) u ≡ true) ⊎ (is_at (slice_cmp nat_cmp table) u ≡ false) → HasItem (parts_of now.set u) kept
          by (inl found) =
              let same : table ≡ u = found_is table u found in
              let there : HasItem (parts_of was.set table) kept = subst (λ (v : List ℕ). HasItem (parts_of was.set v) kept) (sym same) here in
              subst (λ (v : List ℕ). HasItem (parts_of now.set v) kept) same
              (subst (λ (ks : List (Kept (Part F))). HasItem ks kept) (sym enters.added.is) (item_kept (parts_of was.set table) enters.added.place _ kept there))
          by (inr other) = subst (λ (ks : List (Kept (Part F))). HasItem ks kept) (sym (enters.others u (other_table table u other))) here

-- ---- marks

module _ {F : Type 0} where
  free_same : (was now : CoreStore F) → SameStore was now → HasNoMark was → HasNoMark now
  free_same was now same none = λ table. subst (All (λ (k : Kept (Part F)). k.busy ≡ false)) (sym (same.parts table)) (none table)

  free_table : (table : List ℕ) (was now : CoreStore F) (schema : Schema) → EntersTable table schema was now → HasNoMark was → HasNoMark now
  free_table table was now schema enters none = λ t. subst (λ set. All (λ (k : Kept (Part F)). k.busy ≡ false) (parts_of set t)) (sym enters.set_is) (none t)

  free_part : (table : List ℕ) (partition : Partition) (part : Part F) (t : Table) (was now : CoreStore F) → EntersPart table partition part t was now → HasNoMark was → HasNoMark now
  free_part table partition part t was now enters none = λ u. by u (true_or_false (is_at (slice_cmp nat_cmp table) u))
    where
      by : (u : List ℕ) → (is_at (slice_cmp nat_cmp table) u ≡ true) ⊎ (is_at (slice_cmp nat_cmp table) u ≡ false) → All (λ (k : Kept (Part F)). k.busy ≡ false) (parts_of now.set u)
      by u (inl found) =
          subst (λ (v : List ℕ). All (λ (k : Kept (Part F)). k.busy ≡ false) (parts_of now.set v)) (found_is table u found)
          (all_added (λ (k : Kept (Part F)). k.busy ≡ false) (parts_of was.set table) (parts_of now.set table) _ enters.added (none table) refl)
      by u (inr other) = subst (All (λ (k : Kept (Part F)). k.busy ≡ false)) (sym (enters.others u (other_table table u other))) (none u)

  -- ---- what a turn leaves

  pub parts_stay : (here : CoreStore F) → LeavesParts here here
  parts_stay here = record { free = λ none. none; levels = λ is. is }

  pub parts_then : (a b c : CoreStore F) → LeavesParts a b → LeavesParts b c → LeavesParts a c
  parts_then a b c first next = record { free = λ none. next.free (first.free none); levels = λ is. next.levels (first.levels is) }

  pub parts_same : (was now : CoreStore F) → IsSoundStore now → SameStore was now → LeavesParts was now
  parts_same was now sound same = record { free = free_same was now same; levels = keeps_same was now sound same }

  pub parts_table : (table : List ℕ) (was now : CoreStore F) (schema : Schema) → IsSoundStore now → EntersTable table schema was now → LeavesParts was now
  parts_table table was now schema sound enters = record { free = free_table table was now schema enters; levels = keeps_table table was now schema sound enters }

  pub parts_part : (table : List ℕ) (partition : Partition) (part : Part F) (t : Table) (was now : CoreStore F) → IsSoundStore now → EntersPart table partition part t was now → LeavesParts was now
  parts_part table partition part t was now sound enters = record { free = free_part table partition part t was now enters; levels = keeps_part table partition part t was now sound enters }

  -- of a CREATE, or of a block
  pub parts_created : {T S : Type 0} (session : ℕ) (create : Create) (entry : Filled) (was now : Root F) (sealed : S) (result : Result T (Returned S)) → CommitsCreate session create entry was now sealed result → LeavesParts was.store now.store
  parts_created session create entry was now sealed (Ok x) d = parts_table create.table was.store now.store create.schema d.ready.sound d.enters
  parts_created session create entry was now sealed (Err r) d = parts_same was.store now.store d.ready.sound d.enters

  pub parts_added : {T S : Type 0} (files_of : F → Option Files) (a : Adding) (was now : Root F) (sealed : S) (result : Result T (Returned S)) → CommitsPart files_of a was now sealed result → LeavesParts was.store now.store
  parts_added files_of a was now sealed (Ok x) d = parts_part a.table (partition_of_adding a) d.enters.part a.kept was.store now.store d.ready.sound d.enters.enters
  parts_added files_of a was now sealed (Err r) d = parts_same was.store now.store d.ready.sound d.enters

  -- ---- marks, and works

  -- parts of the same names have the same levels
  pub levels_alike : (was now : CoreStore F) → IsSoundStore now → StoresAlike was now → KeepsGreatest was now
  levels_alike was now sound same = keeps_by was now sound (λ table kept here is.
      let parts = parts_of now.set table in
      let named : HasItem (map name_of parts) kept.name = subst (λ (ns : List PartName). HasItem ns kept.name) (sym (alike_names (parts_of was.set table) parts (same.parts table))) (map_item name_of (parts_of was.set table) kept here) in
      let found = mapped name_of parts kept.name named in
      record { table = table; kept = found.0; here = found.1; is = subst (λ (n : PartName). level_limit ≤ n.level) (sym found.2) is })

  -- a store with a work whose sources stand has a mark
  stands_marked : (store : CoreStore F) (work : Work F) (run : Run) → SourcesStand store work run → HasNoMark store → ⊥
  stands_marked store work run stands none =
      let parts = parts_beside store work in
      let some = stands.is.some in
      let long = long_run run parts stands.is in
      let inside : 0 < length (parts_of_run run parts) = omega (arith, some, long) in
      let k = some_item (parts_of_run run parts) inside in
      let first = get_or (parts_of_run run parts) 0 k in
      let here = mine_within work.partition (parts_of store.set work.table) first (of_run run parts first (Contains-get_or (parts_of_run run parts) 0 k inside)) in
      false≢true (sym (All-contains (λ (l : Kept (Part F)). l.busy ≡ false) (parts_of store.set work.table) first (none work.table) here) ∙ stands.busy 0 k inside)

  pub levels_taken : (was now : Opened F) (work : Work F) (run : Run) → IsOpen now → TakesWork was now work run → KeepsGreatest was.store now.store
  levels_taken was now work run ready takes = levels_alike was.store now.store ready.sound (marked_alike work run was.store now.store takes.takes.marks)

  -- where no part bore a mark none bears one once marks were taken away
  free_cleared : (work : Work F) (was now : Root F) → Clears work was now → HasNoMark was.store → HasNoMark now.store
  free_cleared work was now c none = clears_all work was now c (λ u i d inside busy. absurd (false≢true (sym (none u i d inside) ∙ busy)))

  pub parts_dropped : (was now : Opened F) (work : Work F) → IsOpen now → DropsWork work was now → LeavesParts was.store now.store
  parts_dropped was now work ready c = record {
    free = free_cleared work (root_in was) (root_in now) c;
    levels = levels_alike was.store now.store ready.sound (cleared_alike work (root_in was) (root_in now) c);
  }

  -- a part of the greatest level is none of those that were merged
  levels_merged : (files_of : F → Option Files) (m : Merging) (was now : CoreStore F) → IsSoundStore was → IsSoundStore now → IsInBlockOrder (kept_in m.partition (parts_of was.set m.table)) → (name : PartName) → name_of_merge (sources_of was m) ≡ Some name → (e : EntersMerge files_of m name was now) → name.level ≤ level_limit → KeepsGreatest was now
  levels_merged files_of m was now sound_was sound ordered name name_is e low = keeps_by was now sound (λ table kept here is. by table kept here is (true_or_false (same_bytes m.table table)))
    where
      k : Kept (Part F)
      k = record { name = name; part = e.part; busy = false }

      sources : List (Kept (Part F))
      sources = sources_of was m

      now_has : (kept : Kept (Part F)) → HasItem (e.swapped.front ++ k ∷ e.swapped.back) kept → HasItem (parts_of now.set m.table) kept
      now_has kept has = subst (λ (ks : List (Kept (Part F))). HasItem ks kept) (sym e.swapped.after_is) has

      here_still : (kept : Kept (Part F)) → HasItem (parts_of was.set m.table) kept → level_limit ≤ kept.name.level → HasItem (parts_of now.set m.table) kept
      here_still kept has is = elim (Contains-append_cases e.swapped.front (sources ++ e.swapped.back) kept (subst (λ (ks : List (Kept (Part F))). HasItem ks kept) e.swapped.before_is has)) [
        | inl front ↦ now_has kept (Contains-append_left e.swapped.front (k ∷ e.swapped.back) kept front)
        | inr rest ↦ elim (Contains-append_cases sources e.swapped.back kept rest) [
          | inl merged ↦ (
              let within = run_within (parts_of was.set m.table) m.partition m.run ordered (long_of was sound_was m.table) name name_is kept merged in
              absurd (omega (arith, low, is, within.1))
              )
          | inr back ↦ now_has kept (Contains-append_right e.swapped.front (k ∷ e.swapped.back) kept (Contains-append_right (k ∷ []) e.swapped.back kept back))
        ]
      ]

      by : (u : List ℕ) (kept : Kept (Part F)) → HasItem (parts_of was.set u) kept → level_limit ≤ kept.name.level → (same_bytes m.table u ≡ true) ⊎ (same_bytes m.table u ≡ false) → HasGreatest now
      by u kept has is (inl same) =
          record { table = m.table; kept = kept; here = here_still kept (subst (λ (v : List ℕ). HasItem (parts_of was.set v) kept) (sym (same_is m.table u same)) has) is; is = is }
      by u kept has is (inr differ) =
          record { table = u; kept = kept; here = subst (λ (ks : List (Kept (Part F))). HasItem ks kept) (sym (e.others u (other_by_bytes m.table u differ))) has; is = is }

  -- of a put
  pub parts_put : {T S : Type 0} (files_of : F → Option Files) (work : Work F) (sealed : Filled) (loaded : Loaded) (was now : Opened F) (part : S) (result : Result T (Returned S)) → GoesOn was now → PutsRun files_of work sealed loaded was now part result → LeavesParts was.store now.store
  parts_put {T} {S} files_of work sealed loaded was now part result goes p = record { free = λ none. absurd (stands_marked was.store work p.run p.there none); levels = by result p }
    where
      by : (r : Result T (Returned S)) → PutsRun files_of work sealed loaded was now part r → KeepsGreatest was.store now.store
      by (Ok x) p =
          let m = merging_of work p.run sealed loaded in
          let d = merges_done files_of m (root_in was) p.mid part x p.merges in
          let e : EntersMerge files_of m d.0 was.store now.store = subst (λ (r : Root F). EntersMerge files_of m d.0 was.store r.store) (sym p.left) d.1.enters in
          levels_merged files_of m was.store now.store goes.found.sound goes.left.sound d.1.from.ordered d.0 d.1.from.named e d.1.from.low
      by (Err r) p =
          let same = merges_refused files_of (merging_of work p.run sealed loaded) (root_in was) p.mid part T r p.merges in
          levels_alike was.store now.store goes.left.sound (cleared_alike work (record { store = was.store; storage = p.mid.storage }) (root_in now) (cleared_after work (record { store = was.store; storage = p.mid.storage }) p.mid (root_in now) same p.left refl))

-- ---- limits of levels

-- none is a cause where none is shown
pub cause_levels : (shown cause : Option Refused) → levels_in shown ≡ 0 → IsCause shown cause → levels_in cause ≡ 0
cause_levels (Some s) cause low is = ap levels_in is ∙ low
cause_levels None cause low is = outside cause is
  where
    outside : (c : Option Refused) → IsOutside c → levels_in c ≡ 0
    outside None is = refl
    outside (Some refused.NoMemory) is = refl
    outside (Some refused.Disk) is = refl
    outside (Some (refused.Stopped o n)) is = absurd is
    outside (Some refused.Exists) is = absurd is
    outside (Some (refused.Limit l)) is = absurd is

if_levels : (b : Bool) (x : Refused) (rest : Option Refused) → levels_in (Some x) ≡ 0 → levels_in rest ≡ 0 → levels_in (cond b (Some x) rest) ≡ 0
if_levels true x rest first next = first
if_levels false x rest first next = next

stopped_low : (opened now : ℕ) → levels_in (stopped_by opened now) ≡ 0
stopped_low opened now = if_levels (nat_lt opened now) (refused.Stopped opened now) None refl refl

-- of a store that is stopped or not
pub stopped_levels : (opened now : ℕ) (cause : Option Refused) → IsCause (stopped_by opened now) cause → levels_in cause ≡ 0
stopped_levels opened now cause is = cause_levels (stopped_by opened now) cause (stopped_low opened now) is

module _ {F : Type 0} (store : CoreStore F) (table : List ℕ) (now : ℕ) (cause : Option Refused) where
  -- of a CREATE
  pub create_levels : IsCause (refuses_create store table now) cause → levels_in cause ≡ 0
  create_levels is =
      cause_levels (refuses_create store table now) cause
      (if_levels (is_some (table_at store table)) refused.Exists _ refl (if_levels (nat_le 64 (length store.tables.entries)) (refused.Limit limit.Tables) _ refl (stopped_low store.opened now))) is

  -- of a block
  pub part_levels : (partition : Partition) (drawn : ℕ) → IsCause (refuses_part store table partition drawn now) cause → levels_in cause ≡ 0
  part_levels partition drawn is =
      cause_levels (refuses_part store table partition drawn now) cause
      (if_levels (nat_le 3000 (length (kept_in partition (parts_of store.set table)))) (refused.Limit limit.Parts) _ refl (if_levels (nat_le 4294967295 drawn) (refused.Limit limit.Numbers) _ refl (stopped_low store.opened now))) is
