-- What a lock keeps where a work is put: why it was refused, and what stands.
use Rattle.std.proofs.Common.{◌≡◌, ◌⊎◌, ◌||◌, ℕ, ◌+◌, ◌-◌, ◌<◌, Bool, true, false, cond, is_some, max, nat_le, nat_lt, List, [], ◌∷◌, ◌++◌, append_assoc, length, map, Option, Some, None, Result, Ok, Err, inl, inr, refl, sym, ap, ap₂, ◌∙◌, subst, arith}
use Rattle.std.proofs.lemmas.Bool.{false≢true}
use Rattle.std.proofs.lemmas.Bool.Decides.{nat_tests}
use Rattle.std.specs.List.{fold}
use Rattle.std.specs.Option.{MatchOption}
use Rattle.mt_base.specs.Limits.{level_limit}
use Rattle.mt_values.specs.declared.schema.Schema.{Schema}
use Rattle.mt_outside.specs.Files.{Files}
use Rattle.history_seat.specs.Views.{Begins}
use Rattle.root_commits.specs.durable_commit.declared.causes.Limit.TheVariants as limit
use Rattle.root_commits.specs.durable_commit.declared.causes.Refused.{Refused}
use Rattle.root_commits.specs.durable_commit.declared.causes.Refused.TheVariants as refused
use Rattle.root_commits.specs.durable_commit.Commits.{stopped_by}
use Rattle.root_commits.specs.durable_commit.Publications.{Storage}
use Rattle.root_commits.specs.mt_model.History.{History}
use Rattle.root_commits.specs.part_name.declared.part.PartName.{PartName}
use Rattle.root_commits.specs.part_name.Merged.{joined_name}
use Rattle.root_commits.specs.part_set.declared.kept.Kept.{Kept}
use Rattle.root_commits.specs.part_set.declared.run.Run.{Run}
use Rattle.root_commits.specs.part_set.Runs.{parts_of_run}
use Rattle.root_commits.specs.part_set.Sets.{parts_of}
use Rattle.root_commits.specs.part_writer.declared.loaded.Loaded.{Loaded}
use Rattle.root_commits.specs.stage_dir.Stages.{Filled}
use Rattle.root_commits.specs.declared.commits.Returned.{Returned}
use Rattle.root_commits.specs.root_store.declared.store.Table.{Table}
use Rattle.root_commits.specs.root_store.Stores.{table_at}
use Rattle.root_commits.specs.Commits.{IsCause, cause_of}
use Rattle.root_commits.specs.Merges.{Merging, SealsMerge, SealsRows, name_of_merge, sources_of, within_levels}
use Rattle.root_commits.specs.Publications.{publication_of_merge}
use Rattle.root_commits.specs.Turns.{CommitsMerge, Root}
use Rattle.root_commits.proofs.Turning.{after_refusal}
use Rattle.root_commits.proofs.MergedNames.{of_run}
use Rattle.root_commits.proofs.PartSetShelving.{mine_within}
use Rattle.shared_store.specs.declared.work.Put.{Put}
use Rattle.shared_store.specs.declared.work.Put.TheVariants as put
use Rattle.shared_store.specs.declared.work.Work.{Work}
use Rattle.shared_store.specs.Engines.{GoesOn, Opened, root_in}
use Rattle.shared_store.specs.Handed.{IsHanded, MayPut, sealing}
use Rattle.shared_store.specs.Levels.{KeepsGreatest, any_greatest, has_greatest, is_greatest}
use Rattle.shared_store.specs.Sharing.{AtOpening, Fits, IsShared, Shown, begun_now}
use Rattle.shared_store.specs.Stood.{Premise, is_listed, is_told}
use Rattle.shared_store.specs.Tallies.{Tally, levels_by, levels_in, stops_by, stops_in, tally}
use Rattle.shared_store.specs.Turns.{CountsTurn, IsBack, PutsBack, ShowsPut}
use Rattle.shared_store.specs.Works.{PutsRun, PutsWork, SourcesStand, merging_of, names_of_work, parts_beside}
use Rattle.shared_store.proofs.Keeping.{IsAudited, at_turn, calm_before, not_true, stood_on}
use Rattle.shared_store.proofs.Levels.{any_item, greatest_level, levels_alike, parts_put, stopped_levels, there_greatest}
use Rattle.shared_store.proofs.Marking.{cleared_alike}
use Rattle.shared_store.proofs.Merging.{merges_done, merges_refused}
use Rattle.shared_store.proofs.Others.{work_tables}
use Rattle.shared_store.proofs.Puts.{left_alike}
use Rattle.shared_store.proofs.Risen.{IsRisen, calm_stops, counts_risen, publishes_risen, stays_risen, stopped_risen}
use Rattle.shared_store.proofs.Schemas.{fits_kept, table_of, there_begins}
use Rattle.shared_store.proofs.Standing.{long_run}
use Rattle.shared_store.proofs.Stands.{stood_put}

-- ---- the level of a merge's name

or_none : (a : Bool) → a ≡ (a || false)
or_none true = refl
or_none false = refl

or_both : (a b c : Bool) → ((a || b) || c) ≡ (a || (b || c))
or_both true b c = refl
or_both false b c = refl

-- a bound is reached by the greater of two numbers where one of them reaches it
reached : (low a b : ℕ) → nat_le low (max a b) ≡ (nat_le low a || nat_le low b)
reached low a b = by (nat_le low a) refl (nat_le low b) refl
  where
    by : (x : Bool) → nat_le low a ≡ x → (y : Bool) → nat_le low b ≡ y → nat_le low (max a b) ≡ (x || y)
    by true first y second = grind (arith, nat_tests, first)
    by false first true second = grind (arith, nat_tests, second)
    by false first false second = grind (arith, nat_tests, first, second)

within : (name : PartName) (full : Bool) → nat_le level_limit name.level ≡ full → is_some (within_levels (Some (record { partition = name.partition; min_block = name.min_block; max_block = name.max_block; level = name.level + 1; mutation = name.mutation }))) ≡ cond full false true
within name true full = let past : nat_lt level_limit (name.level + 1) ≡ true = grind (arith, nat_tests, full) in rw (past) refl
within name false full = let low : nat_lt level_limit (name.level + 1) ≡ false = grind (arith, nat_tests, full) in rw (low) refl

module _ {P : Type 0} where
  abbrev name_of : Kept P → PartName
  name_of k = k.name

  joined_reaches : (a : PartName) (ks : List (Kept P)) → nat_le level_limit (fold joined_name a (map name_of ks)).level ≡ (nat_le level_limit a.level || any_greatest ks)
  joined_reaches a [] = or_none (nat_le level_limit a.level)
  joined_reaches a (k ∷ ks) =
      joined_reaches (joined_name a k.name) ks
      ∙ (ap (λ (b : Bool). b || any_greatest ks) (reached level_limit a.level k.name.level) ∙ or_both (nat_le level_limit a.level) (nat_le level_limit k.name.level) (any_greatest ks))

  -- the part that parts are merged into has a greater level than may be where one of them has the greatest
  pub levels_of : (ks : List (Kept P)) → 0 < length ks → is_some (within_levels (name_of_merge ks)) ≡ cond (any_greatest ks) false true
  levels_of [] some = absurd (omega arith)
  levels_of (k ∷ ks) some = within (fold joined_name k.name (map name_of ks)) (any_greatest (k ∷ ks)) (joined_reaches k.name ks)

-- whether a part has the greatest level is said by the names
greatest_named : {P : Type 0} (ks ls : List (Kept P)) → map (λ (k : Kept P). k.name) ks ≡ map (λ (k : Kept P). k.name) ls → any_greatest ks ≡ any_greatest ls
greatest_named [] [] is = refl
greatest_named [] (l ∷ ls) is = cc
greatest_named (k ∷ ks) [] is = cc
greatest_named {P} (k ∷ ks) (l ∷ ls) is =
    let first : k.name ≡ l.name = cc in
    let rest : map (λ (x : Kept P). x.name) ks ≡ map (λ (x : Kept P). x.name) ls = cc in
    ap₂ (λ (a b : Bool). a || b) (ap (λ (n : PartName). nat_le level_limit n.level) first) (greatest_named ks ls rest)

full_any : (b : Bool) → cond b false true ≡ false → b ≡ true
full_any true is = refl
full_any false is = absurd (false≢true (sym is))

-- ---- why a put was refused

module _ {F S : Type 0} (files_of : F → Option Files) (work : Work F) (sealed : Filled) (loaded : Loaded) (was now : Opened F) (part : S) (goes : GoesOn was now) where
  abbrev Puts : Result (Put S) (Returned S) → Type 0
  Puts result = PutsWork files_of work sealed loaded was now part result

  abbrev Runs : Returned S → Type 0
  Runs r = PutsRun {T = Put S} files_of work sealed loaded was now part (Err r)

  -- no part may have the level only where a source has the greatest
  full_run : (run : Run) → SourcesStand was.store work run → within_levels (name_of_merge (sources_of was.store (merging_of work run sealed loaded))) ≡ None → (has_greatest was.store ≡ true) × (any_greatest work.sources.items ≡ true)
  full_run run stands none =
      let beside = parts_beside was.store work in
      let ks = parts_of_run run beside in
      let some : 0 < length ks = (let long = long_run run beside stands.is in let one = stands.is.some in omega (arith, long, one)) in
      let any : any_greatest ks ≡ true = full_any (any_greatest ks) (sym (levels_of ks some) ∙ ap is_some none) in
      let one = any_item is_greatest ks any in (
        there_greatest was.store goes.found.sound
            (record { table = work.table; kept = one.0; here = mine_within work.partition (parts_of was.store.set work.table) one.0 (of_run run beside one.0 one.1); is = greatest_level one.0 one.2 }),
        greatest_named work.sources.items ks (sym stands.named) ∙ any,
      )

  abbrev refused_as : Returned S → Result (Put S) (Returned S)
  refused_as r = Err r

  -- why it was refused: no part may have the level, or its commit was
  refused_cases : (r : Returned S) (p : Runs r)
      → ((has_greatest was.store ≡ true) × (any_greatest work.sources.items ≡ true) × (r.cause ≡ refused.Limit limit.Levels))
      ⊎ (IsCause (stopped_by was.store.opened was.storage.failed) (Some r.cause) × ((name : PartName) × CommitsMerge {T = Put S} files_of (merging_of work p.run sealed loaded) name (root_in was) p.mid part (Err r)))
  refused_cases r p = by (within_levels (name_of_merge (sources_of was.store m))) refl p.merges
    where
      m : Merging
      m = merging_of work p.run sealed loaded

      high : Returned S
      high = record { cause = refused.Limit limit.Levels; back = Some part }

      by : (o : Option PartName) → within_levels (name_of_merge (sources_of was.store m)) ≡ o
          → MatchOption o ((refused_as r ≡ refused_as high) × (p.mid ≡ root_in was)) (λ name. CommitsMerge {T = Put S} files_of m name (root_in was) p.mid part (Err r))
          → ((has_greatest was.store ≡ true) × (any_greatest work.sources.items ≡ true) × (r.cause ≡ refused.Limit limit.Levels)) ⊎ (IsCause (stopped_by was.store.opened was.storage.failed) (Some r.cause) × ((name : PartName) × CommitsMerge {T = Put S} files_of m name (root_in was) p.mid part (Err r)))
      by None none too_high = let same : r ≡ high = cc in let full = full_run p.run p.there none in inl (full.0, full.1, ap (λ (q : Returned S). q.cause) same)
      by (Some name) is d = inr (d.cause, (name, d))

  -- the disk's count as the commit left it
  mid_failed : (r : Returned S) (p : Runs r) → p.mid.storage.failed ≡ now.storage.failed
  mid_failed r p = ap (λ (x : Storage). x.failed) (sym (left_alike {T = Put S} files_of work sealed loaded was now part (Err r) p).1)

  -- where the level would be too high nothing was done; else a commit shows no such cause
  mid_stays : (r : Returned S) (p : Runs r) → r.cause ≡ refused.Limit limit.Levels → p.mid.storage.failed ≡ was.storage.failed
  mid_stays r p full = by (within_levels (name_of_merge (sources_of was.store m))) p.merges
    where
      m : Merging
      m = merging_of work p.run sealed loaded

      high : Returned S
      high = record { cause = refused.Limit limit.Levels; back = Some part }

      by : (o : Option PartName) → MatchOption o ((refused_as r ≡ refused_as high) × (p.mid ≡ root_in was)) (λ name. CommitsMerge {T = Put S} files_of m name (root_in was) p.mid part (Err r)) → p.mid.storage.failed ≡ was.storage.failed
      by None none = ap (λ (x : Root F). x.storage.failed) none.1
      by (Some name) d =
          let low = stopped_levels was.store.opened was.storage.failed (Some r.cause) d.cause in
          let one : levels_in (Some r.cause) ≡ 1 = ap (λ (c : Refused). levels_in (Some c)) full in
          absurd (omega (arith, low, one))

  -- no stop is counted while the count is the one at opening
  pub calm_put : (result : Result (Put S) (Returned S)) → Puts result → now.storage.failed ≡ was.store.opened → stops_by result ≡ 0
  calm_put (Ok x) p calm = refl
  calm_put (Err r) p calm = elim (refused_cases r p) [
    | inl high ↦ ap (λ (c : Refused). stops_in (Some c)) high.2
    | inr d ↦ (
        let later = goes.later in
        let mid = mid_failed r p in
        calm_stops {T = Put S} was.store.opened (stopped_by was.store.opened was.storage.failed) (publication_of_merge (merging_of work p.run sealed loaded) d.1.0) was.storage p.mid.storage part goes.found.opened goes.found.below
        (stopped_risen was.store.opened was.storage.failed) (Err r) (d.0, d.1.1.turn) (omega (arith, later, mid)) (mid ∙ calm)
        )
  ]

  -- no limit of levels is where no part has the greatest
  pub low_put : (result : Result (Put S) (Returned S)) → Puts result → has_greatest was.store ≡ false → levels_by result ≡ 0
  low_put (Ok x) p none = refl
  low_put (Err r) p none = elim (refused_cases r p) [
    | inl high ↦ absurd (false≢true (sym none ∙ high.0))
    | inr d ↦ stopped_levels was.store.opened was.storage.failed (Some r.cause) d.0
  ]

  pub keeps_put : (result : Result (Put S) (Returned S)) → Puts result → KeepsGreatest was.store now.store
  keeps_put (Ok (put.Gone name back)) gone = levels_alike was.store now.store goes.left.sound (cleared_alike work (root_in was) (root_in now) gone.clears)
  keeps_put (Ok put.Done) p = (parts_put {T = Put S} files_of work sealed loaded was now part (Ok put.Done) goes p).levels
  keeps_put (Err r) p = (parts_put {T = Put S} files_of work sealed loaded was now part (Err r) goes p).levels

  pub put_length : (result : Result (Put S) (Returned S)) → Puts result → now.store.length ≡ was.store.length
  put_length (Ok (put.Gone name back)) gone = gone.clears.length_is
  put_length (Ok put.Done) p =
      let d = merges_done files_of (merging_of work p.run sealed loaded) (root_in was) p.mid part {T = Put S} put.Done p.merges in
      ap (λ (r : Root F). r.store.length) p.left ∙ d.1.enters.length_is
  put_length (Err r) p = p.left.length_is ∙ (merges_refused files_of (merging_of work p.run sealed loaded) (root_in was) p.mid part (Put S) r p.merges).length_is

  -- what it found
  pub put_shows : (result : Result (Put S) (Returned S)) → Puts result → ShowsPut work result was.store was.storage.failed
  put_shows (Ok (put.Gone name back)) gone = gone.missing
  put_shows (Ok put.Done) p = ((p.run, p.there), (merges_done files_of (merging_of work p.run sealed loaded) (root_in was) p.mid part {T = Put S} put.Done p.merges).1.cause)
  put_shows (Err r) p = elim (refused_cases r p) [ inl high ↦ inl high | inr d ↦ inr d.0 ]

  -- by how much the disk's count rose
  pub put_risen : (result : Result (Put S) (Returned S)) → Puts result → IsRisen sealed.failed (cause_of result) was.storage.failed now.storage.failed
  put_risen (Ok (put.Gone name back)) gone = stays_risen sealed.failed None was.storage.failed now.storage.failed (ap (λ (x : Storage). x.failed) gone.clears.storage_is) (λ disk. let no : None ≡ Some refused.Disk = disk in cc)
  put_risen (Ok put.Done) p =
      let d = merges_done files_of (merging_of work p.run sealed loaded) (root_in was) p.mid part {T = Put S} put.Done p.merges in
      let risen = publishes_risen {T = Put S} (publication_of_merge (merging_of work p.run sealed loaded) d.0) was.storage p.mid.storage part (Ok put.Done) d.1.turn in
      subst (λ (r : Root F). IsRisen sealed.failed None was.storage.failed r.storage.failed) (sym p.left) risen
  put_risen (Err r) p = subst (λ (n : ℕ). IsRisen sealed.failed (Some r.cause) was.storage.failed n) (mid_failed r p) (elim (refused_cases r p) [
    | inl high ↦ stays_risen sealed.failed (Some r.cause) was.storage.failed p.mid.storage.failed (mid_stays r p high.2) (λ disk. (let no : Some (refused.Limit limit.Levels) ≡ Some refused.Disk = ap (λ (c : Refused). Some c) (sym high.2) ∙ disk in cc))
    | inr d ↦ publishes_risen {T = Put S} (publication_of_merge (merging_of work p.run sealed loaded) d.1.0) was.storage p.mid.storage part (Err r) d.1.1.turn
  ])

  -- what was sealed comes back
  pub put_back : (result : Result (Put S) (Returned S)) → Puts result → PutsBack part result
  put_back (Ok (put.Gone name back)) gone = gone.back_is
  put_back (Ok put.Done) p = tt
  put_back (Err r) p = by (within_levels (name_of_merge (sources_of was.store m))) p.merges
    where
      m : Merging
      m = merging_of work p.run sealed loaded

      high : Returned S
      high = record { cause = refused.Limit limit.Levels; back = Some part }

      kept : IsBack part high
      kept = record { same = refl; given = λ none. absurd (false≢true (sym none)); failed = λ disk. (let no : refused.Limit limit.Levels ≡ refused.Disk = disk in absurd cc) }

      by : (o : Option PartName) → MatchOption o ((refused_as r ≡ refused_as high) × (p.mid ≡ root_in was)) (λ name. CommitsMerge {T = Put S} files_of m name (root_in was) p.mid part (Err r)) → IsBack part r
      by None none = let same : r ≡ high = cc in subst (IsBack part) (sym same) kept
      by (Some name) d =
          let a = after_refusal (publication_of_merge m name) was.storage p.mid.storage part r.cause r.back d.turn in
          record { same = a.returned; given = a.given; failed = a.faulted }

-- ---- what was sealed, by the history of the put

-- a merge by a history is one by each longer one
pub seals_longer : (schema : Schema) (before front list : History) (names : List PartName) (m : Merging) → Begins front list → SealsMerge schema (before ++ front) names m → SealsMerge schema (before ++ list) names m
seals_longer schema before front list names m b r = record {
  front = r.front;
  more = r.more ++ b.0;
  grown = ap (λ (l : History). before ++ l) (sym b.1) ∙ (sym (append_assoc before front b.0) ∙ (ap (λ (l : History). l ++ b.0) r.grown ∙ append_assoc r.front r.more b.0));
  inputs = r.inputs;
  reach = r.reach;
  holds = r.holds;
}

-- ---- what the lock keeps

module _ {F S : Type 0} (files_of : F → Option Files) (given : Premise → Type 0) (before : History) (o : AtOpening) (was now : Shown F) (s : IsShared files_of given before o was) (goes : GoesOn was.root now.root) (list : now.list ≡ was.list) (tried : now.tried ≡ was.tried)
    (work : Work F) (sealed : Filled) (loaded : Loaded) (part : S) (front : History) (b : Begins front was.list) (facts : IsHanded files_of given before o front work) (may : MayPut given before front work sealed loaded) where
  abbrev m : Merging
  m = sealing work sealed loaded

  there : (t : Table) × (table_at was.root.store work.table ≡ Some t) × (t.schema ≡ work.schema)
  there = table_of was.root.store work.table work.schema (s.fits.schemas work.table ∙ there_begins o.tables front was.list work.table work.schema b facts.there)

  rows : given is_told → SealsRows there.0.schema m
  rows told = subst (λ (schema : Schema). SealsRows schema m) (sym there.2) (may.rows told)

  merges : given is_told → given is_listed → SealsMerge there.0.schema (before ++ was.list) (names_of_work work) m
  merges told known = subst (λ (schema : Schema). SealsMerge schema (before ++ was.list) (names_of_work work) m) (sym there.2) (seals_longer work.schema before front was.list (names_of_work work) m b (may.merges told known))

  pub shared_put : (result : Result (Put S) (Returned S)) → PutsWork files_of work sealed loaded was.root now.root part result → 0 < now.out → now.stops ≡ was.stops + stops_by result → now.levels ≡ was.levels + levels_by result
      → now.faults ≡ was.faults + (now.root.storage.failed - was.root.storage.failed) → IsShared files_of given before o now
  shared_put result d some stops levels faults = record {
    opened_is = goes.opened ∙ s.opened_is;
    policy_is = goes.policy ∙ s.policy_is;
    started_is = goes.started ∙ s.started_is;
    fits =
        subst (λ (l : History). Fits before o.tables l now.root.store) (sym list)
        (fits_kept before o.tables was.list was.root.store now.root.store s.fits (work_tables files_of work sealed loaded was.root now.root part result d) (put_length files_of work sealed loaded was.root now.root part goes result d));
    stood =
        stood_on files_of given before o was now now.root (was.stops + stops_by result) (sym stops) list tried
        (stood_put files_of given work sealed loaded was.root now.root part there.0 there.1 was.stops was.tried (begun_now o.begun was.list was.tried) (before ++ was.list) s.stood rows merges result d);
    idle = λ none. absurd (omega (arith, none, some));
    no_stop = λ calm.
        let still = s.no_stop (calm_before files_of given before o was now s goes calm) in
        let none = calm_put files_of work sealed loaded was.root now.root part goes result d (calm ∙ sym s.opened_is) in
        omega (arith, stops, still, none);
    no_level = λ none.
        let none_was = not_true (has_greatest was.root.store) (has_greatest now.root.store) (keeps_put files_of work sealed loaded was.root now.root part goes result d) none in
        let still = s.no_level none_was in
        let low = low_put files_of work sealed loaded was.root now.root part goes result d none_was in
        omega (arith, levels, still, low);
    since = s.since;
    below = s.below;
    met = (let later = goes.later in let met = s.met in omega (arith, faults, later, met));
  }

  -- what it found, and what the share has counted then
  pub put_turn : (whole : ℕ) (t u : Tally) → IsAudited whole t was → (result : Result (Put S) (Returned S)) → PutsWork files_of work sealed loaded was.root now.root part result
      → u ≡ tally t.parts (t.out - 1) (t.stops + stops_by result) (t.levels + levels_by result) (t.faults + (now.root.storage.failed - was.root.storage.failed))
      → CountsTurn files_of given before o was.list whole sealed.failed (t.out - 1) (cause_of result) (ShowsPut work result) t u
  unfolding at_turn
  put_turn whole t u least result d counted = record {
    turn = at_turn files_of given before o was s whole t least (ShowsPut work result) (put_shows files_of work sealed loaded was.root now.root part goes result d);
    counted = counts_risen sealed.failed (t.out - 1) (cause_of result) was.root.storage.failed now.root.storage.failed t u (put_risen files_of work sealed loaded was.root now.root part goes result d) counted;
  }
