-- What follows of a merge that is put in place of a work's sources, where the laws of its commit are given.
use Rattle.std.proofs.Common.{◌≡◌, ◌≢◌, inl, inr, ℕ, List, Option, Result, Ok, Err, refl, sym, ap, subst}
use Rattle.std.specs.Prelude.{OnErr, OnOk}
use Rattle.std.specs.Result.{MatchResult}
use Rattle.mt_values.specs.Annals as keeper
use Rattle.mt_values.specs.declared.schema.Schema.{Schema}
use Rattle.mt_outside.specs.Files.{Files}
use Rattle.root_commits.specs.durable_commit.declared.causes.Refused.TheVariants as refused
use Rattle.root_commits.specs.durable_commit.Publications.{Storage}
use Rattle.root_commits.specs.mt_model.History.{History}
use Rattle.root_commits.specs.part_name.declared.part.PartName.{PartName}
use Rattle.root_commits.specs.part_set.declared.run.Run.{Run}
use Rattle.root_commits.specs.part_set.Runs.{IsMissing, names_of_parts, parts_of_run}
use Rattle.root_commits.specs.part_writer.declared.loaded.Loaded.{Loaded}
use Rattle.root_commits.specs.stage_dir.Stages.{Filled}
use Rattle.root_commits.specs.table_core.Core.{Core}
use Rattle.root_commits.specs.root_store.declared.store.CoreStore.{CoreStore}
use Rattle.root_commits.specs.root_store.Cores.{ShowsCore}
use Rattle.root_commits.specs.root_store.Crashes.{KeepsThroughCrashes}
use Rattle.root_commits.specs.root_store.Soundness.{HasSoundParts, RootStands}
use Rattle.root_commits.specs.root_store.Stores.{CoreStands}
use Rattle.root_commits.specs.declared.commits.Returned.{Returned}
use Rattle.root_commits.specs.Commits.{StandsWhere}
use Rattle.root_commits.specs.Events.{IsPut}
use Rattle.root_commits.specs.Images.{LeavesAfter, LeavesEither, LeavesOne}
use Rattle.root_commits.specs.Merges.{Merging, SealsMerge}
use Rattle.root_commits.specs.Turns.{CommitsMerge, Root}
use Rattle.root_commits.proofs.CrashImages.{either_same}
use Rattle.shared_store.specs.declared.work.Work.{Work}
use Rattle.shared_store.specs.Engines.{GoesThroughCrashes, Opened, root_in}
use Rattle.shared_store.specs.Works.{Clears, IsGone, MergesRun, PutsRun, SourcesStand, merging_of, names_of_work, parts_beside}
use Rattle.shared_store.proofs.Marked.{same_alike, store_itself}
use Rattle.shared_store.proofs.Marking.{StoresAlike, cleared_alike, held_alike, keeps_alike, leaves_alike, shows_alike, stands_alike}
use Rattle.shared_store.proofs.Merging.{merges_cases, merges_done, merges_done_as, merges_refused, merges_refused_as}

-- ---- how a work is put

module _ {F S : Type 0} (files_of : F → Option Files) (work : Work F) (sealed : Filled) (loaded : Loaded) (seen was now : Opened F) (same : seen ≡ was) (part : S) (run : Run) (there : SourcesStand seen.store work run) where
  pub put_done : {T U : Type 0} (x : T) (y : U) → MergesRun files_of (merging_of work run sealed loaded) (root_in seen) (root_in now) part (Ok x) → PutsRun files_of work sealed loaded was now part (Ok y)
  put_done x y merges = subst (λ (o : Opened F). PutsRun files_of work sealed loaded o now part (Ok y)) same (record {
    run = run;
    there = there;
    mid = root_in now;
    merges = merges_done_as files_of (merging_of work run sealed loaded) (root_in seen) (root_in now) part x y merges;
    left = refl;
  })

  pub put_refused : (T U : Type 0) (mid : Root F) (r : Returned S) → MergesRun {T = T} files_of (merging_of work run sealed loaded) (root_in seen) mid part (Err r) → Clears work mid (root_in now) → PutsRun {T = U} files_of work sealed loaded was now part (Err r)
  put_refused T U mid r merges clears = subst (λ (o : Opened F). PutsRun {T = U} files_of work sealed loaded o now part (Err r)) same (record {
    run = run;
    there = there;
    mid = mid;
    merges = merges_refused_as files_of (merging_of work run sealed loaded) (root_in seen) mid part T U r merges;
    left = clears;
  })

-- its sources don't stand in a run
pub put_gone : {F S : Type 0} (work : Work F) (seen was now : Opened F) → seen ≡ was → (part : S) (name : PartName) → IsMissing (names_of_work work) (parts_beside seen.store work) name → Clears work (root_in seen) (root_in now) → IsGone was now work part name part
put_gone work seen was now same part name missing clears = subst (λ (o : Opened _). IsGone o now work part name part) same (record { missing = missing; back_is = refl; clears = clears })

-- ---- what was sealed, by the names of the run in which the sources stand

pub named_sources : {F : Type 0} (schema : Schema) (h : History) (store : CoreStore F) (work : Work F) (run : Run) → SourcesStand store work run → (m : Merging) → SealsMerge schema h (names_of_work work) m → SealsMerge schema h (names_of_parts (parts_of_run run (parts_beside store work))) m
named_sources schema h store work run stands m is = subst (λ (names : List PartName). SealsMerge schema h names m) (sym stands.named) is

-- ---- the laws

module _ {F T S : Type 0} (files_of : F → Option Files) (work : Work F) (sealed : Filled) (loaded : Loaded) (was now : Opened F) (part : S) where
  abbrev Puts : Result T (Returned S) → Type 0
  Puts result = PutsRun files_of work sealed loaded was now part result

  module _ (result : Result T (Returned S)) (p : Puts result) where
    abbrev m : Merging
    m = merging_of work p.run sealed loaded

    abbrev Does : PartName → Type 0
    Does name = CommitsMerge files_of m name (root_in was) p.mid part result

    -- the store that the commit left and the one that there is then differ in marks alone, and the outside is the same
    pub left_alike : StoresAlike p.mid.store now.store × (now.storage ≡ p.mid.storage)
    left_alike = by result p.left
      where
        by : (r : Result T (Returned S)) → MatchResult r (λ _. root_in now ≡ p.mid) (λ _. Clears work p.mid (root_in now)) → StoresAlike p.mid.store now.store × (now.storage ≡ p.mid.storage)
        by (Ok x) same = (subst (λ (r : Root F). StoresAlike r.store now.store) same (store_itself now.store), ap (λ (r : Root F). r.storage) same)
        by (Err r) clears = (cleared_alike work p.mid (root_in now) clears, clears.storage_is)

    pub put_stands : (h : History) → ((name : PartName) → Does name → StandsWhere files_of h p.mid.store p.mid.storage.disk (RootStands was.storage.disk h)) → CoreStands files_of h was.store
        → CoreStands files_of h now.store × (RootStands was.storage.disk h → RootStands now.storage.disk h)
    put_stands h law stands = elim (merges_cases files_of m (root_in was) p.mid part result p.merges) [
      | inl high ↦ (
        then_stands (subst (λ (r : Root F). CoreStands files_of h r.store) (sym high.1) stands),
        (λ root. then_root (subst (λ (r : Root F). RootStands r.storage.disk h) (sym high.1) root)),
      )
      | inr d ↦ (let done = law d.0 d.1 in (then_stands done.store_stands, (λ root. then_root (done.root_stands root))))
    ]
      where
        then_stands : CoreStands files_of h p.mid.store → CoreStands files_of h now.store
        then_stands s = stands_alike p.mid.store now.store left_alike.0 files_of h s

        then_root : RootStands p.mid.storage.disk h → RootStands now.storage.disk h
        then_root root = subst (λ (s : Storage). RootStands s.disk h) (sym left_alike.1) root

    pub put_held : ((name : PartName) → Does name → HasSoundParts files_of was.store → HasSoundParts files_of p.mid.store) → HasSoundParts files_of was.store → HasSoundParts files_of now.store
    put_held law held = held_alike p.mid.store now.store left_alike.0 files_of (elim (merges_cases files_of m (root_in was) p.mid part result p.merges) [
      | inl high ↦ subst (λ (r : Root F). HasSoundParts files_of r.store) (sym high.1) held
      | inr d ↦ law d.0 d.1 held
    ])

    pub put_crashes : ((name : PartName) → Does name → (first : keeper.Told) (start : ℕ) → KeepsThroughCrashes files_of was.store was.storage first start → KeepsThroughCrashes files_of p.mid.store p.mid.storage first start) → GoesThroughCrashes files_of was now
    put_crashes law first start keeps =
        subst (λ (s : Storage). KeepsThroughCrashes files_of now.store s first start) (sym left_alike.1)
        (keeps_alike p.mid.store now.store left_alike.0 files_of p.mid.storage first start (elim (merges_cases files_of m (root_in was) p.mid part result p.merges) [
          | inl high ↦ subst (λ (r : Root F). KeepsThroughCrashes files_of r.store r.storage first start) (sym high.1) keeps
          | inr d ↦ law d.0 d.1 first start keeps
        ]))

    -- what a crash leaves after the commit it leaves after the turn
    then_images : (h : History) → LeavesAfter (root_in was) p.mid h h result → LeavesAfter (root_in was) (root_in now) h h result
    then_images h left = record {
      during = subst (λ (s : Storage). LeavesEither s.disk s.clock was.storage.clock h h) (sym left_alike.1) left.during;
      after = by result left.after;
    }
      where
        one : LeavesOne p.mid h → LeavesOne (root_in now) h
        one leaves = subst (λ (s : Storage). LeavesOne (record { store = now.store; storage = s }) h) (sym left_alike.1) (leaves_alike p.mid.store now.store left_alike.0 p.mid.storage h leaves)

        by : (r : Result T (Returned S)) → MatchResult r (λ _. LeavesOne p.mid h) (λ r. r.cause ≢ refused.Disk → LeavesOne p.mid h) → MatchResult r (λ _. LeavesOne (root_in now) h) (λ r. r.cause ≢ refused.Disk → LeavesOne (root_in now) h)
        by (Ok x) leaves = one leaves
        by (Err r) leaves = λ other. one (leaves other)

    pub put_images : (h : History) → ((name : PartName) → Does name → LeavesAfter (root_in was) p.mid h h result) → LeavesOne (root_in was) h → LeavesAfter (root_in was) (root_in now) h h result
    put_images h law leaves = then_images h (elim (merges_cases files_of m (root_in was) p.mid part result p.merges) [
      | inl high ↦ subst (λ (r : Root F). LeavesAfter (root_in was) r h h result) (sym high.1) stayed
      | inr d ↦ law d.0 d.1
    ])
      where
        by : (r : Result T (Returned S)) → MatchResult r (λ _. LeavesOne (root_in was) h) (λ r. r.cause ≢ refused.Disk → LeavesOne (root_in was) h)
        by (Ok x) = leaves
        by (Err r) = λ other. leaves

        stayed : LeavesAfter (root_in was) (root_in was) h h result
        stayed = record { during = either_same (root_in was) (root_in was) h leaves refl refl h; after = by result }

  -- ---- the event

  pub put_event : (result : Result T (Returned S)) (p : Puts result) → (core : Core) → ((name : PartName) → CommitsMerge files_of (merging_of work p.run sealed loaded) name (root_in was) p.mid part result → OnOk result (IsPut files_of core (merging_of work p.run sealed loaded) p.mid.store))
      → OnOk result (IsPut files_of core (merging_of work p.run sealed loaded) now.store)
  put_event (Ok x) p core law =
      let d = merges_done files_of (merging_of work p.run sealed loaded) (root_in was) p.mid part x p.merges in
      subst (λ (r : Root F). IsPut files_of core (merging_of work p.run sealed loaded) r.store) (sym p.left) (law d.0 d.1)
  put_event (Err r) p core law = tt

  pub put_no_event : (result : Result T (Returned S)) → Puts result → (core : Core) → ShowsCore files_of was.store core → OnErr result (ShowsCore files_of now.store core)
  put_no_event (Ok x) p core shows = tt
  put_no_event (Err r) p core shows =
      let same = merges_refused files_of (merging_of work p.run sealed loaded) (root_in was) p.mid part T r p.merges in
      shows_alike p.mid.store now.store (cleared_alike work p.mid (root_in now) p.left) files_of core (shows_alike was.store p.mid.store (same_alike was.store p.mid.store same) files_of core shows)
