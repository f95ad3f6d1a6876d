-- A turn that leaves the root ready, and what it keeps: a commit, and a turn that changed marks alone.
use Rattle.std.proofs.Common.{◌≡◌, ◌≢◌, ℕ, ◌≤◌, arith, IsSome, Option, Some, None, Result, Ok, Err, IfOk, OnErr, List, map, refl, sym, ap, ◌∙◌, subst}
use Rattle.std.proofs.lemmas.Bool.{false≢true}
use Rattle.std.specs.Option.{MatchOption}
use Rattle.mt_base.specs.declared.memory.NoMemory.{NoMemory}
use Rattle.mt_values.specs.Grid.{Grid}
use Rattle.mt_outside.specs.Files.{Files}
use Rattle.root_commits.specs.durable_commit.declared.causes.Refused.{Refused}
use Rattle.root_commits.specs.durable_commit.Publications.{IsUnsettled, Publication, Storage}
use Rattle.root_commits.specs.part_writer.declared.loaded.Loaded.{Loaded}
use Rattle.root_commits.specs.stage_dir.Stages.{Filled}
use Rattle.root_commits.specs.part_reader.declared.reading.Part.{Part}
use Rattle.root_commits.specs.part_set.declared.kept.Kept.{Kept}
use Rattle.root_commits.specs.part_set.declared.run.Run.{Run}
use Rattle.root_commits.specs.part_set.declared.set.PartSet.{PartSet}
use Rattle.root_commits.specs.part_name.declared.part.PartName.{PartName}
use Rattle.root_commits.specs.part_set.Runs.{cleared}
use Rattle.root_commits.specs.part_set.Sets.{parts_of}
use Rattle.root_commits.specs.root_store.declared.store.CoreStore.{CoreStore}
use Rattle.root_commits.specs.root_store.declared.store.Table.{Table}
use Rattle.root_commits.specs.root_store.Crashes.{KeepsThroughCrashes}
use Rattle.root_commits.specs.root_store.Soundness.{IsReady}
use Rattle.root_commits.specs.root_store.Stores.{table_at}
use Rattle.root_commits.specs.Commits.{EntersSealed, SameStore, refuses_part}
use Rattle.root_commits.specs.declared.commits.Returned.{Returned}
use Rattle.root_commits.specs.Images.{LeavesOne}
use Rattle.root_commits.specs.Publications.{IsKeptBack, Publishes, adding, partition_of_adding, publication_of_part}
use Rattle.root_commits.specs.Turns.{Commits, CommitsPart, MayAdd, Root}
use Rattle.shared_store.specs.declared.work.Work.{Work}
use Rattle.shared_store.specs.Engines.{GoesOn, IsOpen, Opened, root_in}
use Rattle.shared_store.specs.Works.{Clears, StandsOn, TakesUp, names_of_work}
use Rattle.shared_store.proofs.Marking.{AreAlike, StoresAlike, alike_itself, held_alike, keeps_alike, leaves_alike, marked_alike, ready_alike, shows_alike, stands_alike}

-- ---- commits

-- what a commit did to the disk took no fault away
pub publishes_later : {T S : Type 0} (p : Publication) (was now : Storage) (sealed : S) (result : Result T (Returned S)) → Publishes p was now sealed result → was.failed ≤ now.failed
publishes_later p was now sealed (Ok x) done = done.later
publishes_later {S = S} p was now sealed (Err r) done = by r.back done
  where
    by : (b : Option S) → MatchOption b (IsUnsettled p r.cause was now) (λ back. IsKeptBack sealed back r.cause was now) → was.failed ≤ now.failed
    by None unsettled = unsettled.later
    by (Some back) kept = subst (λ (s : Storage). was.failed ≤ s.failed) (sym kept.stays) (omega arith)

module _ {F S : Type 0} (From : Type 0) (shown : Option Refused) (p : Publication) (Enters : CoreStore F → CoreStore F → Type 0) (sealed : S) where
  -- the same commit, whatever is answered of it where it was done
  pub done_as : {T U : Type 0} (was now : Root F) (x : T) (y : U) → Commits From shown p Enters was now sealed (Ok x) → Commits From shown p Enters was now sealed (Ok y)
  done_as was now x y d = record { from = d.from; cause = d.cause; turn = d.turn; enters = d.enters; ready = d.ready }

  pub refused_as : {T U : Type 0} (was now : Root F) (r : Returned S) → Commits {T = T} From shown p Enters was now sealed (Err r) → Commits {T = U} From shown p Enters was now sealed (Err r)
  refused_as was now r d = record { from = d.from; cause = d.cause; turn = d.turn; enters = d.enters; ready = d.ready }

  module _ (keeps : (old new : CoreStore F) → Enters old new → new.opened ≡ old.opened) where
    pub commit_opened : {T : Type 0} (was now : Root F) (result : Result T (Returned S)) → Commits From shown p Enters was now sealed result → now.store.opened ≡ was.store.opened
    commit_opened was now (Ok x) d = keeps was.store now.store d.enters
    commit_opened was now (Err r) d = d.enters.opened_is

    -- turns may follow a commit
    pub commit_goes : {T : Type 0} (was now : Opened F) (result : Result T (Returned S)) → Commits From shown p Enters (root_in was) (root_in now) sealed result → IsOpen was → now.policy ≡ was.policy → now.started ≡ was.started → GoesOn was now
    commit_goes was now result d ready policy started = record {
      found = ready;
      left = d.ready;
      opened = commit_opened (root_in was) (root_in now) result d;
      policy = policy;
      started = started;
      later = publishes_later p was.storage now.storage sealed result d.turn;
    }

-- ---- a block that is added to a table, which is there

table_there : {F : Type 0} (store : CoreStore F) (table : List ℕ) → IsSome (table_at store table) → (t : Table) × (table_at store table ≡ Some t)
table_there store table some = by (table_at store table) refl some
  where
    by : (o : Option Table) → table_at store table ≡ o → IsSome o → (t : Table) × (table_at store table ≡ Some t)
    by (Some t) at some = (t, at)
    by None none some = absurd (false≢true some)

module _ {F S : Type 0} (files_of : F → Option Files) (session : ℕ) (table : List ℕ) (block : Grid) (sealed : Filled) (loaded : Loaded) (seen was now : Opened F) (same : seen ≡ was) (part : S) where
  abbrev pub AddsTo : {T : Type 0} → Opened F → Result T (Returned S) → Type 0
  AddsTo root result = (t : Table) → table_at root.store table ≡ Some t → CommitsPart files_of (adding session table t block sealed loaded) (root_in root) (root_in now) part result

  pub added_done : {T U : Type 0} (x : T) (y : U) → AddsTo seen (Ok x) → AddsTo was (Ok y)
  added_done x y adds = subst (λ (o : Opened F). AddsTo o (Ok y)) same (λ t at. let d = adds t at in record { from = d.from; cause = d.cause; turn = d.turn; enters = d.enters; ready = d.ready })

  pub added_refused : (T U : Type 0) (r : Returned S) → AddsTo {T = T} seen (Err r) → AddsTo {T = U} was (Err r)
  added_refused T U r adds = subst (λ (o : Opened F). AddsTo {T = U} o (Err r)) same (λ t at. let d = adds t at in record { from = d.from; cause = d.cause; turn = d.turn; enters = d.enters; ready = d.ready })

  module _ {T : Type 0} (result : Result T (Returned S)) (there : IsSome (table_at was.store table)) (adds : AddsTo seen result) where
    seen_there : (t : Table) × (table_at seen.store table ≡ Some t)
    seen_there = table_there seen.store table (subst (λ (o : Opened F). IsSome (table_at o.store table)) (sym same) there)

    pub added_ready : IsOpen now
    added_ready = (adds seen_there.0 seen_there.1).ready

    pub added_goes : IsOpen seen → now.policy ≡ seen.policy → now.started ≡ seen.started → GoesOn was now
    added_goes ready policy started =
        let a = adding session table seen_there.0 block sealed loaded in
        let d = adds seen_there.0 seen_there.1 in
        subst (λ (o : Opened F). GoesOn o now) same
        (commit_goes (MayAdd a (root_in seen)) (refuses_part seen.store table (partition_of_adding a) seen_there.0.drawn seen.storage.failed) (publication_of_part a) (EntersSealed files_of sealed.files loaded table (partition_of_adding a) seen_there.0)
        part (λ old new e. e.enters.opened_is) seen now result d ready policy started)

module _ {F : Type 0} where
  -- ---- stores that differ in marks alone

  pub store_itself : (store : CoreStore F) → StoresAlike store store
  store_itself store = record { parts = λ u. alike_itself (parts_of store.set u); tables = refl; mutations_are = refl; length_is = refl; opened_is = refl }

  pub same_alike : (old new : CoreStore F) → SameStore old new → StoresAlike old new
  same_alike old new same = record {
    parts = λ u. subst (λ (ks : List (Kept (Part F))). AreAlike (parts_of old.set u) ks) (sym (same.parts u)) (alike_itself (parts_of old.set u));
    tables = same.tables;
    mutations_are = same.mutations_are;
    length_is = same.length_is;
    opened_is = same.opened_is;
  }

  -- marks that were taken away after a turn that changed nothing
  pub cleared_after : (work : Work F) (was between now : Root F) → SameStore was.store between.store → Clears work between now → (storage_is : between.storage ≡ was.storage) → Clears work was now
  cleared_after work was between now same c storage_is = record {
    cleared_are = c.cleared_are ∙ ap (λ (ks : List (Kept (Part F))). map (cleared (names_of_work work)) ks) (same.parts work.table);
    others = λ u other. c.others u other ∙ same.parts u;
    tables = c.tables ∙ same.tables;
    mutations_are = c.mutations_are ∙ same.mutations_are;
    length_is = c.length_is ∙ same.length_is;
    opened_is = c.opened_is ∙ same.opened_is;
    storage_is = c.storage_is ∙ storage_is;
  }

  -- ---- roots that differ so

  module _ (files_of : F → Option Files) (was now : Opened F) (alike : StoresAlike was.store now.store) (storage_is : now.storage ≡ was.storage) where
    pub alike_on : StandsOn files_of was now
    alike_on = record {
      stands = λ h. stands_alike was.store now.store alike files_of h;
      shows = λ core. shows_alike was.store now.store alike files_of core;
      held = held_alike was.store now.store alike files_of;
      leaves = λ h one. subst (λ (s : Storage). LeavesOne (record { store = now.store; storage = s }) h) (sym storage_is) (leaves_alike was.store now.store alike was.storage h one);
      crashes = λ first start keeps.
          subst (λ (s : Storage). KeepsThroughCrashes files_of now.store s first start) (sym storage_is)
          (keeps_alike was.store now.store alike files_of was.storage first start keeps);
      storage_is = storage_is;
    }

    pub alike_goes : now.policy ≡ was.policy → now.started ≡ was.started → IsOpen was → GoesOn was now
    alike_goes policy started ready = record {
      found = ready;
      left = subst (λ (s : Storage). IsReady s.failed s.disk now.store) (sym storage_is) (ready_alike was.store now.store alike was.storage.failed was.storage.disk ready);
      opened = alike.opened_is;
      policy = policy;
      started = started;
      later = subst (λ (s : Storage). was.storage.failed ≤ s.failed) (sym storage_is) (omega arith);
    }

  -- as the fields of the root showed it
  pub goes_seen : (files_of : F → Option Files) (seen was now : Opened F) → seen ≡ was → IsOpen seen → StoresAlike seen.store now.store → now.storage ≡ seen.storage → now.policy ≡ seen.policy → now.started ≡ seen.started → GoesOn was now
  goes_seen files_of seen was now same ready alike storage_is policy started = subst (λ (o : Opened F). GoesOn o now) same (alike_goes files_of seen now alike storage_is policy started ready)

  -- a turn after which the root is ready
  pub goes_by : (seen was now : Opened F) → seen ≡ was → IsOpen seen → IsOpen now → now.store.opened ≡ seen.store.opened → now.policy ≡ seen.policy → now.started ≡ seen.started → seen.storage.failed ≤ now.storage.failed → GoesOn was now
  goes_by seen was now same ready ready_now opened policy started later =
      subst (λ (o : Opened F). GoesOn o now) same (record { found = ready; left = ready_now; opened = opened; policy = policy; started = started; later = later })

  -- a turn that changed nothing
  pub goes_itself : (was : Opened F) → IsOpen was → GoesOn was was
  goes_itself was ready = record { found = ready; left = ready; opened = refl; policy = refl; started = refl; later = omega arith }

  -- ---- marks of a set

  -- the store with another set of parts
  abbrev pub with_set : CoreStore F → PartSet (Part F) → CoreStore F
  with_set store set = record { tables = store.tables; set = set; mutations = store.mutations; length = store.length; opened = store.opened }

  -- the marks of a work's sources are taken from the set
  pub clears_set : (work : Work F) (names : List PartName) → names ≡ names_of_work work → (store : CoreStore F) (set : PartSet (Part F)) (storage : Storage) → parts_of set work.table ≡ map (cleared names) (parts_of store.set work.table)
      → ((u : List ℕ) → u ≢ work.table → parts_of set u ≡ parts_of store.set u) → Clears work (record { store = store; storage = storage }) (record { store = with_set store set; storage = storage })
  clears_set work names named store set storage cleared_are others = record {
    cleared_are = cleared_are ∙ ap (λ (ns : List PartName). map (cleared ns) (parts_of store.set work.table)) named;
    others = others;
    tables = refl;
    mutations_are = refl;
    length_is = refl;
    opened_is = refl;
    storage_is = refl;
  }

  -- a work was taken up, or there was no memory
  pub taking_alike : (run : Run) (old new : CoreStore F) (r : Result (Work F) NoMemory) → IfOk r (λ work. TakesUp old new work run) → OnErr r (new ≡ old) → StoresAlike old new
  taking_alike run old new (Ok work) takes same = marked_alike work run old new takes.marks
  taking_alike run old new (Err e) takes same = subst (λ (s : CoreStore F). StoresAlike old s) (sym same) (store_itself old)
