-- What follows of a merge that is put: whether turns may follow, what the root stands for, and what a crash leaves.
use Rattle.std.proofs.Common.{◌≡◌, inl, inr, ℕ, Option, Some, None, Result, Ok, Err, true, false, Bool, cond, nat_lt, refl, sym, subst}
use Rattle.std.specs.Option.{ForSome}
use Rattle.std.specs.Prelude.{OnOk}
use Rattle.std.specs.Result.{MatchResult}
use Rattle.mt_values.specs.Annals as keeper
use Rattle.mt_values.specs.RootNames.{part_name}
use Rattle.mt_outside.specs.Files.{Files}
use Rattle.root_store.specs.durable_commit.declared.causes.Refused.{Refused}
use Rattle.root_store.specs.durable_commit.declared.causes.Refused.TheVariants as refused
use Rattle.root_store.specs.durable_commit.Commits.{IsOutside, stopped_by}
use Rattle.root_store.specs.durable_commit.Publications.{Storage}
use Rattle.root_store.specs.durable_commit.stage_dir.Stages.{AreSealed}
use Rattle.root_store.specs.mt_model.History.{History}
use Rattle.root_store.specs.part_name.declared.part.PartName.{PartName}
use Rattle.root_store.specs.part_name.PartNames.{part_text}
use Rattle.root_store.specs.table_core.Core.{Core}
use Rattle.root_store.specs.declared.store.CoreStore.{CoreStore}
use Rattle.root_store.specs.declared.store.Table.{Table}
use Rattle.root_store.specs.Cores.{ShowsCore}
use Rattle.root_store.specs.Crashes.{KeepsThroughCrashes}
use Rattle.root_store.specs.Soundness.{HasSoundParts, RootStands}
use Rattle.root_store.specs.Stores.{CoreStands, table_at}
use Rattle.root_commits.specs.declared.commits.Returned.{Returned}
use Rattle.root_commits.specs.Commits.{IsCause, SameStore, StandsWhere, cause_of}
use Rattle.root_commits.specs.Events.{IsPut}
use Rattle.root_commits.specs.Images.{LeavesAfter, LeavesOne}
use Rattle.root_commits.specs.Merges.{EntersMerge, Merging, SealsForKept, SealsMerge, SealsRows, source_names}
use Rattle.root_commits.specs.Publications.{Publishes, publication_of_merge}
use Rattle.root_commits.specs.Turns.{CommitsMerge, IsReadyRoot, MaySwap, Root}
use Rattle.root_commits.proofs.CrashImages.{Shows}
use Rattle.root_commits.proofs.Holding.{held_same}
use Rattle.root_commits.proofs.MergeCauses.{stopped_none}
use Rattle.root_commits.proofs.MergeCrashes.{publishable, shows_by_merge}
use Rattle.root_commits.proofs.MergeReady.{held_merged, ready_merged, ready_unsettled}
use Rattle.root_commits.proofs.MergeTurns.{fit}
use Rattle.root_commits.proofs.MergedStores.{stands_merged}
use Rattle.root_commits.proofs.PutEvents.{merge_put}
use Rattle.root_commits.proofs.SameStores.{stands_same}
use Rattle.root_commits.proofs.Sounding.{ready_same}
use Rattle.root_commits.proofs.TurnCrashes.{Fits, crashes_left, images_left, root_left}
use Rattle.root_commits.proofs.Turning.{IsInside, given_or_kept, none_shown_by}

-- what is shown of the count of faults is no cause of the outside
pub stopped_inside : (opened now : ℕ) → IsInside (stopped_by opened now)
stopped_inside opened now s is outside = by (nat_lt opened now) is
  where
    by : (b : Bool) → cond b (Some (refused.Stopped opened now)) None ≡ Some s → ⊥
    by true found = let same : refused.Stopped opened now ≡ s = cc in subst (λ (r : Refused). IsOutside (Some r)) (sym same) outside
    by false found = cc

module _ {F : Type 0} (files_of : F → Option Files) (m : Merging) (name : PartName) (was now : Root F) (from : MaySwap m name was) where
  abbrev shown : Option Refused
  shown = stopped_by was.store.opened was.storage.failed

  calm : shown ≡ None → was.storage.failed ≡ was.store.opened
  calm none = stopped_none was.store.opened was.storage.failed none from.ready.opened

  -- by its cause, by what became of the outside, and by what the store has then
  pub merges : {T S : Type 0} (sealed : S) (result : Result T (Returned S)) → IsCause shown (cause_of result) → Publishes (publication_of_merge m name) was.storage now.storage sealed result
      → MatchResult result (λ _. EntersMerge files_of m name was.store now.store) (λ _. SameStore was.store now.store) → CommitsMerge files_of m name was now sealed result
  merges {T} {S} sealed result cause turn enters = record { from = from; cause = cause; turn = turn; enters = enters; ready = by result cause turn enters }
    where
      inside : IsInside shown
      inside = stopped_inside was.store.opened was.storage.failed

      by : (result : Result T (Returned S)) → IsCause shown (cause_of result) → Publishes (publication_of_merge m name) was.storage now.storage sealed result
          → MatchResult result (λ _. EntersMerge files_of m name was.store now.store) (λ _. SameStore was.store now.store) → IsReadyRoot now
      by (Ok x) cause turn enters =
          ready_merged was.store now.store m from.ordered from.ready.sound (fit m name was from) name from.named enters from.low was.storage now.storage (calm (none_shown_by shown None inside cause tt)) from.ready turn
      by (Err r) cause turn enters = elim (given_or_kept (publication_of_merge m name) was.storage now.storage sealed r.cause r.back turn) [
        | inl d ↦ ready_unsettled was.store now.store m from.ordered (fit m name was from) name from.named from.low r.cause was.storage now.storage (calm (none_shown_by shown (Some r.cause) inside cause d.outside)) enters d from.ready
        | inr k ↦ subst (λ (s : Storage). IsReadyRoot (record { store = now.store; storage = s })) (sym k.1.stays) (ready_same was.store now.store enters was.storage.failed was.storage.disk from.ready)
      ]

  pub shows : EntersMerge files_of m name was.store now.store → (h : History) → (files : Files) → Shows was.store (part_name m.table (part_text name)) files h now.store
  shows e h files = shows_by_merge was.store m from.ordered (fit m name was from) name from.named from.low files_of h files now.store e

  -- ---- what was sealed is what one merge leaves of the sources

  module _ (t : Table) (at : table_at was.store m.table ≡ Some t) where
    pub fits : ForSome m.files AreSealed → (h : History) → SealsMerge t.schema h (source_names was.store m) m → CoreStands files_of h was.store → Fits was.store (publication_of_merge m name) h
    fits synced h is stands = publishable was.store m from.ordered (fit m name was from) name from.named from.low files_of h t at stands from.run is synced

    pub later : EntersMerge files_of m name was.store now.store → (h : History) → SealsMerge t.schema h (source_names was.store m) m → CoreStands files_of h was.store → CoreStands files_of h now.store
    later e h is stands = stands_merged files_of h was.store now.store m t at from.ordered (fit m name was from) is name from.named e stands from.run

    pub put_event : EntersMerge files_of m name was.store now.store → (core : Core) → SealsMerge t.schema core.history (source_names was.store m) m → ShowsCore files_of was.store core → IsPut files_of core m now.store
    put_event e core is s = merge_put files_of core was.store now.store m t at s from.run from.ordered (fit m name was from) is name from.named e from.low

-- ---- the laws

module _ {F : Type 0} (files_of : F → Option Files) (m : Merging) (name : PartName) (was now : Root F) where
  abbrev shown_against : Option Refused
  shown_against = stopped_by was.store.opened was.storage.failed

  abbrev EntersNow : CoreStore F → CoreStore F → Type 0
  EntersNow = EntersMerge files_of m name

  inside_now : IsInside shown_against
  inside_now = stopped_inside was.store.opened was.storage.failed

  pub merge_held : {T S : Type 0} (sealed : S) → (t : Table) → table_at was.store m.table ≡ Some t → SealsRows t.schema m → (result : Result T (Returned S)) → CommitsMerge files_of m name was now sealed result → HasSoundParts files_of was.store → HasSoundParts files_of now.store
  merge_held sealed t at is (Ok x) d held = held_merged files_of was.store now.store m t at d.from.ordered d.from.ready.sound (fit m name was d.from) is name d.from.named d.enters held
  merge_held sealed t at is (Err r) d held = held_same files_of was.store now.store d.enters held

  module _ (t : Table) (at : table_at was.store m.table ≡ Some t) where
    -- what was sealed is what one merge leaves of the sources, of which it is known by a history
    abbrev pub Seals : History → Type 0
    Seals h = SealsMerge t.schema h (source_names was.store m) m

    pub merge_stands : {T S : Type 0} (sealed : S) (result : Result T (Returned S)) → CommitsMerge files_of m name was now sealed result → (h : History) → Seals h → CoreStands files_of h was.store → StandsWhere files_of h now.store now.storage.disk (RootStands was.storage.disk h)
    merge_stands {T} {S} sealed result d h is stands = record {
      store_stands = by result d;
      root_stands = λ root. root_left (MaySwap m name was) shown_against (publication_of_merge m name) EntersNow was now sealed inside_now files_of Seals d.from.ready (calm files_of m name was now d.from)
          (λ none. fits files_of m name was now d.from t at) (λ none e k s. shows files_of m name was now d.from e k) (λ none e synced. later files_of m name was now d.from t at e) result d h is stands refl root;
    }
      where
        by : (r : Result T (Returned S)) → CommitsMerge files_of m name was now sealed r → CoreStands files_of h now.store
        by (Ok x) d = later files_of m name was now d.from t at d.enters h is stands
        by (Err r) d = stands_same files_of h was.store now.store stands d.enters

    pub merge_event : {T S : Type 0} (sealed : S) (result : Result T (Returned S)) → CommitsMerge files_of m name was now sealed result → (core : Core) → Seals core.history → ShowsCore files_of was.store core → OnOk result (IsPut files_of core m now.store)
    merge_event sealed (Ok x) d core is s = put_event files_of m name was now d.from t at d.enters core is s
    merge_event sealed (Err r) d core is s = tt

    pub merge_images : {T S : Type 0} (sealed : S) (result : Result T (Returned S)) → CommitsMerge files_of m name was now sealed result → (h : History) → Seals h → CoreStands files_of h was.store → LeavesOne was h → LeavesAfter was now h h result
    merge_images sealed result d =
        images_left (MaySwap m name was) shown_against (publication_of_merge m name) EntersNow was now sealed inside_now files_of Seals d.from.ready (calm files_of m name was now d.from)
        (λ none. fits files_of m name was now d.from t at) (λ none e k s. shows files_of m name was now d.from e k) (λ none e synced. later files_of m name was now d.from t at e) result d

    pub merge_crashes : {T S : Type 0} (sealed : S) (result : Result T (Returned S)) → CommitsMerge files_of m name was now sealed result → SealsForKept files_of t.schema was.store was.storage.annals (source_names was.store m) m
        → (first : keeper.Told) (start : ℕ) → KeepsThroughCrashes files_of was.store was.storage first start → KeepsThroughCrashes files_of now.store now.storage first start
    merge_crashes sealed result d =
        crashes_left (MaySwap m name was) shown_against (publication_of_merge m name) EntersNow was now sealed inside_now files_of (λ h. CoreStands files_of h was.store → Seals h) d.from.ready (calm files_of m name was now d.from)
        (λ none synced h is stands. fits files_of m name was now d.from t at synced h (is stands) stands) (λ none e k s. shows files_of m name was now d.from e k)
        (λ none e synced h is stands. later files_of m name was now d.from t at e h (is stands) stands) result d
