-- What follows of a CREATE that is committed: whether turns may follow, what the root stands for, and what a crash leaves.
use Rattle.std.proofs.Common.{◌≡◌, inl, inr, ◌<◌, ℕ, Option, Some, None, Result, Ok, Err, false, length, sym, ap, subst, arith}
use Rattle.std.specs.List.{All}
use Rattle.std.specs.Option.{ForSome}
use Rattle.std.specs.Prelude.{OnOk}
use Rattle.std.specs.Result.{MatchResult}
use Rattle.mt_values.specs.declared.command.Command.TheVariants as command
use Rattle.mt_values.specs.declared.command.Create.{Create}
use Rattle.mt_values.specs.Annals as keeper
use Rattle.mt_values.specs.RootNames.{create_name}
use Rattle.mt_outside.specs.Disk.{names_of}
use Rattle.mt_outside.specs.Files.{Files}
use Rattle.root_store.specs.durable_commit.declared.causes.Refused.{Refused}
use Rattle.root_store.specs.durable_commit.Commits.{entry_of}
use Rattle.root_store.specs.durable_commit.Publications.{IsPublished, IsUnsettled, Storage}
use Rattle.root_store.specs.durable_commit.stage_dir.Stages.{AreSealed, Filled}
use Rattle.root_store.specs.mt_model.History.{History}
use Rattle.root_store.specs.part_reader.declared.reading.Part.{Part}
use Rattle.root_store.specs.part_set.declared.kept.Kept.{Kept}
use Rattle.root_store.specs.part_set.declared.set.PartSet.{PartSet}
use Rattle.root_store.specs.part_set.Sets.{parts_of}
use Rattle.root_store.specs.table_core.Core.{Core}
use Rattle.root_store.specs.declared.store.CoreStore.{CoreStore}
use Rattle.root_store.specs.Cores.{ShowsCore}
use Rattle.root_store.specs.Crashes.{KeepsThroughCrashes}
use Rattle.root_store.specs.Shown.{AreShown, GreatestAreShown, HasNoMark}
use Rattle.root_store.specs.Soundness.{HasSoundParts, RootStands}
use Rattle.root_store.specs.Stores.{CoreStands, table_at}
use Rattle.root_store.proofs.Showing.{greatest_shown}
use Rattle.root_commits.specs.declared.commits.Returned.{Returned}
use Rattle.root_commits.specs.Commits.{EntersTable, IsCause, IsSealedEntry, SameStore, StandsWhere, cause_of, refuses_create}
use Rattle.root_commits.specs.Events.{IsAccepted}
use Rattle.root_commits.specs.Images.{LeavesAfter, LeavesOne}
use Rattle.root_commits.specs.Publications.{Publishes, publication_of_create, with_entry}
use Rattle.root_commits.specs.Turns.{CommitsCreate, IsReadyRoot, MayCreate, Root}
use Rattle.root_commits.proofs.Accepted.{create_accepted}
use Rattle.root_commits.proofs.CrashCommits.{grows_by_table, shows_by_table}
use Rattle.root_commits.proofs.CrashImages.{Shows}
use Rattle.root_commits.proofs.Entering.{stands_created}
use Rattle.root_commits.proofs.FreeNames.{made_fits}
use Rattle.root_commits.proofs.Holding.{held_made, held_same}
use Rattle.root_commits.proofs.Leaving.{shown_absent, shown_calm, shown_few, shown_inside}
use Rattle.root_commits.proofs.Shown.{after_doubt, after_put, greatest_made, shown_made}
use Rattle.root_commits.proofs.Sounding.{idle_same, ready_same, sound_made}
use Rattle.root_commits.proofs.TurnCrashes.{Fits, crashes_left, done_none, images_left, ready_unsettled, root_done}
use Rattle.root_commits.proofs.Turning.{IsInside, given_or_kept, none_shown_by}

module _ {F : Type 0} (session : ℕ) (create : Create) (entry : Filled) (was now : Root F) (from : MayCreate create was) where
  abbrev shown : Option Refused
  shown = refuses_create was.store create.table was.storage.failed

  abbrev Enters : CoreStore F → CoreStore F → Type 0
  Enters = EntersTable create.table create.schema

  -- nothing is shown against it, so there is no such table, there are not too many, and the disk's count is the one at opening
  module _ (none : shown ≡ None) where
    absent : table_at was.store create.table ≡ None
    absent = shown_absent was.store create.table was.storage.failed none

    few : length was.store.tables.entries < 64
    few = shown_few was.store create.table was.storage.failed none

    calm : was.storage.failed ≡ was.store.opened
    calm = shown_calm was.store create.table was.storage.failed none from.ready.opened

  -- ---- whether turns may follow

  ready_done : shown ≡ None → Enters was.store now.store → IsPublished (publication_of_create session create entry) was.storage now.storage → IsReadyRoot now
  ready_done none e d =
      let low = from.ready.opened in
      let later = d.later in
      let same = e.opened_is in
      let below = from.ready.below in
      let shown_now = after_put (AreShown now.store) was.storage.clock (create_name create.table) entry.files was.storage.disk now.storage.disk
      (λ told fs is. shown_made was.store create.table from.named (names_of told) fs (from.ready.shown (calm none) told is) now.store create.schema e) d.root in
      record {
        names = λ _. made_fits _ _ _ _ e _ _ _ _ (from.ready.names (calm none)) d.root;
        shown = λ _. shown_now;
        greatest = λ told is. greatest_shown now.store (names_of told) (shown_now told is);
        sound = sound_made _ _ _ _ e from.named from.schema from.ready.sound;
        opened = omega (arith, low, later, same);
        below = omega (arith, below, same);
      }

  ready_doubt : (cause : Refused) → shown ≡ None → SameStore was.store now.store → IsUnsettled (publication_of_create session create entry) cause was.storage now.storage → IsReadyRoot now
  ready_doubt cause none same d =
      ready_unsettled (publication_of_create session create entry) cause was now same d
      (after_doubt (GreatestAreShown was.store) was.storage.clock (create_name create.table) entry.files was.storage.disk now.storage.disk
      (λ told fs is. greatest_made was.store create.table from.named (names_of told) fs (from.ready.shown (calm none) told is))
      from.ready.greatest d.root)
      from.ready

  -- by its cause, by what became of the outside, and by what the store has then
  pub creates : {T S : Type 0} (sealed : S) (result : Result T (Returned S)) → IsCause shown (cause_of result) → Publishes (publication_of_create session create entry) was.storage now.storage sealed result
      → MatchResult result (λ _. Enters was.store now.store) (λ _. SameStore was.store now.store) → CommitsCreate session create entry was now sealed result
  creates {T} {S} sealed result cause turn enters = record { from = from; cause = cause; turn = turn; enters = enters; ready = by result cause turn enters }
    where
      inside : IsInside shown
      inside = shown_inside was.store create.table was.storage.failed

      by : (result : Result T (Returned S)) → IsCause shown (cause_of result) → Publishes (publication_of_create session create entry) was.storage now.storage sealed result
          → MatchResult result (λ _. Enters was.store now.store) (λ _. SameStore was.store now.store) → IsReadyRoot now
      by (Ok x) cause turn enters = ready_done (none_shown_by shown None inside cause tt) enters turn
      by (Err r) cause turn enters = elim (given_or_kept (publication_of_create session create entry) was.storage now.storage sealed r.cause r.back turn) [
        | inl d ↦ ready_doubt r.cause (none_shown_by shown (Some r.cause) inside cause d.outside) enters d
        | inr k ↦ subst (λ (s : Storage). IsReadyRoot (record { store = now.store; storage = s })) (sym k.1.stays) (ready_same was.store now.store enters was.storage.failed was.storage.disk from.ready)
      ]

  -- ---- what was sealed is the entry of the CREATE

  pub fits : (files_of : F → Option Files) → IsSealedEntry create entry.files → shown ≡ None → ForSome entry.files AreSealed → (h : History) → CoreStands files_of h was.store → Fits was.store (publication_of_create session create entry) h
  fits files_of is none synced h stands = record {
    files = is.files;
    sealed_is = is.sealed_are;
    grows = grows_by_table files_of was.store h session stands is.files (synced is.files is.sealed_are) create (absent none) (few none) from.schema from.named is.holds;
  }

  pub shows : (files_of : F → Option Files) → shown ≡ None → Enters was.store now.store → (h : History) → CoreStands files_of h was.store → (files : Files) → Shows was.store (create_name create.table) files h now.store
  shows files_of none e h stands files = shows_by_table files_of was.store now.store h stands files create.table create.schema from.named e

  pub later : (files_of : F → Option Files) → shown ≡ None → Enters was.store now.store → (h : History) → CoreStands files_of h was.store → CoreStands files_of (with_entry (publication_of_create session create entry) h) now.store
  later files_of none e h stands = stands_created files_of h was.store now.store session create stands e from.schema (few none)

  pub accepted : (files_of : F → Option Files) → shown ≡ None → Enters was.store now.store → (core : Core) → ShowsCore files_of was.store core → IsAccepted files_of core (entry_of session (command.Create create)) now.store
  accepted files_of none e core s = create_accepted files_of core was.store now.store session create s e from.schema (few none)

-- ---- the laws

module _ {F : Type 0} (files_of : F → Option Files) (session : ℕ) (create : Create) (entry : Filled) (was now : Root F) where
  abbrev shown_against : Option Refused
  shown_against = refuses_create was.store create.table was.storage.failed

  abbrev EntersNow : CoreStore F → CoreStore F → Type 0
  EntersNow = EntersTable create.table create.schema

  inside : IsInside shown_against
  inside = shown_inside was.store create.table was.storage.failed

  pub create_stands : {T S : Type 0} (sealed : S) (result : Result T (Returned S)) → CommitsCreate session create entry was now sealed result → (h : History) → CoreStands files_of h was.store
      → OnOk result (StandsWhere files_of (with_entry (publication_of_create session create entry) h) now.store now.storage.disk (IsSealedEntry create entry.files × RootStands was.storage.disk h))
  create_stands sealed (Ok x) d h stands = record {
    store_stands = later session create entry was now d.from files_of (done_none (MayCreate create was) shown_against (publication_of_create session create entry) EntersNow was now sealed inside x d) d.enters h stands;
    root_stands = λ both.
        root_done (MayCreate create was) shown_against (publication_of_create session create entry) EntersNow was now sealed inside files_of (λ h. Unit {0}) d.from.ready (calm session create entry was now d.from)
        (λ none synced h known. fits session create entry was now d.from files_of both.0 none synced h) (shows session create entry was now d.from files_of)
        (λ none e synced h known. later session create entry was now d.from files_of none e h) x d h tt stands both.1;
  }
  create_stands sealed (Err r) d h stands = tt

  pub create_held : {T S : Type 0} (sealed : S) (result : Result T (Returned S)) → CommitsCreate session create entry was now sealed result → HasSoundParts files_of was.store → HasSoundParts files_of now.store
  create_held sealed (Ok x) d held = held_made files_of was.store now.store create.table create.schema d.enters d.from.ready.sound held
  create_held sealed (Err r) d held = held_same files_of was.store now.store d.enters held

  pub create_event : {T S : Type 0} (sealed : S) (result : Result T (Returned S)) → CommitsCreate session create entry was now sealed result → (core : Core) → ShowsCore files_of was.store core → OnOk result (IsAccepted files_of core (entry_of session (command.Create create)) now.store)
  create_event sealed (Ok x) d core s =
      accepted session create entry was now d.from files_of (done_none (MayCreate create was) shown_against (publication_of_create session create entry) EntersNow was now sealed inside x d) d.enters core s
  create_event sealed (Err r) d core s = tt

  pub create_images : {T S : Type 0} (sealed : S) (result : Result T (Returned S)) → CommitsCreate session create entry was now sealed result → IsSealedEntry create entry.files → (h : History) → CoreStands files_of h was.store → LeavesOne was h
      → LeavesAfter was now h (with_entry (publication_of_create session create entry) h) result
  create_images sealed result d is h =
      images_left (MayCreate create was) shown_against (publication_of_create session create entry) EntersNow was now sealed inside files_of (λ h. Unit {0}) d.from.ready (calm session create entry was now d.from)
      (λ none synced h known. fits session create entry was now d.from files_of is none synced h) (shows session create entry was now d.from files_of)
      (λ none e synced h known. later session create entry was now d.from files_of none e h) result d h tt

  pub create_crashes : {T S : Type 0} (sealed : S) (result : Result T (Returned S)) → CommitsCreate session create entry was now sealed result → IsSealedEntry create entry.files → (first : keeper.Told) (start : ℕ) → KeepsThroughCrashes files_of was.store was.storage first start → KeepsThroughCrashes files_of now.store now.storage first start
  create_crashes sealed result d is =
      crashes_left (MayCreate create was) shown_against (publication_of_create session create entry) EntersNow was now sealed inside files_of (λ h. Unit {0}) d.from.ready (calm session create entry was now d.from)
      (λ none synced h known. fits session create entry was now d.from files_of is none synced h) (shows session create entry was now d.from files_of)
      (λ none e synced h known. later session create entry was now d.from files_of none e h) result d (λ kept there. tt)

pub create_idle : {F T S : Type 0} (session : ℕ) (create : Create) (entry : Filled) (was now : Root F) (sealed : S) (result : Result T (Returned S)) → CommitsCreate session create entry was now sealed result → HasNoMark was.store → HasNoMark now.store
create_idle {F} session create entry was now sealed (Ok x) d idle = λ u. subst (All (λ (k : Kept (Part F)). k.busy ≡ false)) (sym (ap (λ (s : PartSet (Part F)). parts_of s u) d.enters.set_is)) (idle u)
create_idle session create entry was now sealed (Err r) d idle = idle_same was.store now.store d.enters idle
