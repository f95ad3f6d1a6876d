-- What follows of a block that is added: whether turns may follow, what the root stands for, and what a crash leaves.
use Rattle.std.proofs.Common.{◌≡◌, inl, inr, ◌+◌, ◌<◌, ◌≤◌, ℕ, List, Option, Some, None, Result, Ok, Err, refl, sym, subst, arith}
use Rattle.std.specs.Option.{ForSome}
use Rattle.std.specs.Prelude.{OnOk}
use Rattle.std.specs.Result.{MatchResult}
use Rattle.mt_base.specs.declared.partition.Partition.{Partition}
use Rattle.mt_values.specs.Annals as keeper
use Rattle.mt_values.specs.Grid.{Grid}
use Rattle.mt_values.specs.RootNames.{part_name}
use Rattle.mt_outside.specs.Disk.{Told, names_of}
use Rattle.mt_outside.specs.Files.{Files}
use Rattle.root_store.specs.durable_commit.declared.causes.Refused.{Refused}
use Rattle.root_store.specs.durable_commit.Publications.{IsPublished, IsUnsettled, Storage}
use Rattle.root_store.specs.durable_commit.stage_dir.Stages.{AreSealed, Filled}
use Rattle.root_store.specs.mt_model.History.{History}
use Rattle.root_store.specs.part_name.declared.part.PartName.{PartName}
use Rattle.root_store.specs.part_name.PartNames.{IsPartition, part_text}
use Rattle.root_store.specs.part_set.declared.root_name.RootName.TheVariants as root
use Rattle.root_store.specs.part_set.declared.root_name.TablePart.{TablePart}
use Rattle.root_store.specs.part_set.RootNames.{IsRootName}
use Rattle.root_store.specs.part_set.Visible.{HasPart}
use Rattle.root_store.specs.table_core.Core.{Core}
use Rattle.root_store.specs.part_writer.declared.loaded.Loaded.{Loaded}
use Rattle.root_store.specs.declared.store.CoreStore.{CoreStore}
use Rattle.root_store.specs.declared.store.Table.{Table}
use Rattle.root_store.specs.Cores.{ShowsCore}
use Rattle.root_store.specs.Crashes.{KeepsThroughCrashes}
use Rattle.root_store.specs.Shown.{AreShown, GreatestAreShown, HasNoMark, part_called}
use Rattle.root_store.specs.Soundness.{HasSoundParts, IsSoundTable, RootStands}
use Rattle.root_store.specs.Stores.{CoreStands, table_at}
use Rattle.root_store.proofs.Showing.{greatest_shown}
use Rattle.root_commits.specs.declared.commits.Returned.{Returned}
use Rattle.root_commits.specs.Commits.{EntersSealed, IsCause, IsSealedOf, SameStore, StandsWhere, cause_of, fresh_part, refuses_part}
use Rattle.root_commits.specs.Events.{IsAccepted}
use Rattle.root_commits.specs.Images.{LeavesAfter, LeavesOne}
use Rattle.root_commits.specs.Publications.{Adding, Publishes, adding, entry_of_adding, partition_of_adding, publication_of_part, with_entry}
use Rattle.root_commits.specs.Turns.{CommitsPart, IsReadyRoot, MayAdd, Root}
use Rattle.root_commits.proofs.Accepted.{insert_accepted}
use Rattle.root_commits.proofs.CrashCommits.{grows_by_part, shows_by_part}
use Rattle.root_commits.proofs.CrashImages.{Shows}
use Rattle.root_commits.proofs.FreeNames.{added_fits, fresh_named}
use Rattle.root_commits.proofs.Holding.{held_added, held_same}
use Rattle.root_commits.proofs.Inserted.{stands_inserted}
use Rattle.root_commits.proofs.Leaving.{shown_number, shown_part_calm, shown_part_inside}
use Rattle.root_commits.proofs.Partitions.{block_may, block_spells}
use Rattle.root_commits.proofs.Shown.{after_doubt, after_put, ends_fit, greatest_added, shown_added}
use Rattle.root_commits.proofs.Sounding.{idle_added, idle_same, ready_same, sound_added}
use Rattle.root_commits.proofs.TurnCrashes.{Fits, crashes_left, done_none, images_left, ready_unsettled, root_done}
use Rattle.root_commits.proofs.Turning.{IsInside, given_or_kept, none_shown_by}
use Rattle.root_commits.proofs.Updated.{one_some}

module _ {F : Type 0} (files_of : F → Option Files) (a : Adding) (was now : Root F) (from : MayAdd a was) where
  abbrev partition : Partition
  partition = partition_of_adding a

  abbrev shown : Option Refused
  shown = refuses_part was.store a.table partition a.kept.drawn was.storage.failed

  abbrev Enters : CoreStore F → CoreStore F → Type 0
  Enters = EntersSealed files_of a.sealed.files a.loaded a.table partition a.kept

  abbrev fresh : PartName
  fresh = fresh_part partition (a.kept.drawn + 1)

  sound : IsSoundTable was.store a.table a.kept
  sound = from.ready.sound.tables a.table a.kept from.there

  spells : IsPartition partition
  spells = block_spells a.table a.kept.schema a.block sound.schema from.rows

  -- nothing is shown against it, so there is a number left, and the disk's count is the one at opening
  module _ (none : shown ≡ None) where
    small : a.kept.drawn < 4294967295
    small = shown_number was.store a.table was.storage.failed partition a.kept.drawn none

    calm : was.storage.failed ≡ was.store.opened
    calm = shown_part_calm was.store a.table was.storage.failed partition a.kept.drawn none from.ready.opened

    word : IsRootName (root.Part (part_called a.table fresh))
    word = (sound.named, fresh_named partition a.kept.drawn spells small)

    ends : (told : Told) → was.storage.disk ≡ Some told → (s : AreShown was.store (names_of told)) → (part : TablePart) → HasPart s.read part → part.table ≡ a.table → part.name.max_block ≤ a.kept.drawn
    ends told is s = ends_fit was.store told s.read (from.ready.names calm told is) s.are a.table a.kept from.there

  -- ---- whether turns may follow

  ready_done : shown ≡ None → Enters was.store now.store → IsPublished (publication_of_part a) was.storage now.storage → IsReadyRoot now
  ready_done none e d =
      let low = from.ready.opened in
      let later = d.later in
      let same = e.enters.opened_is in
      let below = from.ready.below in
      let shown_now = after_put (AreShown now.store) was.storage.clock (part_name a.table (part_text fresh)) a.sealed.files was.storage.disk now.storage.disk
      (λ told fs is.
      let s = from.ready.shown (calm none) told is in
      shown_added was.store a.table partition a.kept.drawn (names_of told) fs s (word none) (ends none told is s) now.store e.part a.kept refl e.enters)
      d.root in
      record {
        names = λ _. added_fits _ _ _ _ _ _ e.enters _ _ _ _ spells (small none) (from.ready.names (calm none)) d.root;
        shown = λ _. shown_now;
        greatest = λ told is. greatest_shown now.store (names_of told) (shown_now told is);
        sound = sound_added _ _ _ _ _ _ e.enters (block_may a.table a.kept.schema a.block sound.schema from.rows) from.ready.sound;
        opened = omega (arith, low, later, same);
        below = omega (arith, below, same);
      }

  ready_doubt : (cause : Refused) → shown ≡ None → SameStore was.store now.store → IsUnsettled (publication_of_part a) cause was.storage now.storage → IsReadyRoot now
  ready_doubt cause none same d =
      ready_unsettled (publication_of_part a) cause was now same d
      (after_doubt (GreatestAreShown was.store) was.storage.clock (part_name a.table (part_text fresh)) a.sealed.files was.storage.disk now.storage.disk
      (λ told fs is.
      let s = from.ready.shown (calm none) told is in
      greatest_added was.store a.table partition a.kept.drawn (names_of told) fs s (word none) (ends none told is s))
      from.ready.greatest d.root)
      from.ready

  -- by its cause, by what became of the outside, and by what the store has then
  pub adds : {T S : Type 0} (sealed : S) (result : Result T (Returned S)) → IsCause shown (cause_of result) → Publishes (publication_of_part a) was.storage now.storage sealed result
      → MatchResult result (λ _. Enters was.store now.store) (λ _. SameStore was.store now.store) → CommitsPart files_of a was now sealed result
  adds {T} {S} sealed result cause turn enters = record { from = from; cause = cause; turn = turn; enters = enters; ready = by result cause turn enters }
    where
      inside : IsInside shown
      inside = shown_part_inside was.store a.table was.storage.failed partition a.kept.drawn

      by : (result : Result T (Returned S)) → IsCause shown (cause_of result) → Publishes (publication_of_part a) was.storage now.storage sealed result
          → MatchResult result (λ _. Enters was.store now.store) (λ _. SameStore was.store now.store) → IsReadyRoot now
      by (Ok x) cause turn enters = ready_done (none_shown_by shown None inside cause tt) enters turn
      by (Err r) cause turn enters = elim (given_or_kept (publication_of_part a) was.storage now.storage sealed r.cause r.back turn) [
        | inl d ↦ ready_doubt r.cause (none_shown_by shown (Some r.cause) inside cause d.outside) enters d
        | inr k ↦ subst (λ (s : Storage). IsReadyRoot (record { store = now.store; storage = s })) (sym k.1.stays) (ready_same was.store now.store enters was.storage.failed was.storage.disk from.ready)
      ]

  -- ---- what was sealed is the part of the block

  module _ (is : IsSealedOf a.kept.schema a.block a.sealed.files a.loaded) where
    pub fits : shown ≡ None → ForSome a.sealed.files AreSealed → (h : History) → CoreStands files_of h was.store → Fits was.store (publication_of_part a) h
    fits none synced h stands = record {
      files = is.files;
      sealed_is = is.sealed_are;
      grows = grows_by_part files_of was.store h a.session stands is.files (synced is.files is.sealed_are) a.table a.kept a.block from.there (small none) from.rows is.holds;
    }

    pub later : Enters was.store now.store → (h : History) → CoreStands files_of h was.store → CoreStands files_of (with_entry (publication_of_part a) h) now.store
    later e h stands = stands_inserted files_of h was.store now.store a.session a.table a.kept a.block a.sealed.files a.loaded stands from.rows is e

    pub accepted : shown ≡ None → Enters was.store now.store → (core : Core) → ShowsCore files_of was.store core → IsAccepted files_of core (entry_of_adding a) now.store
    accepted none e core s = insert_accepted files_of core was.store now.store a.session a.table a.kept a.block a.sealed.files a.loaded s from.rows is e (small none)

  pub shows : shown ≡ None → Enters was.store now.store → (h : History) → CoreStands files_of h was.store → (files : Files) → Shows was.store (part_name a.table (part_text fresh)) files h now.store
  shows none e h stands files = shows_by_part files_of was.store now.store h stands files a.table partition e.part a.kept spells (small none) e.enters

-- the same block, where the table that is there is the one that was read
pub adds_to : {F T S : Type 0} (files_of : F → Option Files) (session : ℕ) (table : List ℕ) (block : Grid) (entry : Filled) (loaded : Loaded) (was now : Root F) (sealed : S) (result : Result T (Returned S)) (t u : Table)
    → table_at was.store table ≡ Some t → table_at was.store table ≡ Some u → CommitsPart files_of (adding session table t block entry loaded) was now sealed result → CommitsPart files_of (adding session table u block entry loaded) was now sealed result
adds_to files_of session table block entry loaded was now sealed result t u read at =
    subst (λ (x : Table). CommitsPart files_of (adding session table x block entry loaded) was now sealed result) (one_some (table_at was.store table) t u read at)

-- ---- the laws

module _ {F : Type 0} (files_of : F → Option Files) (a : Adding) (was now : Root F) where
  abbrev shown_against : Option Refused
  shown_against = refuses_part was.store a.table (partition_of_adding a) a.kept.drawn was.storage.failed

  abbrev EntersNow : CoreStore F → CoreStore F → Type 0
  EntersNow = EntersSealed files_of a.sealed.files a.loaded a.table (partition_of_adding a) a.kept

  inside : IsInside shown_against
  inside = shown_part_inside was.store a.table was.storage.failed (partition_of_adding a) a.kept.drawn

  module _ (is : IsSealedOf a.kept.schema a.block a.sealed.files a.loaded) where
    pub part_stands : {T S : Type 0} (sealed : S) (result : Result T (Returned S)) → CommitsPart files_of a was now sealed result → (h : History) → CoreStands files_of h was.store
        → OnOk result (StandsWhere files_of (with_entry (publication_of_part a) h) now.store now.storage.disk (RootStands was.storage.disk h))
    part_stands sealed (Ok x) d h stands = record {
      store_stands = later files_of a was now d.from is d.enters h stands;
      root_stands = λ root.
          root_done (MayAdd a was) shown_against (publication_of_part a) EntersNow was now sealed inside files_of (λ h. Unit {0}) d.from.ready (calm files_of a was now d.from) (λ none synced h known. fits files_of a was now d.from is none synced h)
          (shows files_of a was now d.from) (λ none e synced h known. later files_of a was now d.from is e h) x d h tt stands root;
    }
    part_stands sealed (Err r) d h stands = tt

    pub part_held : {T S : Type 0} (sealed : S) (result : Result T (Returned S)) → CommitsPart files_of a was now sealed result → HasSoundParts files_of was.store → HasSoundParts files_of now.store
    part_held sealed (Ok x) d held = held_added files_of was.store now.store a.table a.kept a.block a.sealed.files a.loaded is d.enters held
    part_held sealed (Err r) d held = held_same files_of was.store now.store d.enters held

    pub part_event : {T S : Type 0} (sealed : S) (result : Result T (Returned S)) → CommitsPart files_of a was now sealed result → (core : Core) → ShowsCore files_of was.store core
        → OnOk result (IsAccepted files_of core (entry_of_adding a) now.store)
    part_event sealed (Ok x) d core s =
        accepted files_of a was now d.from is (done_none (MayAdd a was) shown_against (publication_of_part a) EntersNow was now sealed inside x d) d.enters core s
    part_event sealed (Err r) d core s = tt

    pub part_images : {T S : Type 0} (sealed : S) (result : Result T (Returned S)) → CommitsPart files_of a was now sealed result → (h : History) → CoreStands files_of h was.store → LeavesOne was h → LeavesAfter was now h (with_entry (publication_of_part a) h) result
    part_images sealed result d h =
        images_left (MayAdd a was) shown_against (publication_of_part a) EntersNow was now sealed inside files_of (λ h. Unit {0}) d.from.ready (calm files_of a was now d.from) (λ none synced h known. fits files_of a was now d.from is none synced h)
        (shows files_of a was now d.from) (λ none e synced h known. later files_of a was now d.from is e h) result d h tt

    pub part_crashes : {T S : Type 0} (sealed : S) (result : Result T (Returned S)) → CommitsPart files_of a was now sealed result → (first : keeper.Told) (start : ℕ) → KeepsThroughCrashes files_of was.store was.storage first start → KeepsThroughCrashes files_of now.store now.storage first start
    part_crashes sealed result d =
        crashes_left (MayAdd a was) shown_against (publication_of_part a) EntersNow was now sealed inside files_of (λ h. Unit {0}) d.from.ready (calm files_of a was now d.from) (λ none synced h known. fits files_of a was now d.from is none synced h)
        (shows files_of a was now d.from) (λ none e synced h known. later files_of a was now d.from is e h) result d (λ kept there. tt)

  pub part_idle : {T S : Type 0} (sealed : S) (result : Result T (Returned S)) → CommitsPart files_of a was now sealed result → HasNoMark was.store → HasNoMark now.store
  part_idle sealed (Ok x) d idle = idle_added was.store now.store _ _ _ _ d.enters.enters idle
  part_idle sealed (Err r) d idle = idle_same was.store now.store d.enters idle
