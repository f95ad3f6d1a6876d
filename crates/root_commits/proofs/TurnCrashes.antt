-- What a crash leaves after a commit, by what became of the outside and of the store.
use Rattle.std.proofs.Common.{◌≡◌, ◌⊎◌, inl, inr, ℕ, ◌+◌, List, Option, Some, None, Result, Ok, Err, refl, sym, ap, ◌∙◌, subst, arith}
use Rattle.std.specs.Option.{ForSome}
use Rattle.mt_values.specs.declared.command.Entry.{Entry}
use Rattle.mt_values.specs.Annals as keeper
use Rattle.mt_outside.specs.declared.disk.Change.TheVariants.{Publish}
use Rattle.mt_outside.specs.Disk.{MayBecome, MayPut, Names, Told, names_of, put, with_change}
use Rattle.mt_outside.specs.Files.{Files}
use Rattle.root_store.specs.durable_commit.declared.causes.Refused.{Refused}
use Rattle.root_store.specs.durable_commit.Publications.{Begins, IsUnsettled, Notes, Publication, Storage}
use Rattle.root_store.specs.durable_commit.stage_dir.Stages.{AreSealed}
use Rattle.root_store.specs.mt_model.History.{History}
use Rattle.root_store.specs.declared.store.CoreStore.{CoreStore}
use Rattle.root_store.specs.Crashes.{AreCalm, KeepsThroughCrashes, StandsForKept, entries_of}
use Rattle.root_store.specs.Roots.{Stands}
use Rattle.root_store.specs.Shown.{AreShown, GreatestAreShown, ImagesShow}
use Rattle.root_store.specs.Soundness.{RootStands}
use Rattle.root_store.specs.Stores.{CoreStands}
use Rattle.root_store.proofs.Rising.{told_rise}
use Rattle.root_commits.specs.declared.commits.Returned.{Returned}
use Rattle.root_commits.specs.Commits.{SameStore}
use Rattle.root_commits.specs.Images.{LeavesAfter, LeavesOne}
use Rattle.root_commits.specs.Publications.{IsKeptBack, pushed, with_entry}
use Rattle.root_commits.specs.Turns.{Commits, IsReadyRoot, Root}
use Rattle.root_commits.proofs.CrashImages.{Grows, Shows, either_committed, either_failed, either_same, one_committed, one_same}
use Rattle.root_commits.proofs.CrashTurns.{kept_committed, kept_failed, kept_merged, kept_unmerged, kept_untouched, unrisen}
use Rattle.root_commits.proofs.FreeNames.{put_told}
use Rattle.root_commits.proofs.Sounding.{ready_kept}
use Rattle.root_commits.proofs.Turning.{IsInside, given_or_kept, none_shown_by}
use Rattle.root_commits.proofs.Updated.{one_some}

-- files that a root which stands for a history and shows the store's parts may get under the name: it stands for the later history then
pub record Fits {F : Type 0} (store : CoreStore F) (p : Publication) (h : History) : Type 0 where
  pub files : Files
  pub sealed_is : p.files ≡ Some files
  pub grows : Grows store p.name files h (with_entry p h)

-- ---- whether turns may follow

pub ready_unsettled : {F : Type 0} (p : Publication) (cause : Refused) (was now : Root F) → SameStore was.store now.store → IsUnsettled p cause was.storage now.storage
    → ForSome now.storage.disk (λ (t : Told). GreatestAreShown was.store (names_of t)) → IsReadyRoot was → IsReadyRoot now
ready_unsettled p cause was now same d greatest ready =
    ready_kept was.store now.store same was.storage.failed now.storage.failed was.storage.disk now.storage.disk cause d.later d.rose d.unchanged greatest ready

-- ---- the annals, by whether an entry is noted

module _ {F : Type 0} (files_of : F → Option Files) (old new : CoreStore F) (first : keeper.Told) (start : ℕ) (was now : Storage) (name : List ℕ) (sealed : Option Files) (files : Files) (sealed_is : sealed ≡ Some files)
    (s : AreCalm was first start) (shown : ImagesShow was.disk was.clock old)
  where
    pub kept_settled : (entry : Option Entry) → Grows old name files (entries_of s.kept.list) (pushed entry (entries_of s.kept.list)) → StandsForKept files_of was.annals old → now.clock ≡ was.clock + 1 → now.disk ≡ put was.clock name sealed was.disk
        → Notes now.clock entry was.annals now.annals → ForSome was.annals (λ (kept : keeper.Told). CoreStands files_of (entries_of kept.list) old → CoreStands files_of (pushed entry (entries_of kept.list)) new)
        → Shows old name files (entries_of s.kept.list) new → KeepsThroughCrashes files_of new now first start
    kept_settled None grows stands mark root same later shows =
        kept_merged files_of old new first start was now name sealed files sealed_is same s shown grows mark root (λ kept there. later kept there (stands kept there)) shows
    kept_settled (Some e) grows stands mark root notes later shows =
        kept_committed files_of old new first start was now name sealed files e sealed_is s shown grows mark root notes (later s.kept s.annals_is (stands s.kept s.annals_is)) shows

    pub kept_unsettled : (entry : Option Entry) → Grows old name files (entries_of s.kept.list) (pushed entry (entries_of s.kept.list)) → StandsForKept files_of was.annals old → now.clock ≡ was.clock → MayPut was.clock name sealed was.disk now.disk
        → Begins entry was.annals now.annals → SameStore old new → (now.failed ≡ new.opened → now.disk ≡ was.disk) → KeepsThroughCrashes files_of new now first start
    kept_unsettled None grows stands mark root begun same unless =
        kept_unmerged files_of old new first start was now name sealed files sealed_is begun s shown grows mark root same stands unless
    kept_unsettled (Some e) grows stands mark root begun same unless =
        kept_failed files_of old new first start was now name sealed files e sealed_is s shown grows mark root begun same stands unless

-- ---- the names as they read, where the name was given

root_given : {F : Type 0} (p : Publication) (was now : Root F) (h : History) → Fits was.store p h → ForSome was.storage.disk (λ (t : Told). AreShown was.store (names_of t)) → now.storage.disk ≡ put was.storage.clock p.name p.files was.storage.disk
    → RootStands was.storage.disk h → RootStands now.storage.disk (with_entry p h)
root_given p was now h f shown put_is root =
    let clock = was.storage.clock in
    let x = with_change clock (Publish p.name f.files) root.0 in
    let told_now : now.storage.disk ≡ Some x = put_is ∙ (ap (λ (o : Option Files). put clock p.name o was.storage.disk) f.sealed_is ∙ ap (put clock p.name (Some f.files)) root.1) in
    let from = put_told clock p.name p.files was.storage.disk x (sym put_is ∙ told_now) in
    let same : root.0 ≡ from.0 = one_some was.storage.disk root.0 from.0 root.1 from.2 in
    let stands : Stands (names_of from.0) h = subst (λ (t : Told). Stands (names_of t) h) same root.2 in
    let files_are : f.files ≡ from.1 = one_some p.files f.files from.1 f.sealed_is from.3 in (
      x,
      told_now,
      subst (λ (ns : Names). Stands ns (with_entry p h)) (sym from.4)
          (f.grows (names_of from.0) from.1 (told_rise from.0) stands (shown from.0 from.2) (subst (MayBecome f.files) files_are (record { kept = λ file synced. refl }))),
    )

-- ---- any commit

module _ {F T S : Type 0} (From : Type 0) (shown : Option Refused) (p : Publication) (Enters : CoreStore F → CoreStore F → Type 0) (was now : Root F) (sealed : S) (inside : IsInside shown) where
  abbrev Does : Result T (Returned S) → Type 0
  Does result = Commits From shown p Enters was now sealed result

  -- where it was done nothing was shown against it
  pub done_none : (x : T) → Does (Ok x) → shown ≡ None
  done_none x does = none_shown_by shown None inside does.cause tt

  -- nor where it was given to the disk
  unsettled_none : (r : Returned S) → Does (Err r) → IsUnsettled p r.cause was.storage now.storage → shown ≡ None
  unsettled_none r does d = none_shown_by shown (Some r.cause) inside does.cause d.outside

  -- where what was published may be, for each history that the store stands for and of which something is known
  module _ (files_of : F → Option Files) (Known : History → Type 0) (ready : IsReadyRoot was) (calm : shown ≡ None → was.storage.failed ≡ was.store.opened)
      (fits : shown ≡ None → ForSome p.files AreSealed → (h : History) → Known h → CoreStands files_of h was.store → Fits was.store p h)
      (shows : shown ≡ None → Enters was.store now.store → (h : History) → CoreStands files_of h was.store → (files : Files) → Shows was.store p.name files h now.store)
      (later : shown ≡ None → Enters was.store now.store → ForSome p.files AreSealed → (h : History) → Known h → CoreStands files_of h was.store → CoreStands files_of (with_entry p h) now.store)
    where
      -- ---- of the disk alone

      pub images_left : (result : Result T (Returned S)) → Does result → (h : History) → Known h → CoreStands files_of h was.store → LeavesOne was h → LeavesAfter {F = F} {T = T} {S = S} was now h (with_entry p h) result
      images_left (Ok x) does h known stands one =
          let none = done_none x does in
          let d = does.turn in
          let f = fits none d.sealed h known stands in
          record {
            during = either_committed was now p.name p.files f.files f.sealed_is h (with_entry p h) one f.grows d.mark d.root;
            after = one_committed was now p.name p.files f.files f.sealed_is h (with_entry p h) one f.grows d.mark d.root (shows none does.enters h stands f.files);
          }
      images_left (Err r) does h known stands one = by (given_or_kept p was.storage now.storage sealed r.cause r.back does.turn)
        where
          by : IsUnsettled p r.cause was.storage now.storage ⊎ ((s : S) × IsKeptBack sealed s r.cause was.storage now.storage) → LeavesAfter {F = F} {T = T} {S = S} was now h (with_entry p h) (Err r)
          by (inl d) =
              let f = fits (unsettled_none r does d) d.sealed h known stands in
              record {
                during = either_failed was now p.name p.files f.files f.sealed_is h (with_entry p h) one f.grows d.mark d.root;
                after = λ other. one_same was now h one (d.unchanged other) d.mark does.enters;
              }
          by (inr k) =
              let disk : now.storage.disk ≡ was.storage.disk = ap (λ (x : Storage). x.disk) k.1.stays in
              let mark : now.storage.clock ≡ was.storage.clock = ap (λ (x : Storage). x.clock) k.1.stays in
              record { during = either_same was now h one disk mark (with_entry p h); after = λ other. one_same was now h one disk mark does.enters }

      -- ---- of the disk and the annals

      pub crashes_left : (result : Result T (Returned S)) → Does result → ForSome was.storage.annals (λ (kept : keeper.Told). Known (entries_of kept.list)) → (first : keeper.Told) (start : ℕ) → KeepsThroughCrashes files_of was.store was.storage first start → KeepsThroughCrashes files_of now.store now.storage first start
      crashes_left (Ok x) does known first start keeps =
          let none = done_none x does in
          let d = does.turn in
          let before = keeps.calm (calm none) in
          let h = entries_of before.0.kept.list in
          let stands = before.1 before.0.kept before.0.annals_is in
          let f = fits none d.sealed h (known before.0.kept before.0.annals_is) stands in
          kept_settled files_of was.store now.store first start was.storage now.storage p.name p.files f.files f.sealed_is before.0 before.2 p.entry f.grows before.1 d.mark d.root d.annals
          (λ kept there. later none does.enters d.sealed (entries_of kept.list) (known kept there)) (shows none does.enters h stands f.files)
      crashes_left (Err r) does known first start keeps = by (given_or_kept p was.storage now.storage sealed r.cause r.back does.turn)
        where
          by : IsUnsettled p r.cause was.storage now.storage ⊎ ((s : S) × IsKeptBack sealed s r.cause was.storage now.storage) → KeepsThroughCrashes files_of now.store now.storage first start
          by (inl d) =
              let none = unsettled_none r does d in
              let before = keeps.calm (calm none) in
              let h = entries_of before.0.kept.list in
              let f = fits none d.sealed h (known before.0.kept before.0.annals_is) (before.1 before.0.kept before.0.annals_is) in
              let low = calm none in
              kept_unsettled files_of was.store now.store first start was.storage now.storage p.name p.files f.files f.sealed_is before.0 before.2 p.entry f.grows before.1 d.mark d.root d.annals does.enters
              (λ is. unrisen r.cause was.store.opened was.storage.failed now.storage.failed was.storage.disk now.storage.disk (omega (arith, low)) ready.below d.later d.rose d.unchanged (is ∙ does.enters.opened_is))
          by (inr k) =
              let all = k.1.stays in
              kept_untouched files_of was.store now.store first start was.storage now.storage does.enters (ap (λ (x : Storage). x.disk) all) (ap (λ (x : Storage). x.clock) all) (ap (λ (x : Storage). x.failed) all)
              (ap (λ (x : Storage). x.annals) all) keeps

      -- ---- of the names as they read

      pub root_done : (x : T) → Does (Ok x) → (h : History) → Known h → CoreStands files_of h was.store → RootStands was.storage.disk h → RootStands now.storage.disk (with_entry p h)
      root_done x does h known s root = root_given p was now h (fits (done_none x does) does.turn.sealed h known s) (ready.shown (calm (done_none x does))) does.turn.root root

      -- whatever became of it, where no entry is noted
      pub root_left : (result : Result T (Returned S)) → Does result → (h : History) → Known h → CoreStands files_of h was.store → with_entry p h ≡ h → RootStands was.storage.disk h → RootStands now.storage.disk h
      root_left (Ok x) does h known s none root = subst (RootStands now.storage.disk) none (root_done x does h known s root)
      root_left (Err r) does h known s none root = by (given_or_kept p was.storage now.storage sealed r.cause r.back does.turn)
        where
          same : now.storage.disk ≡ was.storage.disk → RootStands now.storage.disk h
          same is = subst (λ (o : Option Told). RootStands o h) (sym is) root

          by : IsUnsettled p r.cause was.storage now.storage ⊎ ((s : S) × IsKeptBack sealed s r.cause was.storage now.storage) → RootStands now.storage.disk h
          by (inl d) = elim d.root [
            | inl is ↦ same is
            | inr put_is ↦ subst (RootStands now.storage.disk) none (root_given p was now h (fits (unsettled_none r does d) d.sealed h known s) (ready.shown (calm (unsettled_none r does d))) put_is root)
          ]
          by (inr k) = same (ap (λ (x : Storage). x.disk) k.1.stays)
