-- What a crash leaves after the turn of a command: one that was committed, one whose commit failed, and one that was refused.
use Rattle.std.proofs.Common.{◌≡◌, ◌≢◌, inl, inr, ℕ, ◌+◌, ◌-◌, ◌<◌, ◌≤◌, ◌^◌, List, [], ◌∷◌, ◌++◌, Option, Some, refl, sym, ap, ◌∙◌, subst, arith}
use Rattle.std.specs.BTreeMap.{insert_entry}
use Rattle.std.specs.Cmp.Lexicographic.{slice_cmp}
use Rattle.std.specs.Option.{option_map}
use Rattle.std.specs.Ordering.{nat_cmp}
use Rattle.std.proofs.lemmas.List.{map_push}
use Rattle.mt_values.specs.declared.annals.Noted.{Noted}
use Rattle.mt_values.specs.declared.command.Entry.{Entry}
use Rattle.mt_values.specs.Annals as keeper
use Rattle.mt_values.specs.Annals.{began, noted}
use Rattle.mt_outside.specs.declared.disk.Change.TheVariants.{Publish}
use Rattle.mt_outside.specs.Causes.{Rose}
use Rattle.mt_outside.specs.Disk.{Image, MayBecome, MayPut, Names, Told, put, with_change}
use Rattle.mt_outside.specs.Files.{Files}
use Rattle.root_store.specs.mt_model.History.{History}
use Rattle.root_store.specs.durable_commit.declared.causes.Refused.{Refused}
use Rattle.root_store.specs.durable_commit.declared.causes.Refused.TheVariants as refused
use Rattle.root_store.specs.declared.store.CoreStore.{CoreStore}
use Rattle.root_store.specs.ByteOrder.{AreInByteOrder}
use Rattle.root_commits.specs.Commits.{SameStore}
use Rattle.root_store.specs.Crashes.{AreCalm, AreCrashSafe, IsCrashSafe, KeepsThroughCrashes, Storage, StandsForKept, entries_of, none_begun}
use Rattle.root_store.specs.Roots.{Stands}
use Rattle.root_store.specs.Shown.{AreShown, ImagesShow}
use Rattle.root_store.specs.Stores.{CoreStands}
use Rattle.root_store.proofs.CrashMarks.{safe_begun, safe_stands, safe_synced, some_one}
use Rattle.root_store.proofs.CrashOrder.{image_rise}
use Rattle.root_commits.proofs.CrashImages.{Grows, Shows, settled_holds}
use Rattle.root_commits.proofs.CrashSafe.{safe_merged, safe_noted, safe_published}
use Rattle.root_commits.proofs.SameStores.{stands_same}
use Rattle.root_commits.proofs.Shown.{shown_same}

-- where the disk's count has not risen above the one at opening, a turn that failed left what was told
pub unrisen : (cause : Refused) (opened before after : ℕ) (told now : Option Told) → opened ≤ before → opened < 2 ^ 64 - 1 → before ≤ after → (cause ≡ refused.Disk → Rose before after) → (cause ≢ refused.Disk → now ≡ told)
    → after ≡ opened → now ≡ told
unrisen refused.Disk opened before after told now low below later rose unchanged is = (let up = rose refl in absurd (omega (arith, up, is, low, below)))
unrisen refused.NoMemory opened before after told now low below later rose unchanged is = unchanged (λ e. cc)
unrisen (refused.Stopped o n) opened before after told now low below later rose unchanged is = unchanged (λ e. cc)
unrisen refused.Exists opened before after told now low below later rose unchanged is = unchanged (λ e. cc)
unrisen (refused.Limit l) opened before after told now low below later rose unchanged is = unchanged (λ e. cc)

-- the disk and the annals are as they were, whatever the count of faults comes to
module _ (was now : Storage) (first : keeper.Told) (start : ℕ) (disk : now.disk ≡ was.disk) (mark : now.clock ≡ was.clock) (list : now.annals ≡ was.annals) where
  pub safe_moved : AreCrashSafe was first start → AreCrashSafe now first start
  safe_moved s = record {
    told = s.told;
    kept = s.kept;
    disk_is = disk ∙ s.disk_is;
    annals_is = list ∙ s.annals_is;
    safe = subst (λ (c : ℕ). IsCrashSafe s.told c s.kept first.list start) (sym mark) s.safe;
  }

  pub calm_moved : AreCalm was first start → AreCalm now first start
  calm_moved s = record {
    told = s.told;
    kept = s.kept;
    disk_is = disk ∙ s.disk_is;
    annals_is = list ∙ s.annals_is;
    settled = subst (λ (c : ℕ). IsCrashSafe s.told c (none_begun s.kept.list) first.list start) (sym mark) s.settled;
  }

-- so the same store shows the parts of whatever a crash leaves
pub images_moved : {F : Type 0} (old new : CoreStore F) → SameStore old new → (disk now : Option Told) (clock mark : ℕ) → now ≡ disk → mark ≡ clock → ImagesShow disk clock old → ImagesShow now mark new
images_moved old new same disk now clock mark is stays shown = λ told there names image.
    shown_same old new same names (shown told (sym is ∙ there) names (subst (λ (c : ℕ). Image told c names) stays image))

module _ {F : Type 0} (files_of : F → Option Files) (old new : CoreStore F) (first : keeper.Told) (start : ℕ) where
  -- nothing was changed
  pub kept_untouched : (was now : Storage) → SameStore old new → now.disk ≡ was.disk → now.clock ≡ was.clock → now.failed ≡ was.failed → now.annals ≡ was.annals
      → KeepsThroughCrashes files_of old was first start → KeepsThroughCrashes files_of new now first start
  kept_untouched was now same disk mark count list keeps = record {
    safe = safe_moved was now first start disk mark list keeps.safe;
    calm = λ is.
        let before = keeps.calm (sym count ∙ (is ∙ same.opened_is)) in (
          calm_moved was now first start disk mark list before.0,
          (λ kept there. stands_same files_of (entries_of kept.list) old new (before.1 kept (sym list ∙ there)) same),
          images_moved old new same was.disk now.disk was.clock now.clock disk mark before.2,
        );
  }

  -- whatever a crash left, which stands for the list, showed the store's parts
  module _ (was : Storage) (s : AreCalm was first start) (shown : ImagesShow was.disk was.clock old) where
    was_rising : (names : Names) → Image s.told was.clock names → AreInByteOrder names
    was_rising = image_rise s.told was.clock

    was_standing : (names : Names) → Image s.told was.clock names → Stands names (entries_of s.kept.list)
    was_standing = (safe_stands s.told was.clock s.kept.list first.list start s.settled).images

    pub grown_of : (name : List ℕ) (files : Files) (later : History) → Grows old name files (entries_of s.kept.list) later
        → (names : Names) (left : Files) → Image s.told was.clock names → MayBecome files left → Stands (insert_entry (slice_cmp nat_cmp) names name left) later
    grown_of name files later grows = λ names left image become. grows names left (was_rising names image) (was_standing names image) (shown s.told s.disk_is names image) become

    pub shown_of : (name : List ℕ) (files : Files) → Shows old name files (entries_of s.kept.list) new
        → (names : Names) → Image (with_change was.clock (Publish name files) s.told) (was.clock + 1) names → AreShown new names
    shown_of name files shows =
        settled_holds s.told was.clock s.settled.stamped name files (AreShown new)
        (λ names left image become. shows names left (was_rising names image) (was_standing names image) (shown s.told s.disk_is names image) become)

  -- a turn published sealed files whose command makes of each root that stands for the list one that stands for it with the command
  module _ (was now : Storage) (name : List ℕ) (sealed : Option Files) (files : Files) (e : Entry) (sealed_is : sealed ≡ Some files) (s : AreCalm was first start) (shown : ImagesShow was.disk was.clock old)
      (grows : Grows old name files (entries_of s.kept.list) (entries_of s.kept.list ++ e ∷ []))
    where
      grown : (names : Names) (left : Files) → Image s.told was.clock names → MayBecome files left → Stands (insert_entry (slice_cmp nat_cmp) names name left) (entries_of s.kept.list ++ e ∷ [])
      grown = grown_of was s shown name files (entries_of s.kept.list ++ e ∷ []) grows

      abbrev published : Told
      published = with_change was.clock (Publish name files) s.told

      told_after : now.disk ≡ put was.clock name sealed was.disk → now.disk ≡ Some published
      told_after put_is = put_is ∙ (ap (λ (fs : Option Files). put was.clock name fs was.disk) sealed_is ∙ ap (put was.clock name (Some files)) s.disk_is)

      told_later : now.annals ≡ option_map (began e) was.annals → now.annals ≡ Some (began e s.kept)
      told_later begun = begun ∙ ap (option_map (began e)) s.annals_is

      -- it was committed
      abbrev after_note : keeper.Told
      after_note = noted (was.clock + 1) (began e s.kept)

      module _ (raised : now.clock ≡ was.clock + 1) (put_is : now.disk ≡ put was.clock name sealed was.disk) (notes : now.annals ≡ option_map (λ (t : keeper.Told). noted now.clock (began e t)) was.annals) where
        noted_later : now.annals ≡ Some after_note
        noted_later = notes ∙ (ap (option_map (λ (t : keeper.Told). noted now.clock (began e t))) s.annals_is ∙ ap (λ (c : ℕ). Some (noted c (began e s.kept))) raised)

        committed_settled : IsCrashSafe published now.clock (none_begun after_note.list) first.list start
        committed_settled = subst (λ (c : ℕ). IsCrashSafe published c (none_begun after_note.list) first.list start) (sym raised) (safe_noted s.told was.clock s.kept.list first.list start s.settled name files e grown)

        committed_stands : CoreStands files_of (entries_of s.kept.list ++ e ∷ []) new → StandsForKept files_of now.annals new
        committed_stands stands = λ kept there.
            let is = some_one after_note kept (sym noted_later ∙ there) in
            subst (λ (k : keeper.Told). CoreStands files_of (entries_of k.list) new) is
            (subst (λ (h : History). CoreStands files_of h new) (sym (map_push (λ (n : Noted). n.entry) s.kept.list (record { entry = e; mark = was.clock + 1 }))) stands)

        committed_shows : Shows old name files (entries_of s.kept.list) new → ImagesShow now.disk now.clock new
        committed_shows shows = λ told there names image.
            let is = some_one published told (sym (told_after put_is) ∙ there) in
            shown_of was s shown name files shows names (subst (λ (c : ℕ). Image published c names) raised (subst (λ (t : Told). Image t now.clock names) (sym is) image))

        pub kept_committed : CoreStands files_of (entries_of s.kept.list ++ e ∷ []) new → Shows old name files (entries_of s.kept.list) new → KeepsThroughCrashes files_of new now first start
        kept_committed stands shows = record {
          safe = record {
            told = published;
            kept = after_note;
            disk_is = told_after put_is;
            annals_is = noted_later;
            safe = safe_begun published now.clock after_note first.list start committed_settled;
          };
          calm = λ _. (
            record { told = published; kept = after_note; disk_is = told_after put_is; annals_is = noted_later; settled = committed_settled },
            committed_stands stands,
            committed_shows shows,
          );
        }

      -- its commit failed: its name is there or not
      failed_safe : now.clock ≡ was.clock → MayPut was.clock name sealed was.disk now.disk → now.annals ≡ option_map (began e) was.annals → AreCrashSafe now first start
      failed_safe stays (inl same) begun = record {
        told = s.told;
        kept = began e s.kept;
        disk_is = same ∙ s.disk_is;
        annals_is = told_later begun;
        safe = subst (λ (c : ℕ). IsCrashSafe s.told c (began e s.kept) first.list start) (sym stays) (safe_begun s.told was.clock (began e s.kept) first.list start s.settled);
      }
      failed_safe stays (inr put_is) begun = record {
        told = published;
        kept = began e s.kept;
        disk_is = told_after put_is;
        annals_is = told_later begun;
        safe = subst (λ (c : ℕ). IsCrashSafe published c (began e s.kept) first.list start) (sym stays) (safe_published s.told was.clock s.kept.list first.list start s.settled name files e grown);
      }

      -- and where the disk's count has not risen, it is not
      pub kept_failed : now.clock ≡ was.clock → MayPut was.clock name sealed was.disk now.disk → now.annals ≡ option_map (began e) was.annals → SameStore old new → StandsForKept files_of was.annals old
          → (now.failed ≡ new.opened → now.disk ≡ was.disk) → KeepsThroughCrashes files_of new now first start
      kept_failed stays may begun same stands unless = record {
        safe = failed_safe stays may begun;
        calm = λ is. (
          record {
            told = s.told;
            kept = began e s.kept;
            disk_is = unless is ∙ s.disk_is;
            annals_is = told_later begun;
            settled = subst (λ (c : ℕ). IsCrashSafe s.told c (none_begun s.kept.list) first.list start) (sym stays) s.settled;
          },
          (λ kept there.
              let is_kept = some_one (began e s.kept) kept (sym (told_later begun) ∙ there) in
              subst (λ (k : keeper.Told). CoreStands files_of (entries_of k.list) new) is_kept (stands_same files_of (entries_of s.kept.list) old new (stands s.kept s.annals_is) same)),
          images_moved old new same was.disk now.disk was.clock now.clock (unless is) stays shown,
        );
      }

  -- ---- a name that leaves each root standing for the list

  module _ (was now : Storage) (name : List ℕ) (sealed : Option Files) (files : Files) (sealed_is : sealed ≡ Some files) (same_list : now.annals ≡ was.annals) (s : AreCalm was first start) (shown : ImagesShow was.disk was.clock old)
      (grows : Grows old name files (entries_of s.kept.list) (entries_of s.kept.list))
    where
      abbrev merged : Told
      merged = with_change was.clock (Publish name files) s.told

      merged_told : now.disk ≡ put was.clock name sealed was.disk → now.disk ≡ Some merged
      merged_told put_is = put_is ∙ (ap (λ (fs : Option Files). put was.clock name fs was.disk) sealed_is ∙ ap (put was.clock name (Some files)) s.disk_is)

      merged_safe : IsCrashSafe merged was.clock (none_begun s.kept.list) first.list start
      merged_safe = safe_merged s.told was.clock s.kept.list first.list start s.settled name files (grown_of was s shown name files (entries_of s.kept.list) grows)

      -- it was settled
      module _ (raised : now.clock ≡ was.clock + 1) (put_is : now.disk ≡ put was.clock name sealed was.disk) where
        merged_settled : IsCrashSafe merged now.clock (none_begun s.kept.list) first.list start
        merged_settled = subst (λ (c : ℕ). IsCrashSafe merged c (none_begun s.kept.list) first.list start) (sym raised) (safe_synced merged was.clock s.kept.list first.list start merged_safe)

        pub kept_merged : StandsForKept files_of was.annals new → Shows old name files (entries_of s.kept.list) new → KeepsThroughCrashes files_of new now first start
        kept_merged stands shows = record {
          safe = record {
            told = merged;
            kept = s.kept;
            disk_is = merged_told put_is;
            annals_is = same_list ∙ s.annals_is;
            safe = safe_begun merged now.clock s.kept first.list start merged_settled;
          };
          calm = λ _. (
            record { told = merged; kept = s.kept; disk_is = merged_told put_is; annals_is = same_list ∙ s.annals_is; settled = merged_settled },
            (λ kept there. stands kept (sym same_list ∙ there)),
            (λ told there names image.
                let is = some_one merged told (sym (merged_told put_is) ∙ there) in
                shown_of was s shown name files shows names (subst (λ (c : ℕ). Image merged c names) raised (subst (λ (t : Told). Image t now.clock names) (sym is) image))),
          );
        }

      -- it is there or not
      unmerged_safe : now.clock ≡ was.clock → MayPut was.clock name sealed was.disk now.disk → AreCrashSafe now first start
      unmerged_safe stays (inl same) = record {
        told = s.told;
        kept = s.kept;
        disk_is = same ∙ s.disk_is;
        annals_is = same_list ∙ s.annals_is;
        safe = subst (λ (c : ℕ). IsCrashSafe s.told c s.kept first.list start) (sym stays) (safe_begun s.told was.clock s.kept first.list start s.settled);
      }
      unmerged_safe stays (inr put_is) = record {
        told = merged;
        kept = s.kept;
        disk_is = merged_told put_is;
        annals_is = same_list ∙ s.annals_is;
        safe = subst (λ (c : ℕ). IsCrashSafe merged c s.kept first.list start) (sym stays) (safe_begun merged was.clock s.kept first.list start merged_safe);
      }

      pub kept_unmerged : now.clock ≡ was.clock → MayPut was.clock name sealed was.disk now.disk → SameStore old new → StandsForKept files_of was.annals old
          → (now.failed ≡ new.opened → now.disk ≡ was.disk) → KeepsThroughCrashes files_of new now first start
      kept_unmerged stays may same stands unless = record {
        safe = unmerged_safe stays may;
        calm = λ is. (
          record {
            told = s.told;
            kept = s.kept;
            disk_is = unless is ∙ s.disk_is;
            annals_is = same_list ∙ s.annals_is;
            settled = subst (λ (c : ℕ). IsCrashSafe s.told c (none_begun s.kept.list) first.list start) (sym stays) s.settled;
          },
          (λ kept there. stands_same files_of (entries_of kept.list) old new (stands kept (sym same_list ∙ there)) same),
          images_moved old new same was.disk now.disk was.clock now.clock (unless is) stays shown,
        );
      }
