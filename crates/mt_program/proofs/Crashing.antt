-- What is left for a crash, from opening to the end of a run.
use Rattle.std.proofs.Common.{◌≡◌, ◌++◌, ℕ, List, [], Option, Some, None, refl, sym, ◌∙◌, subst}
use Rattle.mt_values.specs.Annals.{Told}
use Rattle.mt_values.specs.Script.{statements_of}
use Rattle.mt_outside.specs.Disk as root
use Rattle.mt_outside.specs.Files.{Files}
use Rattle.root_log.specs.root_store.declared.store.CoreStore.{CoreStore}
use Rattle.root_log.specs.root_store.Crashes.{AreCalm, AreCrashSafe, IsCrashSafe, KeepsThroughCrashes, Storage, entries_of, none_begun}
use Rattle.root_log.specs.root_store.Shown.{ImagesShow}
use Rattle.root_log.specs.root_store.Stores.{CoreStands}
use Rattle.root_log.proofs.RootCommitsCrashTurns.{calm_moved, safe_moved}
use Rattle.root_log.proofs.RootStoreCrashMarks.{safe_begun, some_one}
use Rattle.mt_program.specs.Crashes.{IsGainedBy, LeavesForCrashes, LeavesOfScript}
use Rattle.mt_program.specs.Courses.{Item}
use Rattle.mt_program.proofs.Gaining.{gained_more, gained_nothing}

-- the bytes that are told
abbrev told_or_none : Option (List ℕ) → List ℕ
told_or_none None = []
told_or_none (Some bytes) = bytes

told_is : (source : Option (List ℕ)) (script : List ℕ) → source ≡ Some script → told_or_none source ≡ script
told_is None script is = let none : None ≡ Some script = is in cc
told_is (Some bytes) script is = let both : Some bytes ≡ Some script = is in let same : bytes ≡ script = cc in same

-- after the last command the store is not needed any more
left_for_crashes : {F : Type 0} {files_of : F → Option Files} {store : CoreStore F} {now : Storage} {first : Told} {start : ℕ} (opened : ℕ) (statements : List Item)
    → store.opened ≡ opened → KeepsThroughCrashes files_of store now first start → IsGainedBy statements now.annals first → LeavesForCrashes statements opened now first start
left_for_crashes opened statements same keeps gained = record { safe = keeps.safe; calm = λ is. (keeps.calm (is ∙ sym same)).0; gained = gained }

-- of a script of which some statements ran
pub left_behind : {F : Type 0} {files_of : F → Option Files} {store : CoreStore F} {now : Storage} {first : Told} {start : ℕ} (opened : ℕ) (statements ran rest : List Item)
    → statements ≡ ran ++ rest → store.opened ≡ opened → KeepsThroughCrashes files_of store now first start → IsGainedBy ran now.annals first → LeavesForCrashes statements opened now first start
left_behind {now = now} {first = first} opened statements ran rest split same keeps gained =
    left_for_crashes opened statements same keeps (subst (λ (ss : List Item). IsGainedBy ss now.annals first) (sym split) (gained_more first ran rest now.annals gained))

-- the script was not read
pub unread : {F : Type 0} {files_of : F → Option Files} {store : CoreStore F} {now : Storage} {first : Told} {start : ℕ} (source : Option (List ℕ))
    → KeepsThroughCrashes files_of store now first start → IsGainedBy [] now.annals first → LeavesOfScript source store.opened now first start
unread {store = store} {now = now} {first = first} source keeps gained = record {
  text = told_or_none source;
  text_is = told_is source;
  leaves = left_for_crashes store.opened (statements_of (told_or_none source)) refl keeps (gained_more first [] (statements_of (told_or_none source)) now.annals gained);
}

module _ (told : root.Told) (kept : Told) (now : Storage) (start : ℕ) (disk_is : now.disk ≡ Some told) (annals_is : now.annals ≡ Some kept) (safe : IsCrashSafe told now.clock (none_begun kept.list) kept.list start) where
  opened_calm : AreCalm now kept start
  opened_calm = record { told = told; kept = kept; disk_is = disk_is; annals_is = annals_is; settled = safe }

  opened_safe : AreCrashSafe now kept start
  opened_safe = record { told = told; kept = kept; disk_is = disk_is; annals_is = annals_is; safe = safe_begun told now.clock kept kept.list start safe }

  -- nothing ran
  pub nothing_of_script : (source : Option (List ℕ)) (opened : ℕ) → LeavesOfScript source opened now kept start
  nothing_of_script source opened = record {
    text = told_or_none source;
    text_is = told_is source;
    leaves = record {
      safe = opened_safe;
      calm = λ _. opened_calm;
      gained = gained_more kept [] (statements_of (told_or_none source)) now.annals (gained_nothing now.annals kept annals_is);
    };
  }

  -- a root was opened
  pub keeps_opened : {F : Type 0} (files_of : F → Option Files) (store : CoreStore F) → CoreStands files_of (entries_of kept.list) store → ImagesShow now.disk now.clock store → KeepsThroughCrashes files_of store now kept start
  keeps_opened files_of store stands images = record {
    safe = opened_safe;
    calm = λ _. (
      opened_calm,
      (λ k there. subst (λ (x : Told). CoreStands files_of (entries_of x.list) store) (some_one kept k (sym annals_is ∙ there)) stands),
      images,
    );
  }

-- the disk was handed on, its count of faults no lower, without a change of what is known of it
pub left_moved : {source : Option (List ℕ)} {opened : ℕ} {first : Told} {start : ℕ} (was now : Storage)
    → now.disk ≡ was.disk → now.clock ≡ was.clock → now.annals ≡ was.annals → (now.failed ≡ opened → was.failed ≡ opened) → LeavesOfScript source opened was first start → LeavesOfScript source opened now first start
left_moved {first = first} {start = start} was now disk mark list back left = record {
  text = left.text;
  text_is = left.text_is;
  leaves = record {
    safe = safe_moved was now first start disk mark list left.leaves.safe;
    calm = λ is. calm_moved was now first start disk mark list (left.leaves.calm (back is));
    gained = subst (λ (a : Option Told). IsGainedBy (statements_of left.text) a first) (sym list) left.leaves.gained;
  };
}
