-- What is known of a shared root once all seats and a share are given back.
use Rattle.std.proofs.Common.{◌≡◌, ℕ, ◌+◌, ◌<◌, ◌≤◌, ◌++◌, Bool, true, false, List, Option, Some, refl, sym, ap, ◌∙◌, subst, arith, ◌⊎◌, None, inl, inr}
use Rattle.mt_values.specs.Annals as keeper
use Rattle.mt_outside.specs.Files.{Files}
use Rattle.history_seat.specs.declared.view.View.{View}
use Rattle.root_commits.specs.durable_commit.Publications.{Storage}
use Rattle.root_commits.specs.mt_model.History.{History, IsLegal, entries_of}
use Rattle.root_commits.specs.root_store.Crashes.{KeepsThroughCrashes}
use Rattle.root_commits.specs.root_store.Soundness.{RootStands}
use Rattle.shared_store.specs.Levels.{has_greatest}
use Rattle.shared_store.specs.Sharing.{AtOpening, Finished, begun_now}
use Rattle.shared_store.specs.Stood.{ListsMore, Premise, is_listed, is_noted, is_rooted, is_safe, is_told}
use Rattle.shared_store.specs.Tallies.{Tally}
use Rattle.shared_store.proofs.Risen.{above}

module _ {F : Type 0} (files_of : F → Option Files) (given : Premise → Type 0) (before : History) (o : AtOpening) (whole : ℕ) (now : Storage) (started : Option (List ℕ)) (seats : List View) (share : Tally)
    (f : Finished files_of given before o whole now started seats share) where
  abbrev pub log : History
  log = before ++ f.last.list

  -- the annals list the whole history, which is legal
  pub annals_list : given is_told → given is_listed → (kept : keeper.Told) × (now.annals ≡ Some kept) × (entries_of kept.list ≡ log) × (kept.begun ≡ begun_now o.begun f.last.list f.last.tried)
  annals_list told known =
      let k = f.shared.stood.listed told known in
      (k.kept, ap (λ (x : Storage). x.annals) (sym f.storage_is) ∙ k.annals_is, k.list_is, k.begun_is)

  -- with the marks of what they listed first
  pub annals_more : (first : keeper.Told) → given (is_noted first) → ListsMore first now.annals
  annals_more first noted = subst (λ (x : Storage). ListsMore first x.annals) f.storage_is (f.shared.stood.grows first noted)

  pub log_legal : given is_told → given is_listed → IsLegal log
  log_legal told known = (f.shared.stood.listed told known).stands.legal

  -- what a crash leaves
  pub crashes_after : given is_told → given is_listed → (first : keeper.Told) (start : ℕ) → given (is_safe first start) → KeepsThroughCrashes files_of f.last.root.store now first start
  crashes_after told known first start safe = subst (λ (x : Storage). KeepsThroughCrashes files_of f.last.root.store x first start) f.storage_is (f.shared.stood.safe told known first start safe)

  -- what a share with every part has counted
  module _ (all : share.parts ≡ whole) where
    pub stands_after : given is_told → given is_listed → given is_rooted → (share.stops ≡ 0) ⊎ (f.last.tried ≡ None) → RootStands now.disk log
    stands_after told known rooted either = subst (λ (x : Storage). RootStands x.disk log) f.storage_is (f.shared.stood.rooted told known rooted (elim either [ inl none ↦ inl ((f.counted all).1 ∙ none) | inr none ↦ inr none ]))

    pub stops_rose : 0 < share.stops → o.failed < now.failed
    stops_rose some = above o.failed now.failed low (λ calm. let none = f.shared.no_stop (same ∙ calm) in let is = (f.counted all).1 in omega (arith, none, is, some))
      where
        same : f.last.root.storage.failed ≡ now.failed
        same = ap (λ (x : Storage). x.failed) f.storage_is

        low : o.failed ≤ now.failed
        low = let opened = f.ready.opened in let at = f.shared.opened_is in omega (arith, opened, at, same)

    -- the disk's count is the one with which the root was first shared, and the faults that were counted
    pub faults_are : now.failed ≡ o.shared + share.faults
    faults_are = ap (λ (x : Storage). x.failed) (sym f.storage_is) ∙ (f.shared.met ∙ ap (λ (n : ℕ). o.shared + n) (f.counted all).3)

    pub levels_full : 0 < share.levels → has_greatest f.last.root.store ≡ true
    levels_full some = by (has_greatest f.last.root.store) refl
      where
        by : (b : Bool) → has_greatest f.last.root.store ≡ b → has_greatest f.last.root.store ≡ true
        by true is = is
        by false is = absurd (let none = f.shared.no_level is in let counted = (f.counted all).2 in omega (arith, none, counted, some))
