-- A run that is merged: it is committed under its name, or refused since no part may have that level.
use Rattle.std.proofs.Common.{◌≡◌, ◌⊎◌, inl, inr, ◌≤◌, Option, Some, None, Result, Ok, Err, refl, sym, ap, subst, arith}
use Rattle.std.specs.Option.{MatchOption}
use Rattle.mt_outside.specs.Files.{Files}
use Rattle.root_commits.specs.durable_commit.declared.causes.Limit.TheVariants as limit
use Rattle.root_commits.specs.durable_commit.declared.causes.Refused.TheVariants as refused
use Rattle.root_commits.specs.durable_commit.Commits.{stopped_by}
use Rattle.root_commits.specs.part_name.declared.part.PartName.{PartName}
use Rattle.root_commits.specs.root_store.declared.store.CoreStore.{CoreStore}
use Rattle.root_commits.specs.Commits.{SameStore}
use Rattle.root_commits.specs.declared.commits.Returned.{Returned}
use Rattle.root_commits.specs.Merges.{EntersMerge, Merging, name_of_merge, sources_of, within_levels}
use Rattle.root_commits.specs.Publications.{publication_of_merge}
use Rattle.root_commits.specs.Turns.{CommitsMerge, MaySwap, Root}
use Rattle.shared_store.specs.Works.{MergesRun}
use Rattle.shared_store.proofs.Marked.{commit_opened, done_as, publishes_later, refused_as}

module _ {F S : Type 0} (files_of : F → Option Files) (m : Merging) (was now : Root F) (part : S) where
  -- what is answered where no part may have that level
  abbrev too_high : Returned S
  too_high = record { cause = refused.Limit limit.Levels; back = Some part }

  module _ {T : Type 0} (result : Result T (Returned S)) where
    abbrev IsTooHigh : Type 0
    IsTooHigh = (result ≡ Err too_high) × (now ≡ was)

    pub merges_cases : MergesRun files_of m was now part result → IsTooHigh ⊎ ((name : PartName) × CommitsMerge files_of m name was now part result)
    merges_cases merges = by (within_levels (name_of_merge (sources_of was.store m))) merges
      where
        by : (o : Option PartName) → MatchOption o IsTooHigh (λ name. CommitsMerge files_of m name was now part result) → IsTooHigh ⊎ ((name : PartName) × CommitsMerge files_of m name was now part result)
        by None none = inl none
        by (Some name) commits = inr (name, commits)

    -- the run has a name that a part may have, and is committed under it
    pub merges_by : (name : PartName) → within_levels (name_of_merge (sources_of was.store m)) ≡ Some name → CommitsMerge files_of m name was now part result → MergesRun files_of m was now part result
    merges_by name is commits = subst (λ (o : Option PartName). MatchOption o IsTooHigh (λ n. CommitsMerge files_of m n was now part result)) (sym is) commits

    enters_opened : (name : PartName) (old new : CoreStore F) → EntersMerge files_of m name old new → new.opened ≡ old.opened
    enters_opened name old new e = e.opened_is

    -- the count at opening stays, and no fault is taken away
    pub merges_go : MergesRun files_of m was now part result → (now.store.opened ≡ was.store.opened) × (was.storage.failed ≤ now.storage.failed)
    merges_go merges = elim (merges_cases merges) [
      | inl high ↦ (ap (λ (r : Root F). r.store.opened) high.1, subst (λ (r : Root F). was.storage.failed ≤ r.storage.failed) (sym high.1) (omega arith))
      | inr d ↦ (
        commit_opened (MaySwap m d.0 was) (stopped_by was.store.opened was.storage.failed) (publication_of_merge m d.0) (EntersMerge files_of m d.0) part (enters_opened d.0) was now result d.1,
        publishes_later (publication_of_merge m d.0) was.storage now.storage part result d.1.turn,
      )
    ]

  -- a refused merge leaves the same tables and parts
  pub merges_refused : (T : Type 0) (r : Returned S) → MergesRun {T = T} files_of m was now part (Err r) → SameStore was.store now.store
  merges_refused T r merges = elim (merges_cases {T = T} (Err r) merges) [
    | inl high ↦ subst (λ (x : Root F). SameStore was.store x.store) (sym high.1) (record { tables = refl; parts = λ t. refl; mutations_are = refl; length_is = refl; opened_is = refl })
    | inr d ↦ d.1.enters
  ]

  -- one that was done was committed
  pub merges_done : {T : Type 0} (x : T) → MergesRun files_of m was now part (Ok x) → (name : PartName) × CommitsMerge files_of m name was now part (Ok x)
  merges_done x merges = elim (merges_cases (Ok x) merges) [
    | inl high ↦ (let bad : Ok x ≡ Err too_high = high.0 in absurd cc)
    | inr d ↦ d
  ]

  -- ---- the same merge, whatever else is answered

  pub merges_done_as : {T U : Type 0} (x : T) (y : U) → MergesRun files_of m was now part (Ok x) → MergesRun files_of m was now part (Ok y)
  merges_done_as x y merges = by (within_levels (name_of_merge (sources_of was.store m))) merges
    where
      by : (o : Option PartName) → MatchOption o (IsTooHigh (Ok x)) (λ name. CommitsMerge files_of m name was now part (Ok x)) → MatchOption o (IsTooHigh (Ok y)) (λ name. CommitsMerge files_of m name was now part (Ok y))
      by None high = let bad : Ok x ≡ Err too_high = high.0 in absurd cc
      by (Some name) d = done_as (MaySwap m name was) (stopped_by was.store.opened was.storage.failed) (publication_of_merge m name) (EntersMerge files_of m name) part was now x y d

  pub merges_refused_as : (T U : Type 0) (r : Returned S) → MergesRun {T = T} files_of m was now part (Err r) → MergesRun {T = U} files_of m was now part (Err r)
  merges_refused_as T U r merges = by (within_levels (name_of_merge (sources_of was.store m))) merges
    where
      by : (o : Option PartName) → MatchOption o (IsTooHigh {T = T} (Err r)) (λ name. CommitsMerge {T = T} files_of m name was now part (Err r)) → MatchOption o (IsTooHigh {T = U} (Err r)) (λ name. CommitsMerge {T = U} files_of m name was now part (Err r))
      by None high = let same : r ≡ too_high = cc in (ap (λ (q : Returned S). Err q) same, high.1)
      by (Some name) d = refused_as (MaySwap m name was) (stopped_by was.store.opened was.storage.failed) (publication_of_merge m name) (EntersMerge files_of m name) part was now r d
