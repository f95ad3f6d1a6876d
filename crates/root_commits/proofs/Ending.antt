-- The ways in which a commit ends: it was done, it was not settled, or what was sealed comes back.
use Rattle.std.proofs.Common.{◌≡◌, Option, Some, None, Result, Ok, Err, refl, sym, subst}
use Rattle.std.specs.Result.{MatchResult}
use Rattle.root_store.specs.durable_commit.declared.causes.Refused.{Refused}
use Rattle.root_store.specs.durable_commit.declared.causes.Refused.TheVariants as refused
use Rattle.root_store.specs.durable_commit.Publications.{IsPublished, IsUnsettled, Publication, Storage}
use Rattle.root_store.specs.declared.store.CoreStore.{CoreStore}
use Rattle.root_commits.specs.declared.commits.Returned.{Returned}
use Rattle.root_commits.specs.Commits.{IsCause, SameStore, cause_of}
use Rattle.root_commits.specs.Publications.{Publishes}
use Rattle.root_commits.specs.Turns.{Commits, Root}

module _ {F T S : Type 0} (From : Type 0) (shown : Option Refused) (p : Publication) (Enters : CoreStore F → CoreStore F → Type 0) (was now : Root F) (sealed : S)
    (does : (result : Result T (Returned S)) → IsCause shown (cause_of result) → Publishes p was.storage now.storage sealed result → MatchResult result (λ _. Enters was.store now.store) (λ _. SameStore was.store now.store)
    → Commits From shown p Enters was now sealed result)
  where
    -- the store and the disk's count show why
    pub shown_why : (cause : Refused) → shown ≡ Some cause → (cause ≡ refused.Disk → ⊥) → now.storage ≡ was.storage → SameStore was.store now.store → Commits {T = T} From shown p Enters was now sealed (Err (record { cause = cause; back = Some sealed }))
    shown_why cause is other stays same = does (Err (record { cause = cause; back = Some sealed })) (subst (λ (o : Option Refused). IsCause o (Some cause)) (sym is) refl) (record { returned = refl; stays = stays; other = other }) same

    module _ (none : shown ≡ None) where
      -- there was no memory
      pub no_memory : (refused.NoMemory ≡ refused.Disk → ⊥) → now.storage ≡ was.storage → SameStore was.store now.store → Commits {T = T} From shown p Enters was now sealed (Err (record { cause = refused.NoMemory; back = Some sealed }))
      no_memory other stays same =
          does (Err (record { cause = refused.NoMemory; back = Some sealed })) (subst (λ (o : Option Refused). IsCause o (Some refused.NoMemory)) (sym none) tt) (record { returned = refl; stays = stays; other = other }) same

      -- it was given to the disk, and not settled
      pub not_settled : (cause : Refused) → IsUnsettled p cause was.storage now.storage → SameStore was.store now.store → Commits {T = T} From shown p Enters was now sealed (Err (record { cause = cause; back = None }))
      not_settled cause d same = does (Err (record { cause = cause; back = None })) (subst (λ (o : Option Refused). IsCause o (Some cause)) (sym none) d.outside) d same

      -- it was committed
      pub committed : (x : T) → IsPublished p was.storage now.storage → Enters was.store now.store → Commits {T = T} From shown p Enters was now sealed (Ok x)
      committed x d enters = does (Ok x) (subst (λ (o : Option Refused). IsCause o None) (sym none) tt) d enters

-- ---- the same publication, from the same outside

module _ (p meant : Publication) (is : p ≡ meant) (had was now : Storage) (same : had ≡ was) where
  pub published_as : IsPublished p had now → IsPublished meant was now
  published_as d = subst (λ (q : Publication). IsPublished q was now) is (subst (λ (s : Storage). IsPublished p s now) same d)

  pub unsettled_as : (cause found : Refused) → found ≡ cause → IsUnsettled p cause had now → IsUnsettled meant found was now
  unsettled_as cause found by d =
      subst (λ (r : Refused). IsUnsettled meant r was now) (sym by)
      (subst (λ (q : Publication). IsUnsettled q cause was now) is (subst (λ (s : Storage). IsUnsettled p cause s now) same d))
