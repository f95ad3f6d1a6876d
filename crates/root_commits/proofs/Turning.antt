-- What a commit gave to the disk, and what is known after it was refused.
use Rattle.std.proofs.Common.{◌≡◌, ◌≢◌, ◌⊎◌, inl, inr, ◌≤◌, arith, Option, Some, None, refl, ap, subst}
use Rattle.std.specs.Prelude.{IfSome, IsNone}
use Rattle.std.specs.Option.{MatchOption}
use Rattle.mt_values.specs.declared.command.Entry.{Entry}
use Rattle.mt_outside.specs.Causes.{Rose}
use Rattle.mt_outside.specs.Disk.{MayPut}
use Rattle.root_store.specs.durable_commit.declared.causes.Refused.{Refused}
use Rattle.root_store.specs.durable_commit.declared.causes.Refused.TheVariants as refused
use Rattle.root_store.specs.durable_commit.Commits.{IsOutside, SameList}
use Rattle.root_store.specs.durable_commit.Publications.{Begins, IsUnsettled, Publication, Storage}
use Rattle.root_store.proofs.DurableCommitSameLists.{begun_same, not_none, same_list}
use Rattle.root_commits.specs.Commits.{IsCause}
use Rattle.root_commits.specs.Publications.{IsKeptBack}

-- ---- whether it was given to the disk

module _ {S : Type 0} (p : Publication) (was now : Storage) (sealed : S) (cause : Refused) where
  -- what was sealed comes back, or not
  pub given_or_kept : (back : Option S) → MatchOption back (IsUnsettled p cause was now) (λ s. IsKeptBack sealed s cause was now)
      → IsUnsettled p cause was now ⊎ ((s : S) × IsKeptBack sealed s cause was now)
  given_or_kept None d = inl d
  given_or_kept (Some s) k = inr (s, k)

-- the causes that a store and the disk's count show are none of the outside
abbrev pub IsInside : Option Refused → Type 0
IsInside shown = (s : Refused) → shown ≡ Some s → IsOutside (Some s) → ⊥

-- so nothing is shown where a commit was done, or has a cause of the outside
pub none_shown_by : (shown cause : Option Refused) → IsInside shown → IsCause shown cause → IsOutside cause → shown ≡ None
none_shown_by None cause inside caused outside = refl
none_shown_by (Some s) cause inside caused outside = absurd (inside s refl (subst IsOutside caused outside))

-- ---- after a refusal

-- the same annals list the same entries, and so do those where an entry is begun
pub begins_same : (p : Publication) (was now : Storage) → Begins p.entry was.annals now.annals → SameList was.annals now.annals
begins_same p was now begun = by p.entry begun
  where
    by : (entry : Option Entry) → Begins entry was.annals now.annals → SameList was.annals now.annals
    by None same = same_list was.annals now.annals same
    by (Some e) is = begun_same was.annals now.annals e is

-- what is known after a commit that was refused, whether what was sealed comes back or not
pub record AfterRefusal {S : Type 0} (p : Publication) (was now : Storage) (sealed : S) (cause : Refused) (back : Option S) : Type 0 where
  pub rose : cause ≡ refused.Disk → Rose was.failed now.failed
  pub later : was.failed ≤ now.failed
  pub calm : p.failed ≡ 0 → cause ≢ refused.Disk → now.failed ≡ was.failed
  pub unchanged : cause ≢ refused.Disk → now.disk ≡ was.disk
  pub mark : now.clock ≡ was.clock
  pub list : SameList was.annals now.annals
  pub returned : IfSome back (λ s. s ≡ sealed)
  pub list_back : IfSome back (λ _. now.annals ≡ was.annals)
  pub stays : IfSome back (λ _. now ≡ was)
  pub faulted : cause ≡ refused.Disk → IsNone back
  pub given : IsNone back → IsOutside (Some cause)
  pub published : IsNone back → MayPut was.clock p.name p.files was.disk now.disk
  pub begun : IsNone back → Begins p.entry was.annals now.annals

module _ {S : Type 0} (p : Publication) (was now : Storage) (sealed : S) (cause : Refused) where
  pub after_refusal : (back : Option S) → MatchOption back (IsUnsettled p cause was now) (λ s. IsKeptBack sealed s cause was now) → AfterRefusal p was now sealed cause back
  after_refusal None d = record {
    rose = d.rose;
    later = d.later;
    calm = d.calm;
    unchanged = d.unchanged;
    mark = d.mark;
    list = begins_same p was now d.annals;
    returned = tt;
    list_back = tt;
    stays = tt;
    faulted = λ disk. refl;
    given = λ none. d.outside;
    published = λ none. d.root;
    begun = λ none. d.annals;
  }
  after_refusal (Some s) n =
      let root : now.disk ≡ was.disk = ap (λ (x : Storage). x.disk) n.stays in
      let mark : now.clock ≡ was.clock = ap (λ (x : Storage). x.clock) n.stays in
      let count : now.failed ≡ was.failed = ap (λ (x : Storage). x.failed) n.stays in
      let list : now.annals ≡ was.annals = ap (λ (x : Storage). x.annals) n.stays in
      record {
        rose = λ disk. absurd (n.other disk);
        later = omega (arith, count);
        calm = λ none other. count;
        unchanged = λ other. root;
        mark = mark;
        list = same_list was.annals now.annals list;
        returned = n.returned;
        list_back = list;
        stays = n.stays;
        faulted = λ disk. absurd (n.other disk);
        given = λ none. absurd (not_none none);
        published = λ none. absurd (not_none none);
        begun = λ none. absurd (not_none none);
      }
