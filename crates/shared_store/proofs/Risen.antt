-- When a stop is counted, and by how much the disk's count rises in a turn.
use Rattle.std.proofs.Common.{◌≡◌, ◌≢◌, ℕ, ◌+◌, ◌-◌, ◌<◌, ◌≤◌, ◌^◌, Bool, true, false, cond, is_some, length, List, nat_le, nat_lt, Option, Some, None, Result, Ok, Err, inl, inr, refl, sym, ap, subst, arith}
use Rattle.std.proofs.lemmas.Bool.{cases_lt}
use Rattle.std.proofs.lemmas.Bool.Decides.{nat_tests}
use Rattle.std.specs.Option.{MatchOption}
use Rattle.mt_base.specs.declared.partition.Partition.{Partition}
use Rattle.mt_outside.specs.Causes.{Rose}
use Rattle.root_commits.specs.durable_commit.declared.causes.Limit.TheVariants as limit
use Rattle.root_commits.specs.durable_commit.declared.causes.Refused.{Refused}
use Rattle.root_commits.specs.durable_commit.declared.causes.Refused.TheVariants as refused
use Rattle.root_commits.specs.durable_commit.Commits.{stopped_by}
use Rattle.root_commits.specs.durable_commit.Publications.{IsUnsettled, Publication, Storage}
use Rattle.root_commits.specs.part_set.Parts.{kept_in}
use Rattle.root_commits.specs.part_set.Sets.{parts_of}
use Rattle.root_commits.specs.declared.commits.Returned.{Returned}
use Rattle.root_commits.specs.root_store.declared.store.CoreStore.{CoreStore}
use Rattle.root_commits.specs.root_store.Stores.{table_at}
use Rattle.root_commits.specs.Commits.{IsCause, cause_of, refuses_create, refuses_part}
use Rattle.root_commits.specs.Publications.{IsKeptBack, Publishes}
use Rattle.shared_store.specs.Tallies.{Tally, levels_in, stops_by, stops_in, tally}
use Rattle.shared_store.specs.Turns.{Counts}

-- ---- numbers

-- a number that is another's at least, and not that, is above it
pub above : (m n : ℕ) → m ≤ n → (n ≡ m → ⊥) → m < n
above m n low apart = elim (cases_lt m n) [ inl less ↦ less | inr most ↦ absurd (apart (omega (arith, low, most))) ]

-- ---- what a store shows

-- of what is shown against a turn: that the store was stopped only where the count has risen, and then with both counts
abbrev pub ShowsRisen : ℕ → ℕ → Option Refused → Type 0
ShowsRisen opened now None = Unit {0}
ShowsRisen opened now (Some refused.NoMemory) = ⊥
ShowsRisen opened now (Some refused.Disk) = ⊥
ShowsRisen opened now (Some (refused.Stopped o n)) = (o ≡ opened) × (n ≡ now) × (opened < now)
ShowsRisen opened now (Some refused.Exists) = Unit {0}
ShowsRisen opened now (Some (refused.Limit l)) = Unit {0}

if_risen : (opened now : ℕ) (b : Bool) (x : Refused) (rest : Option Refused) → ShowsRisen opened now (Some x) → ShowsRisen opened now rest → ShowsRisen opened now (cond b (Some x) rest)
if_risen opened now true x rest first next = first
if_risen opened now false x rest first next = next

pub stopped_risen : (opened now : ℕ) → ShowsRisen opened now (stopped_by opened now)
stopped_risen opened now = by (nat_lt opened now) refl
  where
    by : (b : Bool) → nat_lt opened now ≡ b → ShowsRisen opened now (cond b (Some (refused.Stopped opened now)) None)
    by true is = (refl, refl, grind (arith, nat_tests, is))
    by false is = tt

module _ {F : Type 0} (store : CoreStore F) (table : List ℕ) (now : ℕ) where
  pub create_risen : ShowsRisen store.opened now (refuses_create store table now)
  create_risen =
      if_risen store.opened now (is_some (table_at store table)) refused.Exists _ tt
      (if_risen store.opened now (nat_le 64 (length store.tables.entries)) (refused.Limit limit.Tables) _ tt (stopped_risen store.opened now))

  pub part_risen : (partition : Partition) (drawn : ℕ) → ShowsRisen store.opened now (refuses_part store table partition drawn now)
  part_risen partition drawn =
      if_risen store.opened now (nat_le 3000 (length (kept_in partition (parts_of store.set table)))) (refused.Limit limit.Parts) _ tt
      (if_risen store.opened now (nat_le 4294967295 drawn) (refused.Limit limit.Numbers) _ tt (stopped_risen store.opened now))

-- where nothing is shown, the count is the one at opening
stopped_calm : (opened now : ℕ) → opened ≤ now → IsCause (stopped_by opened now) None → now ≡ opened
stopped_calm opened now low is = by (nat_lt opened now) refl is
  where
    by : (b : Bool) → nat_lt opened now ≡ b → IsCause (cond b (Some (refused.Stopped opened now)) None) None → now ≡ opened
    by true risen none = cc
    by false calm none = grind (arith, nat_tests, calm, low)

not_shown : (b : Bool) (x : Refused) (rest : Option Refused) → IsCause (cond b (Some x) rest) None → IsCause rest None
not_shown true x rest is = cc
not_shown false x rest is = is

module _ {F : Type 0} (store : CoreStore F) (table : List ℕ) (now : ℕ) (low : store.opened ≤ now) where
  pub create_calm : IsCause (refuses_create store table now) None → now ≡ store.opened
  create_calm is =
      stopped_calm store.opened now low
      (not_shown (nat_le 64 (length store.tables.entries)) (refused.Limit limit.Tables) (stopped_by store.opened now) (not_shown (is_some (table_at store table)) refused.Exists _ is))

  pub part_calm : (partition : Partition) (drawn : ℕ) → IsCause (refuses_part store table partition drawn now) None → now ≡ store.opened
  part_calm partition drawn is =
      stopped_calm store.opened now low
      (not_shown (nat_le 4294967295 drawn) (refused.Limit limit.Numbers) (stopped_by store.opened now) (not_shown (nat_le 3000 (length (kept_in partition (parts_of store.set table)))) (refused.Limit limit.Parts) _ is))

-- ---- what is counted

-- a count that rose in a turn is above the one at opening
rose_above : (opened was now : ℕ) → opened ≤ was → opened < 2 ^ 64 - 1 → Rose was now → opened < now
rose_above opened was now low below rose = omega (arith, rose, low, below)

module _ {S : Type 0} (opened : ℕ) (shown : Option Refused) (p : Publication) (was now : Storage) (sealed : S) (low : opened ≤ was.failed) (below : opened < 2 ^ 64 - 1) (risen : ShowsRisen opened was.failed shown) where
  disk_above : (T : Type 0) (r : Returned S) → Publishes {T = T} p was now sealed (Err r) → r.cause ≡ refused.Disk → opened < now.failed
  disk_above T r turn disk = by r.back turn
    where
      by : (b : Option S) → MatchOption b (IsUnsettled p r.cause was now) (λ back. IsKeptBack sealed back r.cause was now) → opened < now.failed
      by None unsettled = rose_above opened was.failed now.failed low below (unsettled.rose disk)
      by (Some back) kept = absurd (kept.other disk)

  stopped_above : (o n : ℕ) → IsCause shown (Some (refused.Stopped o n)) → (o ≡ opened) × (n ≡ was.failed) × (opened < was.failed)
  stopped_above o n cause = by shown risen cause
    where
      by : (s : Option Refused) → ShowsRisen opened was.failed s → IsCause s (Some (refused.Stopped o n)) → (o ≡ opened) × (n ≡ was.failed) × (opened < was.failed)
      by None shows is = absurd is
      by (Some s) shows is = subst (ShowsRisen opened was.failed) (sym is) shows

module _ {T S : Type 0} (opened : ℕ) (shown : Option Refused) (p : Publication) (was now : Storage) (sealed : S) (low : opened ≤ was.failed) (below : opened < 2 ^ 64 - 1) (risen : ShowsRisen opened was.failed shown) where
  abbrev Ends : Result T (Returned S) → Type 0
  Ends result = IsCause shown (cause_of result) × Publishes p was now sealed result

  -- nothing is counted while the count is the one at opening
  pub calm_stops : (result : Result T (Returned S)) → Ends result → was.failed ≤ now.failed → now.failed ≡ opened → stops_by result ≡ 0
  calm_stops (Ok x) ends later calm = refl
  calm_stops (Err r) ends later calm = by r.cause refl
    where
      by : (c : Refused) → r.cause ≡ c → stops_in (Some r.cause) ≡ 0
      by refused.NoMemory is = ap (λ (d : Refused). stops_in (Some d)) is
      by refused.Disk is = let above = disk_above opened shown p was now sealed low below risen T r ends.1 is in absurd (omega (arith, above, calm))
      by (refused.Stopped o n) is =
          let above = stopped_above opened shown p was now sealed low below risen o n (subst (λ (d : Refused). IsCause shown (Some d)) is ends.0) in
          let high = above.2 in
          absurd (omega (arith, high, later, calm))
      by refused.Exists is = ap (λ (d : Refused). stops_in (Some d)) is
      by (refused.Limit l) is = ap (λ (d : Refused). stops_in (Some d)) is

-- ---- by how much the disk's count rises

-- a turn in which so many calls of what was sealed had failed: the count rose where the disk failed; and else not, where none of them had
pub record IsRisen (calls : ℕ) (cause : Option Refused) (was now : ℕ) : Type 0 where
  pub later : was ≤ now
  pub rose : cause ≡ Some refused.Disk → Rose was now
  pub calm : calls ≡ 0 → cause ≢ Some refused.Disk → now ≡ was

-- the outside is as it was, for another cause
pub stays_risen : (calls : ℕ) (cause : Option Refused) (was now : ℕ) → now ≡ was → cause ≢ Some refused.Disk → IsRisen calls cause was now
stays_risen calls cause was now same other = record { later = omega (arith, same); rose = λ disk. absurd (other disk); calm = λ _ _. same }

module _ {T S : Type 0} (p : Publication) (was now : Storage) (sealed : S) where
  pub publishes_risen : (result : Result T (Returned S)) → Publishes p was now sealed result → IsRisen p.failed (cause_of result) was.failed now.failed
  publishes_risen (Ok x) is = record { later = is.later; rose = λ disk. (let no : None ≡ Some refused.Disk = disk in absurd cc); calm = λ none other. is.calm none }
  publishes_risen (Err r) is = by r.back is
    where
      disk_is : Some r.cause ≡ Some refused.Disk → r.cause ≡ refused.Disk
      disk_is same = cc

      by : (b : Option S) → MatchOption b (IsUnsettled p r.cause was now) (λ back. IsKeptBack sealed back r.cause was now) → IsRisen p.failed (Some r.cause) was.failed now.failed
      by None u = record { later = u.later; rose = λ disk. u.rose (disk_is disk); calm = λ none other. u.calm none (λ disk. other (ap (λ (c : Refused). Some c) disk)) }
      by (Some back) k = stays_risen p.failed (Some r.cause) was.failed now.failed (ap (λ (x : Storage). x.failed) k.stays) (λ disk. k.other (disk_is disk))

-- what a share has counted then
pub counts_risen : (calls out : ℕ) (cause : Option Refused) (was now : ℕ) (old new : Tally) → IsRisen calls cause was now → new ≡ tally old.parts out (old.stops + stops_in cause) (old.levels + levels_in cause) (old.faults + (now - was)) → Counts was calls out cause old new
counts_risen calls out cause was now old new risen counted = record {
  rise = now - was;
  counted = counted;
  rose = λ disk. subst (λ (n : ℕ). Rose was n) (let later = risen.later in omega (arith, later)) (risen.rose disk);
  calm = λ none other. (let same = risen.calm none other in omega (arith, same));
}

-- a share by what it has
pub tally_as : (p q o r s t l m f g : ℕ) → p ≡ q → o ≡ r → s ≡ t → l ≡ m → f ≡ g → tally p o s l f ≡ tally q r t m g
tally_as p q o r s t l m f g parts out stops levels faults = λ i. tally (parts i) (out i) (stops i) (levels i) (faults i)
