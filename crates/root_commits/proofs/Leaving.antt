-- What a commit that failed leaves.
use Rattle.std.proofs.Common.{◌≡◌, ℕ, List, [], ◌∷◌, Option, Some, None, Bool, true, false, cond, is_some, nat_le, nat_lt, length, ◌<◌, ◌≤◌, ◌⊎◌, arith, refl, sym, ap, ◌∙◌, subst, inl, inr}
use Rattle.std.specs.BTreeMap.{insert_entry, is_at}
use Rattle.std.specs.Cmp.{IsTotalOrder}
use Rattle.std.specs.Cmp.Lexicographic.{slice_cmp}
use Rattle.std.specs.Map.{lookup, remove_entry}
use Rattle.std.specs.Ordering.{is_eq, match_ordering, nat_cmp}
use Rattle.std.specs.declared.cmp.Ordering.{Ordering}
use Rattle.std.specs.declared.cmp.Ordering.TheVariants.{Less, Equal, Greater}
use Rattle.std.proofs.lemmas.Bool.Decides.{nat_tests}
use Rattle.std.proofs.lemmas.Cmp.{nat_list_cmp_total, tied_itself}
use Rattle.mt_base.specs.declared.partition.Partition.{Partition}
use Rattle.root_store.specs.part_set.Parts.{kept_in}
use Rattle.root_store.specs.part_set.Sets.{parts_of}
use Rattle.root_store.specs.durable_commit.declared.causes.Limit.TheVariants as limit
use Rattle.root_store.specs.durable_commit.declared.causes.Refused.{Refused}
use Rattle.root_store.specs.durable_commit.declared.causes.Refused.TheVariants as refused
use Rattle.root_store.specs.durable_commit.Commits.{IsOutside}
use Rattle.root_store.specs.declared.store.CoreStore.{CoreStore}
use Rattle.root_commits.specs.Commits.{SameStore, refuses_create, refuses_part}
use Rattle.root_store.specs.Stores.{table_at}
use Rattle.root_commits.proofs.Turning.{IsInside}

-- a new entry that is taken out again
put_and_removed : {K X : Type 0} (cmp : K → K → Ordering) → IsTotalOrder cmp → (es : List (K × X)) (k : K) (v : X) → lookup (is_at (cmp k)) es ≡ None → remove_entry (is_at (cmp k)) (insert_entry cmp es k v) ≡ es
put_and_removed cmp total [] k v none = ap (λ r. cond (is_eq r) [] ((k, v) ∷ [])) (tied_itself total k)
put_and_removed {K} {X} cmp total (e ∷ es) k v none = by (λ rest. put_and_removed cmp total es k v rest) (cmp k e.0) refl
  where
    by : (lookup (is_at (cmp k)) es ≡ None → remove_entry (is_at (cmp k)) (insert_entry cmp es k v) ≡ es) → (r : Ordering) → cmp k e.0 ≡ r → remove_entry (is_at (cmp k)) (match_ordering r ((k, v) ∷ e ∷ es) ((e.0, v) ∷ es) (e ∷ insert_entry cmp es k v)) ≡ e ∷ es
    by later Less is = ap (λ r. cond (is_eq r) (e ∷ es) ((k, v) ∷ remove_entry (is_at (cmp k)) (e ∷ es))) (tied_itself total k)
    by later Equal is =
        let found : Some e.1 ≡ None = sym (ap (λ r. cond (is_eq r) (Some e.1) (lookup (is_at (cmp k)) es)) is) ∙ none in
        cc
    by later Greater is =
        let rest : lookup (is_at (cmp k)) es ≡ None = sym (ap (λ r. cond (is_eq r) (Some e.1) (lookup (is_at (cmp k)) es)) is) ∙ none in
        ap (λ r. cond (is_eq r) (insert_entry cmp es k v) (e ∷ remove_entry (is_at (cmp k)) (insert_entry cmp es k v))) is
        ∙ ap (λ (xs : List (K × X)). e ∷ xs) (later rest)

-- the entries after that are those before
pub taken_out : {X : Type 0} (before entered after : List (List ℕ × X)) (key k : List ℕ) (v : X) → lookup (is_at (slice_cmp nat_cmp key)) before ≡ None
    → entered ≡ insert_entry (slice_cmp nat_cmp) before key v → k ≡ key → after ≡ remove_entry (is_at (slice_cmp nat_cmp k)) entered → after ≡ before
taken_out {X} before entered after key k v none put same is =
    is
    ∙ (ap (λ (t : List ℕ). remove_entry (is_at (slice_cmp nat_cmp t)) entered) same
    ∙ (ap (λ (es : List (List ℕ × X)). remove_entry (is_at (slice_cmp nat_cmp key)) es) put ∙ put_and_removed (slice_cmp nat_cmp) nat_list_cmp_total before key v none))

-- ---- what the store and the disk's count show, by the three tests that are made

-- nothing is shown: no test passed
three_none : {X : Type 0} (a b c : Bool) (x y z : X) → cond a (Some x) (cond b (Some y) (cond c (Some z) None)) ≡ None → (a ≡ false) × (b ≡ false) × (c ≡ false)
three_none true b c x y z is = cc
three_none false true c x y z is = cc
three_none false false true x y z is = cc
three_none false false false x y z is = (refl, refl, refl)

-- something is shown: it is what one of them shows
three_some : {X : Type 0} (a b c : Bool) (x y z w : X) → cond a (Some x) (cond b (Some y) (cond c (Some z) None)) ≡ Some w → (x ≡ w) ⊎ (y ≡ w) ⊎ (z ≡ w)
three_some true b c x y z w is = inl cc
three_some false true c x y z w is = inr (inl cc)
three_some false false true x y z w is = inr (inr cc)
three_some false false false x y z w is = cc

none_from : {X : Type 0} (o : Option X) → is_some o ≡ false → o ≡ None
none_from None is = refl
none_from (Some x) is = cc

-- a count that is not above the one at opening is that one
calm : (opened now : ℕ) → nat_lt opened now ≡ false → opened ≤ now → now ≡ opened
calm opened now test low = grind (arith, nat_tests, test, low)

module _ {F : Type 0} (store : CoreStore F) (table : List ℕ) (now : ℕ) where
  abbrev Stopped : Refused
  Stopped = refused.Stopped store.opened now

  module _ (none : refuses_create store table now ≡ None) where
    tests : (is_some (table_at store table) ≡ false) × (nat_le 64 (length store.tables.entries) ≡ false) × (nat_lt store.opened now ≡ false)
    tests = three_none (is_some (table_at store table)) (nat_le 64 (length store.tables.entries)) (nat_lt store.opened now) refused.Exists (refused.Limit limit.Tables) Stopped none

    -- where nothing is shown there is no such table
    pub shown_absent : table_at store table ≡ None
    shown_absent = none_from (table_at store table) tests.0

    -- and there are not too many
    pub shown_few : length store.tables.entries < 64
    shown_few = let full = tests.1 in grind (arith, nat_tests, full)

    -- and the disk's count is the one at opening
    pub shown_calm : store.opened ≤ now → now ≡ store.opened
    shown_calm low = calm store.opened now tests.2 low

  -- no fault of the disk is shown
  pub shown_other : (cause : Refused) → refuses_create store table now ≡ Some cause → cause ≡ refused.Disk → ⊥
  shown_other cause is same = elim (three_some (is_some (table_at store table)) (nat_le 64 (length store.tables.entries)) (nat_lt store.opened now) refused.Exists (refused.Limit limit.Tables) Stopped cause is) [
    | inl first ↦ cc
    | inr others ↦ elim others [ inl second ↦ cc | inr third ↦ cc ]
  ]

  -- what is shown is no cause of the outside
  pub shown_inside : IsInside (refuses_create store table now)
  shown_inside s is outside = elim (three_some (is_some (table_at store table)) (nat_le 64 (length store.tables.entries)) (nat_lt store.opened now) refused.Exists (refused.Limit limit.Tables) Stopped s is) [
    | inl first ↦ subst (λ (r : Refused). IsOutside (Some r)) (sym first) outside
    | inr others ↦ elim others [ inl second ↦ subst (λ (r : Refused). IsOutside (Some r)) (sym second) outside | inr third ↦ subst (λ (r : Refused). IsOutside (Some r)) (sym third) outside ]
  ]

  module _ (partition : Partition) (drawn : ℕ) where
    module _ (none : refuses_part store table partition drawn now ≡ None) where
      part_tests : (nat_le 3000 (length (kept_in partition (parts_of store.set table))) ≡ false) × (nat_le 4294967295 drawn ≡ false) × (nat_lt store.opened now ≡ false)
      part_tests = three_none (nat_le 3000 (length (kept_in partition (parts_of store.set table)))) (nat_le 4294967295 drawn) (nat_lt store.opened now)
          (refused.Limit limit.Parts) (refused.Limit limit.Numbers) Stopped none

      -- where nothing is shown against a part there is a number left
      pub shown_number : drawn < 4294967295
      shown_number = let last = part_tests.1 in grind (arith, nat_tests, last)

      -- and the disk's count is the one at opening
      pub shown_part_calm : store.opened ≤ now → now ≡ store.opened
      shown_part_calm low = calm store.opened now part_tests.2 low

    -- no fault of the disk is shown
    pub shown_part_other : (cause : Refused) → refuses_part store table partition drawn now ≡ Some cause → cause ≡ refused.Disk → ⊥
    shown_part_other cause is same = elim (three_some (nat_le 3000 (length (kept_in partition (parts_of store.set table)))) (nat_le 4294967295 drawn) (nat_lt store.opened now)
        (refused.Limit limit.Parts) (refused.Limit limit.Numbers) Stopped cause is) [
          | inl first ↦ cc
          | inr others ↦ elim others [ inl second ↦ cc | inr third ↦ cc ]
        ]

    -- what is shown is no cause of the outside
    pub shown_part_inside : IsInside (refuses_part store table partition drawn now)
    shown_part_inside s is outside = elim (three_some (nat_le 3000 (length (kept_in partition (parts_of store.set table)))) (nat_le 4294967295 drawn) (nat_lt store.opened now)
        (refused.Limit limit.Parts) (refused.Limit limit.Numbers) Stopped s is) [
          | inl first ↦ subst (λ (r : Refused). IsOutside (Some r)) (sym first) outside
          | inr others ↦ elim others [ inl second ↦ subst (λ (r : Refused). IsOutside (Some r)) (sym second) outside | inr third ↦ subst (λ (r : Refused). IsOutside (Some r)) (sym third) outside ]
        ]

-- the store with other tables, which are the same
pub same_tables : {F : Type 0} (old new : CoreStore F) → new.tables.entries ≡ old.tables.entries → new.set ≡ old.set → new.mutations ≡ old.mutations → new.length ≡ old.length → new.opened ≡ old.opened → SameStore old new
same_tables old new tables set mutations len opened = record { tables = tables; parts = λ t. ap (λ x. parts_of x t) set; mutations_are = mutations; length_is = len; opened_is = opened }
