-- What is kept for each table after one table's was changed.
use Rattle.std.proofs.Common.{◌≡◌, ◌≢◌, ℕ, Bool, true, false, List, Option, Some, Result, Ok, Err, refl, sym, subst, inl, inr, ◌⊎◌}
use Rattle.std.specs.BTreeMap.{BTreeMap, UpdatesBy, is_at}
use Rattle.std.specs.Cmp.{Equal-is}
use Rattle.std.specs.Cmp.Lexicographic.{slice_cmp}
use Rattle.std.specs.Ordering.{nat_cmp}
use Rattle.std.specs.Result.{OnErr, OnOk}
use Rattle.std.proofs.lemmas.Bool.{false_from_ne_true}
use Rattle.std.proofs.lemmas.Map.Lookups.{exact_bytes}
use Rattle.mt_base.specs.declared.memory.NoMemory.{NoMemory}
use Rattle.mutation_queue.specs.Listed.{Listed}
use Rattle.mutation_queue.specs.Queue.{IsPut, listed_of}

true_or_false : (b : Bool) → (b ≡ true) ⊎ (b ≡ false)
true_or_false true = inl refl
true_or_false false = inr refl

-- the key that a query finds is the name that is asked for
found_is : (table t : List ℕ) → is_at (slice_cmp nat_cmp table) t ≡ true → table ≡ t
found_is table t is = exact_bytes table t ((Equal-is (slice_cmp nat_cmp table t)).0 is)

module _ (old new : BTreeMap (List ℕ) Listed) (table : List ℕ) (w : Option Listed) (updates : UpdatesBy (slice_cmp nat_cmp) (slice_cmp nat_cmp table) old new w) where
  -- another table keeps its own
  pub other_listed : (t : List ℕ) → t ≢ table → listed_of new t ≡ listed_of old t
  other_listed t apart = updates.2 t (false_from_ne_true (is_at (slice_cmp nat_cmp table) t) (λ is. apart (sym (found_is table t is))))

  -- what passes from the old to the new of the changed table passes from old to new of each
  pub all_listed : (Q : Option Listed → Option Listed → Type 0) → ((o : Option Listed) → Q o o) → Q (listed_of old table) w → (t : List ℕ) → Q (listed_of old t) (listed_of new t)
  all_listed Q stays here t = elim (true_or_false (is_at (slice_cmp nat_cmp table) t)) [
    | inl is ↦ subst (λ (u : List ℕ). Q (listed_of old u) (listed_of new u)) (found_is table t is) (subst (Q (listed_of old table)) (sym updates.1) here)
    | inr other ↦ subst (Q (listed_of old t)) (sym (updates.2 t other)) (stays (listed_of old t))
  ]

module _ (base old new : BTreeMap (List ℕ) Listed) (table key : List ℕ) (w : Option Listed) where
  -- a change that is told of an equal map and an equal name
  pub told_here : old ≡ base → key ≡ table → UpdatesBy (slice_cmp nat_cmp) (slice_cmp nat_cmp key) old new w → UpdatesBy (slice_cmp nat_cmp) (slice_cmp nat_cmp table) base new w
  told_here maps names updates =
      subst (λ (k : List ℕ). UpdatesBy (slice_cmp nat_cmp) (slice_cmp nat_cmp k) base new w) names
      (subst (λ (m : BTreeMap (List ℕ) Listed). UpdatesBy (slice_cmp nat_cmp) (slice_cmp nat_cmp key) m new w) maps updates)

-- ---- after some were put, or were not

module _ (old new : BTreeMap (List ℕ) Listed) (table : List ℕ) (listed : Listed) where
  pub put_other : (r : Result (Unit {0}) NoMemory) → OnOk r (IsPut old new table listed) → OnErr r ((t : List ℕ) → listed_of new t ≡ listed_of old t) → (t : List ℕ) → t ≢ table → listed_of new t ≡ listed_of old t
  put_other (Ok u) ok err t apart = other_listed old new table (Some listed) ok t apart
  put_other (Err e) ok err t apart = err t

  pub put_all : (Q : Option Listed → Option Listed → Type 0) → ((o : Option Listed) → Q o o) → (r : Result (Unit {0}) NoMemory) → OnOk r (IsPut old new table listed) → OnErr r ((t : List ℕ) → listed_of new t ≡ listed_of old t)
      → Q (listed_of old table) (Some listed) → (t : List ℕ) → Q (listed_of old t) (listed_of new t)
  put_all Q stays (Ok u) ok err here t = all_listed old new table (Some listed) ok Q stays here t
  put_all Q stays (Err e) ok err here t = subst (Q (listed_of old t)) (sym (err t)) (stays (listed_of old t))
