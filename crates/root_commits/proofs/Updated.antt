-- The tables of a store after one was written.
use Rattle.std.proofs.Common.{◌≡◌, ℕ, List, Option, Some, None, true, false, sym, ap, ◌∙◌, inl, inr, ◌⊎◌}
use Rattle.std.specs.BTreeMap.{Updates, is_at}
use Rattle.std.specs.Cmp.Lexicographic.{slice_cmp}
use Rattle.std.specs.Ordering.{nat_cmp}
use Rattle.mt_values.specs.Grammar.{same_bytes}
use Rattle.root_store.proofs.MtModelTables.{itself_same, same_is}
use Rattle.root_store.proofs.PartSetMaps.{found_is, true_or_false}
use Rattle.std.proofs.lemmas.Bool.{false_from_ne_true}
use Rattle.root_store.specs.declared.store.CoreStore.{CoreStore}
use Rattle.root_store.specs.declared.store.Table.{Table}
use Rattle.root_store.specs.Stores.{table_at}

pub no_some : {X : Type 0} (o : Option X) (x : X) → o ≡ None → o ≡ Some x → ⊥
no_some o x none some = let both : None ≡ Some x = sym none ∙ some in cc

pub one_some : {X : Type 0} (o : Option X) (x y : X) → o ≡ Some x → o ≡ Some y → x ≡ y
one_some o x y first second = let both : Some x ≡ Some y = sym first ∙ second in cc

module _ {F : Type 0} (old new : CoreStore F) (table : List ℕ) (w : Option Table) (updates : Updates (slice_cmp nat_cmp) old.tables new.tables table w) where
  -- a name is that of the table, or the store has there what it had
  abbrev pub IsItOr : List ℕ → Type 0
  IsItOr t = (table ≡ t) ⊎ ((same_bytes table t ≡ false) × (table_at new t ≡ table_at old t))

  pub it_or : (t : List ℕ) → IsItOr t
  it_or t = by (true_or_false (same_bytes table t))
    where
      differ : same_bytes table t ≡ false → table ≡ t → ⊥
      differ apart is = let same : same_bytes table t ≡ true = ap (same_bytes table) (sym is) ∙ itself_same table in cc

      by : (same_bytes table t ≡ true) ⊎ (same_bytes table t ≡ false) → IsItOr t
      by (inl same) = inl (same_is table t same)
      by (inr apart) = inr (apart, updates.2 t (false_from_ne_true (is_at (slice_cmp nat_cmp table) t) (λ is. differ apart (found_is table t is))))
