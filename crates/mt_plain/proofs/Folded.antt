-- What FINAL may leave after some merges.
use Rattle.std.proofs.Common.{◌≡◌, ◌⊎◌, ℕ, ◌+◌, ◌<◌, ◌≤◌, Bool, true, false, nat_lt, List, [], ◌∷◌, Option, get_or, length, take, refl, sym, subst, ◌∙◌, inl, inr, arith}
use Rattle.std.specs.List.{Contains}
use Rattle.std.proofs.lemmas.Bool.Decides.{nat_tests}
use Rattle.mt_values.specs.declared.engine.Aggregate.{Aggregate}
use Rattle.mt_values.specs.declared.engine.Engine.{Engine}
use Rattle.mt_values.specs.Values.{Row}
use Rattle.part_history.specs.mt_model.Folding.{ComesFrom, Leaves}
use Rattle.part_history.specs.mt_model.Rules.{Folds, FoldsAs, Run, is_settled}
use Rattle.mt_plain.specs.Outcomes.{AreExactly, FoldsAsWithin, LeavesAfter}
use Rattle.mt_plain.proofs.Exactly.{exactly_itself}
use Rattle.mt_plain.proofs.Merging.{OneMakes, more_cases}

module _ (run : List Row → List Row → Type 0) (rows out : List Row) where
  pub within_folds : (most : ℕ) (settled : Bool) → FoldsAsWithin most settled run rows out → FoldsAs settled run rows out
  within_folds most true h = h
  within_folds most false h = let after = h.2 in record { merged = after.0; comes = (h.0, after.1); leaves = after.2 }

  -- one list more that leaves it not
  pub never_more : (lists : List (List Row)) (i : ℕ) (d list : List Row) → i < length lists → list ≡ get_or lists i d → (Leaves run list out → ⊥) → ((m : List Row) → Contains (take i lists) m → Leaves run m out → ⊥)
      → (m : List Row) → Contains (take (i + 1) lists) m → Leaves run m out → ⊥
  never_more lists i d list below is none before m h = by (more_cases lists i d m below h)
    where
      by : Contains (take i lists) m ⊎ (get_or lists i d ≡ m) → Leaves run m out → ⊥
      by (inl k) leaves = before m k leaves
      by (inr e) leaves = none (subst (λ rs. Leaves run rs out) (sym (is ∙ e)) leaves)

  -- one number of merges more that leaves it not
  pub never_after : (n : ℕ) → (LeavesAfter n run rows out → ⊥) → ((t : ℕ) → t < n → LeavesAfter t run rows out → ⊥) → (t : ℕ) → t < n + 1 → LeavesAfter t run rows out → ⊥
  never_after n none before t below h = by (nat_lt t n) refl
    where
      by : (b : Bool) → nat_lt t n ≡ b → ⊥
      by true e = let less : t < n = grind (arith, nat_tests) in before t less h
      by false e = let least : n ≤ t = grind (arith, nat_tests) in let same : t ≡ n = omega arith in none (subst (λ k. LeavesAfter k run rows out) same h)

  pub never_within : (most n : ℕ) → most < n → ((t : ℕ) → t < n → LeavesAfter t run rows out → ⊥) → FoldsAsWithin most false run rows out → ⊥
  never_within most n all none h = let few : h.0 ≤ most = h.1 in none h.0 (omega arith) h.2

-- ---- all that FINAL may leave

module _ (engine : Engine) (functions : List (Option Aggregate)) (rows : List Row) where
  -- what one fold may leave, where merges leave it as it is
  pub settled_folds : (outs : List (List Row)) → is_settled engine rows ≡ true → AreExactly outs (Run engine functions rows) → AreExactly outs (Folds engine functions rows)
  settled_folds outs settled are = subst (λ b. AreExactly outs (FoldsAs b (Run engine functions) rows)) (sym settled) are

  -- what a fold may leave of one of the lists to which merges come
  pub later_folds : (lists outs : List (List Row)) → is_settled engine rows ≡ false → AreExactly lists (ComesFrom (Run engine functions) rows) → AreExactly outs (OneMakes (Leaves (Run engine functions)) lists)
      → AreExactly outs (Folds engine functions rows)
  later_folds lists outs unsettled come are = subst (λ b. AreExactly outs (FoldsAs b (Run engine functions) rows)) (sym unsettled) each
    where
      each : AreExactly outs (FoldsAs false (Run engine functions) rows)
      each out = (
        λ h.
            let one = (are out).0 h in
            record { merged = one.0; comes = (come one.0).0 one.1; leaves = one.2 },
        λ later. (are out).1 (later.merged, (come later.merged).1 later.comes, later.leaves),
      )

  -- of no rows a fold leaves none
  pub none_left : (outs : List (List Row)) (none : List Row) → length rows ≡ 0 → none ≡ [] → outs ≡ none ∷ [] → AreExactly outs (Leaves (Run engine functions) rows)
  none_left outs none size none_is is = by rows size
    where
      by : (rs : List Row) → length rs ≡ 0 → AreExactly outs (Leaves (Run engine functions) rs)
      by [] e = subst (λ (n : List Row). AreExactly outs (λ out. out ≡ n)) none_is (exactly_itself outs none is)
      by (r ∷ rs) e = absurd (omega (arith, e))

  -- and of some what it may
  pub some_left : (outs : List (List Row)) → (length rows ≡ 0 → ⊥) → AreExactly outs (Run engine functions rows) → AreExactly outs (Leaves (Run engine functions) rows)
  some_left outs some are = by rows some are
    where
      by : (rs : List Row) → (length rs ≡ 0 → ⊥) → AreExactly outs (Run engine functions rs) → AreExactly outs (Leaves (Run engine functions) rs)
      by [] s r = absurd (s refl)
      by (x ∷ rs) s r = r
