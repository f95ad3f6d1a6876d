-- Merges at any times, and what the fold of the rest leaves.
use Rattle.std.proofs.Common.{◌≡◌, ℕ, zero, suc, ◌<◌, List, [], ◌∷◌, length, sym, ◌∙◌, subst, arith}
use Rattle.mt_values.specs.Values.{Row}
use Rattle.mt_model.specs.Folding.{Merges, MergesTimes, ComesFrom, Leaves}

-- what at least one row leaves is what its run leaves
pub leaves_run : (run : List Row → List Row → Type 0) (rows out : List Row) → 0 < length rows → Leaves run rows out → run rows out
leaves_run run [] out some h = absurd (omega arith)
leaves_run run (row ∷ rows) out some h = h

-- a rule by a function that leaves nothing of nothing says the same of no rows
pub function_leaves : (f : List Row → List Row) (run : List Row → List Row → Type 0) → f [] ≡ []
    → ((row : Row) (rows out : List Row) → run (row ∷ rows) out → out ≡ f (row ∷ rows))
    → (rows out : List Row) → Leaves run rows out → out ≡ f rows
function_leaves f run none is [] out h = h ∙ sym none
function_leaves f run none is (row ∷ rows) out h = is row rows out h

pub leaves_function : (f : List Row → List Row) (run : List Row → List Row → Type 0) → f [] ≡ []
    → ((row : Row) (rows out : List Row) → out ≡ f (row ∷ rows) → run (row ∷ rows) out)
    → (rows out : List Row) → out ≡ f rows → Leaves run rows out
leaves_function f run none is [] out h = h ∙ none
leaves_function f run none is (row ∷ rows) out h = is row rows out h

module _ (run : List Row → List Row → Type 0) (Fits : List Row → Type 0)
    (keeps : (before after : List Row) → Fits before → Merges run before after → Fits after)
    (absorbs : (before after out : List Row) → Fits before → Merges run before after → Leaves run after out → Leaves run before out) where
  -- where one merge more changes nothing of what may be left, any number of them changes nothing
  pub merges_change_nothing : (n : ℕ) (rows x out : List Row) → Fits rows → MergesTimes n run rows x → Leaves run x out → Leaves run rows out
  merges_change_nothing zero rows x out fits same leaves = subst (λ r. Leaves run r out) (sym same) leaves
  merges_change_nothing (suc n) rows x out fits more leaves =
      absorbs rows more.0 out fits more.1 (merges_change_nothing n more.0 x out (keeps rows more.0 fits more.1) more.2 leaves)

  pub law_of_merges : (rows x out : List Row) → 0 < length rows → Fits rows → ComesFrom run rows x → Leaves run x out → run rows out
  law_of_merges rows x out some fits comes leaves = leaves_run run rows out some (merges_change_nothing comes.0 rows x out fits comes.1 leaves)
