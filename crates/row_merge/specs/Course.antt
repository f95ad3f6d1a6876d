-- The rows of one key that were handed to a rule (docs/engines.md, "Merges").
use Rattle.std.specs.Prelude.{◌≡◌, ◌⊎◌, ℕ, false, true, List, [], ◌∷◌, ◌++◌, take, All, Option, Some, None}
use Rattle.std.specs.Ordering.{is_ne}
use Rattle.mt_values.specs.Order.{key_cmp}
use Rattle.mt_values.specs.Values.{Row}
use Rattle.row_merge.specs.Merging.{Merging}
use Rattle.row_merge.specs.declared.course.Current.{Current}

-- of these rows the rule has a state; the first of them is kept
pub record HoldsRows {S : Type 0} (holds : S → List Row → Type 0) (c : Current S) (pending : List Row) : Type 0 where
  pub others : List Row
  pub pending_is : pending ≡ c.first ∷ others
  pub held : holds c.state pending

-- the same, or there are none
abbrev pub HoldsKey : {S : Type 0} → (S → List Row → Type 0) → Option (Current S) → List Row → Type 0
HoldsKey holds None pending = pending ≡ []
HoldsKey holds (Some c) pending = HoldsRows holds c pending

-- a row of the same key is handed to the rule, or the first row of all
pub record GoesOn {S : Type 0} (places : List ℕ) (holds : S → List Row → Type 0) (pending : List Row) (row : Row) (kept : List Row) (new : Current S) : Type 0 where
  pub same : All (λ first. is_ne (key_cmp places first row) ≡ false) (take 1 pending)
  pub kept_is : kept ≡ []
  pub holds_more : HoldsRows holds new (pending ++ row ∷ [])

-- a row of another key: what a fold may leave of the rows before it is handed back
pub record EndsKey {S : Type 0} (places : List ℕ) (run : List Row → List Row → Type 0) (holds : S → List Row → Type 0) (pending : List Row) (row : Row) (kept : List Row) (new : Current S) : Type 0 where
  pub first : Row
  pub others : List Row
  pub pending_is : pending ≡ first ∷ others
  pub other : is_ne (key_cmp places first row) ≡ true
  pub ran : run pending kept
  pub holds_one : HoldsRows holds new (row ∷ [])

abbrev pub TakesIn : {S : Type 0} → List ℕ → (List Row → List Row → Type 0) → (S → List Row → Type 0) → List Row → Row → List Row → Current S → Type 0
TakesIn places run holds pending row kept new = GoesOn places holds pending row kept new ⊎ EndsKey places run holds pending row kept new

-- what is out once the row was taken: the rule has a state of the rows of its key, which are those before it, and the row, or the row alone
pub record IsOn {S : Type 0} (places : List ℕ) (run : List Row → List Row → Type 0) (holds : S → List Row → Type 0) (inputs : List (List Row)) (before : List Row) (row : Row) (out : List Row) (new : Current S) (left : List (List Row)) : Type 0 where
  pub pending : List Row
  pub are : (pending ≡ before ++ row ∷ []) ⊎ (pending ≡ row ∷ [])
  pub held : HoldsRows holds new pending
  pub merging : Merging places run inputs out pending left
