-- Which changes leave the columns of the key and the protected ones as they are.
use Rattle.std.proofs.Common.{◌≡◌, ℕ, Bool, false, List}
use Rattle.std.specs.List.{All, Contains}
use Rattle.mt_values.specs.declared.change.Assignment.{Assignment}
use Rattle.mt_values.specs.declared.change.Change.{Change}
use Rattle.mt_values.specs.declared.change.Change.TheVariants as change
use Rattle.mt_values.specs.declared.expr.Test.{Test}
use Rattle.mt_values.specs.Conditions.{Condition, tests_of}
use Rattle.mt_model.specs.Mutations.{reads_of}

-- an assignment assigns no column that is protected, and reads none
pub record IsFree (protected : ℕ → Bool) (a : Assignment) : Type 0 where
  pub free : protected a.column ≡ false
  pub reads : All (λ place. protected place ≡ false) (reads_of a.value)

-- a condition is of the columns at these places alone
abbrev pub IsOfPlaces : List ℕ → Condition Test → Type 0
IsOfPlaces places condition = All (λ (t : Test). Contains places t.column) (tests_of condition)

-- a change whose condition is of the columns at these places, and that assigns and reads no protected column
abbrev pub IsLet : (ℕ → Bool) → List ℕ → Change → Type 0
IsLet protected places (change.Delete condition) = IsOfPlaces places condition
IsLet protected places (change.Update assignments condition) = All (IsFree protected) assignments × IsOfPlaces places condition
