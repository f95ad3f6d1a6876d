-- What changes of a list where one item is set, and of a row where a column gets a value.
use Rattle.std.proofs.Common.{◌≡◌, ℕ, zero, suc, ◌<◌, List, [], ◌∷◌, length, Option, None, Some, slice_get, set, refl, ap, arith}
use Rattle.std.proofs.Math.ListN.{length-set}
use Rattle.mt_values.specs.declared.value.Value.{Value}
use Rattle.mt_values.specs.Changes.{with_value}
use Rattle.mt_values.specs.Values.{Row}

module _ {X : Type 0} where
  -- the item that is set is there
  pub set_there : (xs : List X) (i : ℕ) (x : X) → i < length xs → slice_get (set xs i x) i ≡ Some x
  set_there [] i x below = absurd (omega (arith, below))
  set_there (y ∷ xs) zero x below = refl
  set_there (y ∷ xs) (suc i) x below = set_there xs i x (omega (arith, below))

  -- the others are as they were
  pub set_apart : (xs : List X) (i j : ℕ) (x : X) → (i ≡ j → ⊥) → slice_get (set xs i x) j ≡ slice_get xs j
  set_apart [] i j x apart = refl
  set_apart (y ∷ xs) zero zero x apart = absurd (apart refl)
  set_apart (y ∷ xs) zero (suc j) x apart = refl
  set_apart (y ∷ xs) (suc i) zero x apart = refl
  set_apart (y ∷ xs) (suc i) (suc j) x apart = set_apart xs i j x (λ e. apart (ap suc e))

pub put_apart : (row : Row) (i j : ℕ) (o : Option Value) → (i ≡ j → ⊥) → slice_get (with_value row i o) j ≡ slice_get row j
put_apart row i j None apart = refl
put_apart row i j (Some v) apart = set_apart row i j v apart

pub put_length : (row : Row) (i : ℕ) (o : Option Value) → length (with_value row i o) ≡ length row
put_length row i None = refl
put_length row i (Some v) = length-set row i v
