-- What is known of each column where one alone is known.
use Rattle.std.proofs.Common.{◌≡◌, ◌≢◌, ℕ, zero, suc, slice_get, Option, Some, ap, refl, subst}
use Rattle.mt_values.specs.declared.expr.Test.{Test}
use Rattle.mt_values.specs.declared.value.Value.{Value}
use Rattle.mt_values.specs.Values.{Row}
use Rattle.predicate.specs.Boxes.{IsKnown, LiesIn, can_some, either, only_column}
use Rattle.predicate.specs.declared.extent.Known.{Known}
use Rattle.predicate.specs.declared.extent.Known.TheVariants as known

-- of that column it is what is known
pub known_there : (column : ℕ) (k : Known) → slice_get (only_column column k).columns column ≡ Some k
known_there zero k = refl
known_there (suc column) k = known_there column k

-- of the others nothing is, so a test of them may be both
pub none_beside : (t : Test) (column : ℕ) (k : Known) (place : ℕ) → place ≢ column → can_some t (slice_get (only_column column k).columns place) ≡ either
none_beside t zero k zero apart = absurd (apart refl)
none_beside t zero k (suc place) apart = refl
none_beside t (suc column) k zero apart = refl
none_beside t (suc column) k (suc place) apart = none_beside t column k place (λ e. apart (ap suc e))

-- values of which that one is known lie in the box
lies : (column : ℕ) (k : Known) (look : ℕ → Option Value) → ((v : Value) → look column ≡ Some v → IsKnown k v) → (i : ℕ) (x : Known) (v : Value) → slice_get (only_column column k).columns i ≡ Some x → look i ≡ Some v → IsKnown x v
lies zero k look h zero x v e is =
    let same : k ≡ x = cc in
    subst (λ y. IsKnown y v) same (h v is)
lies zero k look h (suc i) x v e is = cc
lies (suc column) k look h zero x v e is =
    let same : known.Unknown ≡ x = cc in
    subst (λ y. IsKnown y v) same tt
lies (suc column) k look h (suc i) x v e is = lies column k (λ j. look (suc j)) h i x v e is

pub lies_beside : (column : ℕ) (k : Known) (row : Row) → ((v : Value) → slice_get row column ≡ Some v → IsKnown k v) → LiesIn (only_column column k) row
lies_beside column k row h = lies column k (slice_get row) h
