-- Whether a value is the wanted one.
use Rattle.std.proofs.Common.{◌≡◌, ◌↔◌, ℕ, Bool, IsTrue, is_eq, Option, Some, refl, sym, ap, ◌∙◌, subst, List, ◌++◌, drop, slice_get}
use Rattle.std.specs.Ordering.{ordering_reverse}
use Rattle.std.specs.declared.cmp.Ordering.{Ordering}
use Rattle.std.specs.declared.cmp.Ordering.TheVariants.{Less, Equal, Greater}
use Rattle.column_file.specs.byte_numbers.Fronts.{Begins}
use Rattle.mt_values.specs.declared.value.ColType.{ColType}
use Rattle.mt_values.specs.declared.value.Value.{Value}
use Rattle.mt_values.specs.ColumnBytes.{value_bytes}
use Rattle.mt_values.specs.Grid.{Cells}
use Rattle.mt_values.specs.Order.{value_cmp}
use Rattle.mt_values.proofs.Orders.{value_exact, value_total}
use Rattle.column_file.specs.Spellings.{IsOfType}
use Rattle.column_file.proofs.OneWay.{value_apart}
use Rattle.primary_marks.specs.Columns.{IsWantedIn}

only_equal : (o : Ordering) → IsTrue (is_eq o) → o ≡ Equal
only_equal Less h = cc
only_equal Equal h = refl
only_equal Greater h = cc

reversed_equal : (o : Ordering) → o ≡ ordering_reverse o → o ≡ Equal
reversed_equal Less h = cc
reversed_equal Equal h = refl
reversed_equal Greater h = cc

-- a value is the wanted one where the order finds them alike
pub wanted_is : (column : Cells) (wanted : Option ℕ) (place : ℕ) (a b : Value) (o : Ordering) (r : Bool) → wanted ≡ Some place → slice_get column.values place ≡ Some b → o ≡ value_cmp a b → r ≡ is_eq o → IsTrue r ↔ IsWantedIn column wanted a
wanted_is column wanted place a b o r is there compared told =
    rw (told, is) (
      λ h. there ∙ ap Some (sym (value_exact a b (sym compared ∙ only_equal o h))),
      λ h. let same : a ≡ b = let e = sym h ∙ there in cc in
          rw (compared ∙ ap (λ v. value_cmp a v) (sym same) ∙ reversed_equal (value_cmp a a) (value_total.antisymm a a)) refl,
    )

-- where the value that is there is not the wanted one, no wanted value is there
pub other_value : (column : Cells) (wanted : Option ℕ) (t : ColType) (bytes : List ℕ) (here : Value) (size : ℕ) → t ≡ column.col_type → IsOfType t here → Begins (value_bytes here) size bytes → (IsWantedIn column wanted here → ⊥)
    → (v : Value) (left : List ℕ) → IsOfType column.col_type v → IsWantedIn column wanted v → bytes ≡ value_bytes v ++ left → ⊥
other_value column wanted t bytes here size is typed begins none v left of same e =
    let one = value_apart t v here left (drop size bytes) (subst (λ u. IsOfType u v) (sym is) of) typed (sym e ∙ begins.parted) in
    none (subst (IsWantedIn column wanted) one.0 same)
