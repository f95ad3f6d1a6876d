-- Literals of IN in a range: they are sought, and not gone over.
use Rattle.std.proofs.Common.{◌≡◌, Bool, true, false, not, ◌&&◌, ◌||◌, List, [], ◌∷◌, refl, sym, ap, ap₂, ◌∙◌}
use Rattle.std.specs.List.{list_all}
use Rattle.std.specs.Ordering.{is_eq}
use Rattle.std.specs.declared.cmp.Ordering.{Ordering}
use Rattle.std.specs.declared.cmp.Ordering.TheVariants.{Less, Equal, Greater}
use Rattle.mt_values.specs.declared.expr.Comparison.TheVariants as comparison
use Rattle.mt_values.specs.declared.value.Value.{Value}
use Rattle.mt_values.specs.Order.{value_cmp}
use Rattle.mt_values.specs.Tests.{is_among, says}
use Rattle.mt_values.proofs.Orders.{value_exact}
use Rattle.predicate.specs.Boxes.{no_within}

equal_is : (o : Ordering) → is_eq o ≡ true → o ≡ Equal
equal_is Less h = cc
equal_is Equal h = refl
equal_is Greater h = cc

-- two that stand alike to a value stand alike to each other
tied : (lo hi v : Value) → value_cmp lo v ≡ Equal → value_cmp hi v ≡ Equal → value_cmp lo hi ≡ Equal
tied lo hi v e f = ap (value_cmp lo) (value_exact hi v f) ∙ e

apart_one : (lo hi v : Value) (o q : Ordering) → is_eq (value_cmp lo hi) ≡ false → value_cmp lo v ≡ o → value_cmp hi v ≡ q → not (is_eq o && is_eq q) ≡ true
apart_one lo hi v Less q apart e f = refl
apart_one lo hi v Equal Less apart e f = refl
apart_one lo hi v Equal Equal apart e f = sym apart ∙ ap is_eq (tied lo hi v e f)
apart_one lo hi v Equal Greater apart e f = refl
apart_one lo hi v Greater q apart e f = refl

-- no literal is both of two values that differ
pub apart : (lo hi : Value) → is_eq (value_cmp lo hi) ≡ false → (literals : List Value) → true ≡ list_all (no_within comparison.Equal lo hi) literals
apart lo hi differ [] = refl
apart lo hi differ (v ∷ vs) =
    sym (ap₂ (λ a b. a && b) (apart_one lo hi v (value_cmp lo v) (value_cmp hi v) differ refl refl) (sym (apart lo hi differ vs)))

twice : (o : Ordering) → not (is_eq o && is_eq o) ≡ not (says comparison.Equal o)
twice Less = refl
twice Equal = refl
twice Greater = refl

neither : (a b : Bool) → not (a || b) ≡ (not a && not b)
neither true b = refl
neither false b = refl

alike_one : (lo hi v : Value) → value_cmp lo hi ≡ Equal → not (says comparison.Equal (value_cmp lo v)) ≡ no_within comparison.Equal lo hi v
alike_one lo hi v same =
    sym (ap (λ (h : Value). not (is_eq (value_cmp lo v) && is_eq (value_cmp h v))) (sym (value_exact lo hi same)) ∙ twice (value_cmp lo v))

-- a literal is both of two values that are one where it is that value
pub together : (lo hi : Value) → is_eq (value_cmp lo hi) ≡ true → (literals : List Value) → not (is_among literals lo) ≡ list_all (no_within comparison.Equal lo hi) literals
together lo hi same [] = refl
together lo hi same (v ∷ vs) =
    neither (says comparison.Equal (value_cmp lo v)) (is_among vs lo)
    ∙ ap₂ (λ a b. a && b) (alike_one lo hi v (equal_is (value_cmp lo hi) same)) (together lo hi same vs)
