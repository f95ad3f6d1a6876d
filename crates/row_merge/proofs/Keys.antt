-- The order by some columns, one column after another.
use Rattle.std.proofs.Common.{◌≡◌, ℕ, ◌+◌, ◌<◌, true, false, List, ◌∷◌, length, drop, get_or, drop-cons, add-one, refl, sym, ap, ◌∙◌, Some, slice_get}
use Rattle.std.specs.List.{cons_option}
use Rattle.std.specs.Ordering.{is_ne, ordering_then}
use Rattle.std.specs.Cmp.{IsTotalOrder}
use Rattle.std.specs.Cmp.Lexicographic.{slice_cmp}
use Rattle.std.specs.FinMap.{slice_cmp-IsAntisymmetric}
use Rattle.std.specs.declared.cmp.Ordering.{Ordering}
use Rattle.std.specs.declared.cmp.Ordering.TheVariants.{Less, Equal, Greater}
use Rattle.std.proofs.lemmas.Cmp.{on_total, lists_total}
use Rattle.mt_values.specs.declared.value.Value.{Value}
use Rattle.mt_values.specs.Order.{key_cmp, key_of, value_cmp}
use Rattle.mt_values.specs.Values.{Row}
use Rattle.mt_values.proofs.Orders.{value_exact, value_total}

pub key_total : (places : List ℕ) → IsTotalOrder (key_cmp places)
key_total places = on_total (key_of places) (lists_total value_total)

-- rows that are alike in the order have one key
pub key_exact : (places : List ℕ) (a b : Row) → key_cmp places a b ≡ Equal → key_of places a ≡ key_of places b
key_exact places a b e = slice_cmp-IsAntisymmetric value_exact (key_of places a) (key_of places b) e

-- the column at i decides, or else those after it
first_decides : (places : List ℕ) (i : ℕ) (a b : Row) (x y : Value) → i < length places → slice_get a (get_or places i 0) ≡ Some x → slice_get b (get_or places i 0) ≡ Some y
    → key_cmp (drop i places) a b ≡ ordering_then (value_cmp x y) (key_cmp (drop (i + 1) places) a b)
first_decides places i a b x y below has_x has_y =
    let next : drop i places ≡ get_or places i 0 ∷ drop (i + 1) places = drop-cons places i 0 below ∙ ap (λ n. get_or places i 0 ∷ drop n places) (sym (add-one i)) in
    let rest_a = key_of (drop (i + 1) places) a in
    let rest_b = key_of (drop (i + 1) places) b in
    ap (λ ps. key_cmp ps a b) next ∙ ap (λ v. slice_cmp value_cmp (cons_option v rest_a) (cons_option (slice_get b (get_or places i 0)) rest_b)) has_x
    ∙ ap (λ v. slice_cmp value_cmp (x ∷ rest_a) (cons_option v rest_b)) has_y

then_other : (r s : Ordering) → is_ne r ≡ true → ordering_then r s ≡ r
then_other Less s h = refl
then_other Equal s h = cc
then_other Greater s h = refl

then_same : (r s : Ordering) → is_ne r ≡ false → ordering_then r s ≡ s
then_same Less s h = cc
then_same Equal s h = refl
then_same Greater s h = cc

pub differ_here : (places : List ℕ) (i : ℕ) (a b : Row) (x y : Value) (found : Ordering) → i < length places → slice_get a (get_or places i 0) ≡ Some x → slice_get b (get_or places i 0) ≡ Some y
    → found ≡ value_cmp x y → is_ne found ≡ true → found ≡ key_cmp (drop i places) a b
differ_here places i a b x y found below has_x has_y is other =
    let rest = key_cmp (drop (i + 1) places) a b in
    sym (first_decides places i a b x y below has_x has_y ∙ ap (λ r. ordering_then r rest) (sym is) ∙ then_other found rest other)

pub alike_here : (places : List ℕ) (i : ℕ) (a b : Row) (x y : Value) (found : Ordering) → i < length places → slice_get a (get_or places i 0) ≡ Some x → slice_get b (get_or places i 0) ≡ Some y
    → found ≡ value_cmp x y → is_ne found ≡ false → key_cmp (drop (i + 1) places) a b ≡ key_cmp (drop i places) a b
alike_here places i a b x y found below has_x has_y is same =
    let rest = key_cmp (drop (i + 1) places) a b in
    sym (first_decides places i a b x y below has_x has_y ∙ ap (λ r. ordering_then r rest) (sym is) ∙ then_same found rest same)
