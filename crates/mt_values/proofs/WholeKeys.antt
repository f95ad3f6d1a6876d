-- The order of rows by some places and then by others.
use Rattle.std.proofs.Common.{◌≡◌, ℕ, ◌<◌, true, false, List, [], ◌∷◌, ◌++◌, Some, length, slice_get, get_or, refl, sym, ap, ◌∙◌}
use Rattle.std.specs.Ordering.{is_ne, ordering_then}
use Rattle.std.specs.declared.cmp.Ordering.{Ordering}
use Rattle.std.specs.declared.cmp.Ordering.TheVariants.{Equal, Greater, Less}
use Rattle.std.proofs.lemmas.List.Elements.{All-head, All-tail}
use Rattle.std.proofs.lemmas.Option.{slice_get-get_or}
use Rattle.mt_values.specs.declared.value.Value.{Value}
use Rattle.mt_values.specs.declared.value.Value.TheVariants as value
use Rattle.mt_values.specs.Order.{HasPlaces, key_cmp, value_cmp}
use Rattle.mt_values.specs.Values.{Row}
use Rattle.mt_values.proofs.OrderBy.{key_cmp-cons}

then_twice : (p q r : Ordering) → ordering_then p (ordering_then q r) ≡ ordering_then (ordering_then p q) r
then_twice Less q r = refl
then_twice Equal q r = refl
then_twice Greater q r = refl

decided : (o rest : Ordering) → is_ne o ≡ true → ordering_then o rest ≡ o
decided Less rest h = refl
decided Equal rest h = cc
decided Greater rest h = refl

equal : (o : Ordering) → is_ne o ≡ false → o ≡ Equal
equal Less h = cc
equal Equal h = refl
equal Greater h = cc

-- some places decide, and where they do not the others
cmp_after : (xs ys : List ℕ) (a b : Row) → HasPlaces (xs ++ ys) a → HasPlaces (xs ++ ys) b → key_cmp (xs ++ ys) a b ≡ ordering_then (key_cmp xs a b) (key_cmp ys a b)
cmp_after [] ys a b h k = refl
cmp_after (c ∷ xs) ys a b h k =
    let x = get_or a c (value.UInt8 0) in
    let y = get_or b c (value.UInt8 0) in
    let e : slice_get a c ≡ Some x = slice_get-get_or a c (value.UInt8 0) (All-head (λ place. place < length a) c (xs ++ ys) h) in
    let f : slice_get b c ≡ Some y = slice_get-get_or b c (value.UInt8 0) (All-head (λ place. place < length b) c (xs ++ ys) k) in
    key_cmp-cons c (xs ++ ys) a b x y e f
    ∙ ap (ordering_then (value_cmp x y)) (cmp_after xs ys a b (All-tail (λ place. place < length a) c (xs ++ ys) h) (All-tail (λ place. place < length b) c (xs ++ ys) k))
    ∙ then_twice (value_cmp x y) (key_cmp xs a b) (key_cmp ys a b)
    ∙ ap (λ o. ordering_then o (key_cmp ys a b)) (sym (key_cmp-cons c xs a b x y e f))

pub first_decides : (key added : List ℕ) (a b : Row) (found : Ordering) → HasPlaces (key ++ added) a → HasPlaces (key ++ added) b → found ≡ key_cmp key a b → is_ne found ≡ true → found ≡ key_cmp (key ++ added) a b
first_decides key added a b found h k is ne = sym (cmp_after key added a b h k ∙ ap (λ o. ordering_then o (key_cmp added a b)) (sym is) ∙ decided found (key_cmp added a b) ne)

second_decides : (key added : List ℕ) (a b : Row) (found : Ordering) → HasPlaces (key ++ added) a → HasPlaces (key ++ added) b → found ≡ key_cmp key a b → is_ne found ≡ false → key_cmp added a b ≡ key_cmp (key ++ added) a b
second_decides key added a b found h k is ne = sym (cmp_after key added a b h k ∙ ap (λ o. ordering_then o (key_cmp added a b)) (sym is ∙ equal found ne))

pub version_decides : (key added : List ℕ) (version : ℕ) (a b : Row) (found : Ordering) (x y : Value) → HasPlaces (key ++ added) a → HasPlaces (key ++ added) b → found ≡ key_cmp key a b → is_ne found ≡ false
    → version ∷ [] ≡ added → slice_get a version ≡ Some x → slice_get b version ≡ Some y → value_cmp x y ≡ key_cmp (key ++ added) a b
version_decides key added version a b found x y h k is ne same e f =
    sym (key_cmp-cons version [] a b x y e f ∙ then_nothing (value_cmp x y)) ∙ ap (λ places. key_cmp places a b) same ∙ second_decides key added a b found h k is ne
  where
    then_nothing : (o : Ordering) → ordering_then o Equal ≡ o
    then_nothing Less = refl
    then_nothing Equal = refl
    then_nothing Greater = refl

pub nothing_decides : (key added : List ℕ) (a b : Row) (found : Ordering) → HasPlaces (key ++ added) a → HasPlaces (key ++ added) b → found ≡ key_cmp key a b → is_ne found ≡ false → [] ≡ added → Equal ≡ key_cmp (key ++ added) a b
nothing_decides key added a b found h k is ne none = ap (λ places. key_cmp places a b) none ∙ second_decides key added a b found h k is ne
