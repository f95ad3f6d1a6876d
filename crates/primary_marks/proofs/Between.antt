-- Rows that stand between two others in the order of a key: what the keys of these two say of them.
use Rattle.std.proofs.Common.{◌≡◌, ℕ, ◌<◌, ◌==◌, Bool, true, false, cond, List, [], ◌∷◌, ◌++◌, Some, refl, sym, ap, ap₂, ◌∙◌, subst, slice_get, length}
use Rattle.std.specs.List.{cons_option}
use Rattle.std.specs.Ordering.{is_eq, is_le, is_lt, ordering_reverse, ordering_then}
use Rattle.std.specs.declared.cmp.Ordering.{Ordering}
use Rattle.std.specs.declared.cmp.Ordering.TheVariants.{Less, Equal, Greater}
use Rattle.std.proofs.lemmas.Bool.{eqb-true}
use Rattle.std.proofs.lemmas.List.Elements.{All-head, All-tail}
use Rattle.std.proofs.lemmas.Option.{slice_get-get_or}
use Rattle.mt_values.specs.declared.value.Value.{Value}
use Rattle.mt_values.specs.declared.value.Value.TheVariants as value
use Rattle.mt_values.specs.Order.{HasPlaces, key_cmp, key_of, value_cmp}
use Rattle.mt_values.specs.Values.{Row}
use Rattle.mt_values.proofs.OrderBy.{key_cmp-cons}
use Rattle.mt_values.proofs.Orders.{value_exact, value_total}
use Rattle.predicate.specs.Boxes.{IsKnown}
use Rattle.predicate.specs.Granules.{key_ranges, known_among}
use Rattle.predicate.specs.declared.extent.Known.TheVariants as known

-- ---- orders

equal_is : (o : Ordering) → is_eq o ≡ true → o ≡ Equal
equal_is Less e = cc
equal_is Equal e = refl
equal_is Greater e = cc

first_le : (o rest : Ordering) → is_le (ordering_then o rest) ≡ true → is_le o ≡ true
first_le Less rest e = refl
first_le Equal rest e = refl
first_le Greater rest e = e

rest_le : (o rest : Ordering) → o ≡ Equal → is_le (ordering_then o rest) ≡ true → is_le rest ≡ true
rest_le Less rest is e = cc
rest_le Equal rest is e = e
rest_le Greater rest is e = cc

both_le : (o : Ordering) → is_le o ≡ true → is_le (ordering_reverse o) ≡ true → o ≡ Equal
both_le Less e f = cc
both_le Equal e f = refl
both_le Greater e f = cc

-- what does not stand below stands at or above
pub not_less : (o : Ordering) → is_lt o ≡ false → is_le (ordering_reverse o) ≡ true
not_less Less e = cc
not_less Equal e = refl
not_less Greater e = refl

-- what lies between two values that are one is that value
between_same : (a x b : Value) → is_eq (value_cmp a b) ≡ true → is_le (value_cmp a x) ≡ true → is_le (value_cmp x b) ≡ true → (value_cmp a x ≡ Equal) × (value_cmp x b ≡ Equal)
between_same a x b same low high =
    let one : a ≡ b = value_exact a b (equal_is (value_cmp a b) same) in
    let back : is_le (ordering_reverse (value_cmp a x)) ≡ true = ap is_le (sym (value_total.antisymm x a)) ∙ ap (λ y. is_le (value_cmp x y)) one ∙ high in
    let first : value_cmp a x ≡ Equal = both_le (value_cmp a x) low back in
    (first, value_total.antisymm x b ∙ ap (λ y. ordering_reverse (value_cmp y x)) (sym one) ∙ ap ordering_reverse first)

-- ---- keys

any_value : Value
any_value = value.UInt8 0

-- the value at the first place of a key
first_there : (p : ℕ) (ps : List ℕ) (row : Row) → HasPlaces (p ∷ ps) row → (v : Value) × (slice_get row p ≡ Some v)
first_there p ps row has = (_, slice_get-get_or row p any_value (All-head (λ place. place < length row) p ps has))

others_there : (p : ℕ) (ps : List ℕ) (row : Row) → HasPlaces (p ∷ ps) row → HasPlaces ps row
others_there p ps row has = All-tail (λ place. place < length row) p ps has

-- in the order of a longer key rows stand as they do in that of its front, where this one tells them apart
pub le_by_front : (ps rest : List ℕ) (a b : Row) → HasPlaces ps a → HasPlaces ps b → is_le (key_cmp (ps ++ rest) a b) ≡ true → is_le (key_cmp ps a b) ≡ true
le_by_front [] rest a b p q le = refl
le_by_front (c ∷ cs) rest a b p q le =
    let x = first_there c cs a p in
    let y = first_there c cs b q in
    by x.0 y.0 (value_cmp x.0 y.0) refl x.1 y.1 (le_by_front cs rest a b (others_there c cs a p) (others_there c cs b q))
  where
    by : (x y : Value) (o : Ordering) → value_cmp x y ≡ o → slice_get a c ≡ Some x → slice_get b c ≡ Some y
        → (is_le (key_cmp (cs ++ rest) a b) ≡ true → is_le (key_cmp cs a b) ≡ true) → is_le (key_cmp (c ∷ cs) a b) ≡ true
    by x y Less o f g more = ap is_le (key_cmp-cons c cs a b x y f g ∙ ap (λ r. ordering_then r (key_cmp cs a b)) o)
    by x y Equal o f g more =
        ap is_le (key_cmp-cons c cs a b x y f g ∙ ap (λ r. ordering_then r (key_cmp cs a b)) o)
        ∙ more (sym (ap is_le (key_cmp-cons c (cs ++ rest) a b x y f g ∙ ap (λ r. ordering_then r (key_cmp (cs ++ rest) a b)) o)) ∙ le)
    by x y Greater o f g more =
        let wrong = sym (ap is_le (key_cmp-cons c (cs ++ rest) a b x y f g ∙ ap (λ r. ordering_then r (key_cmp (cs ++ rest) a b)) o)) ∙ le in cc

-- of no columns nothing is known
none_known : (ps : List ℕ) (place : ℕ) → known_among ps [] place ≡ known.Unknown
none_known [] place = refl
none_known (p ∷ ps) place = refl

nothing_asked : (ps : List ℕ) (place : ℕ) (v : Value) → IsKnown (known_among ps [] place) v
nothing_asked ps place v = subst (λ k. IsKnown k v) (sym (none_known ps place)) tt

-- the ranges of a key with one column more
ranges_cons : (p : ℕ) (ps : List ℕ) (a b : Row) (x y : Value) → slice_get a p ≡ Some x → slice_get b p ≡ Some y
    → key_ranges (key_of (p ∷ ps) a) (key_of (p ∷ ps) b) ≡ known.Range x y ∷ cond (is_eq (value_cmp x y)) (key_ranges (key_of ps a) (key_of ps b)) []
ranges_cons p ps a b x y e f = ap₂ (λ o r. key_ranges (cons_option o (key_of ps a)) (cons_option r (key_of ps b))) e f

-- a row's values at these places lie in the ranges of the keys between which it stands
pub known_between : (ps : List ℕ) (a row b : Row) → HasPlaces ps a → HasPlaces ps row → HasPlaces ps b
    → is_le (key_cmp ps a row) ≡ true → is_le (key_cmp ps row b) ≡ true
    → (place : ℕ) (v : Value) → slice_get row place ≡ Some v → IsKnown (known_among ps (key_ranges (key_of ps a) (key_of ps b)) place) v
known_between [] a row b ha hr hb low high place v there = tt
known_between (p ∷ ps) a row b ha hr hb low high place v there =
    let x = first_there p ps a ha in
    let y = first_there p ps row hr in
    let z = first_there p ps b hb in
    let below : is_le (ordering_then (value_cmp x.0 y.0) (key_cmp ps a row)) ≡ true = sym (ap is_le (key_cmp-cons p ps a row x.0 y.0 x.1 y.1)) ∙ low in
    let above : is_le (ordering_then (value_cmp y.0 z.0) (key_cmp ps row b)) ≡ true = sym (ap is_le (key_cmp-cons p ps row b y.0 z.0 y.1 z.1)) ∙ high in
    let first = first_le (value_cmp x.0 y.0) (key_cmp ps a row) below in
    let second = first_le (value_cmp y.0 z.0) (key_cmp ps row b) above in
    let more : is_le (key_cmp ps a row) ≡ true → is_le (key_cmp ps row b) ≡ true → IsKnown (known_among ps (key_ranges (key_of ps a) (key_of ps b)) place) v =
    λ l h. known_between ps a row b (others_there p ps a ha) (others_there p ps row hr) (others_there p ps b hb) l h place v there in
    subst (λ ks. IsKnown (known_among (p ∷ ps) ks place) v) (sym (ranges_cons p ps a b x.0 z.0 x.1 z.1))
    (here x.0 y.0 z.0 y.1 first second (rest x.0 y.0 z.0 below above first second more (is_eq (value_cmp x.0 z.0)) refl) (p == place) refl)
  where
    -- the columns after the first
    rest : (x y z : Value) → is_le (ordering_then (value_cmp x y) (key_cmp ps a row)) ≡ true → is_le (ordering_then (value_cmp y z) (key_cmp ps row b)) ≡ true
        → is_le (value_cmp x y) ≡ true → is_le (value_cmp y z) ≡ true
        → (is_le (key_cmp ps a row) ≡ true → is_le (key_cmp ps row b) ≡ true → IsKnown (known_among ps (key_ranges (key_of ps a) (key_of ps b)) place) v)
        → (same : Bool) → is_eq (value_cmp x z) ≡ same → IsKnown (known_among ps (cond same (key_ranges (key_of ps a) (key_of ps b)) []) place) v
    rest x y z below above first second more true e =
        let both = between_same x y z e first second in
        more (rest_le (value_cmp x y) (key_cmp ps a row) both.0 below) (rest_le (value_cmp y z) (key_cmp ps row b) both.1 above)
    rest x y z below above first second more false e = nothing_asked ps place v

    -- all columns
    here : (x y z : Value) → slice_get row p ≡ Some y → is_le (value_cmp x y) ≡ true → is_le (value_cmp y z) ≡ true
        → IsKnown (known_among ps (cond (is_eq (value_cmp x z)) (key_ranges (key_of ps a) (key_of ps b)) []) place) v
        → (same : Bool) → (p == place) ≡ same
        → IsKnown (cond same (known.Range x z) (known_among ps (cond (is_eq (value_cmp x z)) (key_ranges (key_of ps a) (key_of ps b)) []) place)) v
    here x y z is first second others true e =
        let one : Some y ≡ Some v = sym is ∙ ap (slice_get row) (eqb-true p place e) ∙ there in
        let same : y ≡ v = cc in
        subst (IsKnown (known.Range x z)) same (first, second)
    here x y z is first second others false e = others
