-- What a condition is by its conjuncts, where those that are not asked are sure.
use Rattle.std.proofs.Common.{◌≡◌, ℕ, zero, suc, ◌+◌, ◌<◌, ◌≤◌, Bool, true, false, not, ◌&&◌, ◌||◌, cond, List, [], ◌∷◌, ◌++◌, Some, refl, sym, ap, ap₂, ◌∙◌, subst, length, map, flat_map, get_or, slice_get, drop, All, arith}
use Rattle.std.specs.List.{AllZip, list_all, zip}
use Rattle.std.proofs.lemmas.Grind.{flat_map-append}
use Rattle.std.proofs.lemmas.List.{append-nil, drop_all, drop_more, map-append}
use Rattle.std.proofs.lemmas.List.Concat.{flat_map-cons}
use Rattle.std.proofs.lemmas.List.Elements.{All-append, All-cons, All-head, All-nil, All-tail}
use Rattle.std.proofs.lemmas.Option.{get_or_from_slice_get, same_Some, slice_get_within}
use Rattle.mt_values.specs.declared.expr.Test.{Test}
use Rattle.mt_values.specs.Conditions.{Condition, Always, And, Holds, Not, Or, conjuncts_of, tests_of}
use Rattle.mt_values.specs.Order.{key_of}
use Rattle.mt_values.specs.Tests.{eval}
use Rattle.mt_values.specs.Values.{Row}
use Rattle.row_merge.specs.part_reader.declared.sieves.Sieve.{Sieve}
use Rattle.row_merge.proofs.PartReaderSiftedRows.{meets_one}
use Rattle.final_fold.specs.declared.asking.Conjunct.{Conjunct}
use Rattle.final_fold.specs.Asked.{IsSieveOf, asked_somewhere, some_true, tested}

-- ---- two lists item by item

module _ {X Y : Type 0} where
  pub zip_weaker : (Q R : X → Y → Type 0) → ((x : X) (y : Y) → Q x y → R x y) → (xs : List X) (ys : List Y) → AllZip Q xs ys → AllZip R xs ys
  zip_weaker Q R weak [] [] h = h
  zip_weaker Q R weak [] (y ∷ ys) h = absurd h
  zip_weaker Q R weak (x ∷ xs) [] h = absurd h
  zip_weaker Q R weak (x ∷ xs) (y ∷ ys) h = (weak x y h.0, zip_weaker Q R weak xs ys h.1)

  pub zip_push : (R : X → Y → Type 0) (xs : List X) (ys : List Y) (x : X) (y : Y) → AllZip R xs ys → R x y → AllZip R (xs ++ x ∷ []) (ys ++ y ∷ [])
  zip_push R [] [] x y h r = (r, h)
  zip_push R [] (b ∷ ys) x y h r = absurd h
  zip_push R (a ∷ xs) [] x y h r = absurd h
  zip_push R (a ∷ xs) (b ∷ ys) x y h r = (h.0, zip_push R xs ys x y h.1 r)

  -- the pair at a place
  pub pair_there : (xs : List X) (ys : List Y) (i : ℕ) (x : X) (y : Y) → slice_get xs i ≡ Some x → slice_get ys i ≡ Some y → slice_get (zip xs ys) i ≡ Some (x, y)
  pair_there [] ys i x y x_is y_is = cc
  pair_there (a ∷ xs) [] i x y x_is y_is = cc
  pair_there (a ∷ xs) (b ∷ ys) zero x y x_is y_is = ap₂ (λ p q. Some (p, q)) (same_Some a x x_is) (same_Some b y y_is)
  pair_there (a ∷ xs) (b ∷ ys) (suc i) x y x_is y_is = pair_there xs ys i x y x_is y_is

-- what is read over a list by way of the pairs of two others
pub zip_mapped : {X Y Z : Type 0} (v : Z → X) (R : X → Y → Type 0) (zs : List Z) (ys : List Y) → AllZip (λ z. R (v z)) zs ys → AllZip R (map v zs) ys
zip_mapped v R [] [] h = h
zip_mapped v R [] (y ∷ ys) h = absurd h
zip_mapped v R (z ∷ zs) [] h = absurd h
zip_mapped v R (z ∷ zs) (y ∷ ys) h = (h.0, zip_mapped v R zs ys h.1)

-- ---- the conjuncts that are asked somewhere

none_first : (b c : Bool) → (b || c) ≡ false → (b ≡ false) × (c ≡ false)
none_first false c e = (refl, e)
none_first true c e = cc

abbrev pub Pair : Type 0
Pair = Condition Test × List Bool

abbrev pub pair_of : Conjunct → Pair
pair_of x = (x.condition.now, x.granules.now)

abbrev with_pair : Pair → List Pair → Bool → List Pair
with_pair p rest b = cond b (p ∷ rest) rest

-- one more of both lists
pub somewhere_more : (d : Condition Test) (a : List Bool) (ds : List (Condition Test)) (gs : List (List Bool)) (b : Bool) → some_true a ≡ b → asked_somewhere (d ∷ ds) (a ∷ gs) ≡ with_pair (d, a) (asked_somewhere ds gs) b
somewhere_more d a ds gs b is = ap (with_pair (d, a) (asked_somewhere ds gs)) is

-- ---- what a condition is of a row in a granule

-- a row of a granule meets each conjunct that is not asked there
abbrev pub MeetsHere : List (Condition Test) → List (List Bool) → ℕ → Row → Type 0
MeetsHere ds gs granule row = AllZip (λ d a. get_or a granule false ≡ false → eval d row ≡ true) ds gs

-- whether it meets a conjunct, where that is asked
abbrev pub asks : ℕ → Row → Pair → Bool
asks granule row p = not (get_or p.1 granule false) || eval p.0 row

none_at : (a : List Bool) (n : ℕ) → some_true a ≡ false → get_or a n false ≡ false
none_at [] n none = refl
none_at (b ∷ a) zero none = (none_first b (some_true a) none).0
none_at (b ∷ a) (suc n) none = none_at a n (none_first b (some_true a) none).1

own_answer : (asked meets : Bool) → (asked ≡ false → meets ≡ true) → (not asked || meets) ≡ meets
own_answer true meets sure = refl
own_answer false meets sure = sym (sure refl)

-- those that are asked somewhere say of it what all conjuncts say
pub row_here : (n : ℕ) (row : Row) (ds : List (Condition Test)) (gs : List (List Bool)) → MeetsHere ds gs n row → list_all (asks n row) (asked_somewhere ds gs) ≡ list_all (λ d. eval d row) ds
row_here n row [] [] here = refl
row_here n row [] (a ∷ gs) here = absurd here
row_here n row (d ∷ ds) [] here = absurd here
row_here n row (d ∷ ds) (a ∷ gs) here = by (some_true a) refl (row_here n row ds gs here.1)
  where
    by : (b : Bool) → some_true a ≡ b → list_all (asks n row) (asked_somewhere ds gs) ≡ list_all (λ e. eval e row) ds → list_all (asks n row) (asked_somewhere (d ∷ ds) (a ∷ gs)) ≡ list_all (λ e. eval e row) (d ∷ ds)
    by true is rest =
        ap (list_all (asks n row)) (somewhere_more d a ds gs true is)
        ∙ ap₂ (λ x y. x && y) (own_answer (get_or a n false) (eval d row) here.0) rest
    by false is rest =
        ap (list_all (asks n row)) (somewhere_more d a ds gs false is) ∙ rest
        ∙ ap (λ b. b && list_all (λ e. eval e row) ds) (sym (here.0 (none_at a n is)))

-- sieves say of the values that are read what the conjuncts say of the row
pub sieves_ask : (read : List ℕ) (n : ℕ) (row : Row) → All (λ place. place < length row) read → (ps : List Pair) (ss : List Sieve) → AllZip (IsSieveOf read) ps ss → list_all (meets_one n (key_of read row)) ss ≡ list_all (asks n row) ps
sieves_ask read n row wide [] [] are = refl
sieves_ask read n row wide [] (s ∷ ss) are = absurd are
sieves_ask read n row wide (p ∷ ps) [] are = absurd are
sieves_ask read n row wide (p ∷ ps) (s ∷ ss) are =
    ap₂ (λ x y. x && y) (ap₂ (λ (gs : List Bool) (b : Bool). not (get_or gs n false) || b) are.0.granules (are.0.same row wide)) (sieves_ask read n row wide ps ss are.1)

pub all_parts : {X : Type 0} (P : X → Type 0) (xs ys : List X) → All P (xs ++ ys) → All P xs × All P ys
all_parts P [] ys all = (All-nil P, all)
all_parts P (x ∷ xs) ys all =
    let rest = all_parts P xs ys (All-tail P x (xs ++ ys) all) in
    (All-cons P x xs (All-head P x (xs ++ ys) all) rest.0, rest.1)

-- ---- the columns that the conjuncts name

tests_split : (c : Condition Test) → tested c ≡ flat_map tested (conjuncts_of c)
tests_split Always = refl
tests_split (Holds t) = refl
tests_split (Not c) = sym (append-nil (tested (Not c)))
tests_split (Or a b) = sym (append-nil (tested (Or a b)))
tests_split (And a b) =
    map-append (λ (t : Test). t.column) (tests_of a) (tests_of b)
    ∙ ap₂ (λ x y. x ++ y) (tests_split a) (tests_split b)
    ∙ sym (flat_map-append tested (conjuncts_of a) (conjuncts_of b))

-- what holds of each column that conjuncts name holds of those that are asked somewhere
asked_named : (P : ℕ → Type 0) (ds : List (Condition Test)) (gs : List (List Bool)) → All P (flat_map tested ds) → All P (flat_map (λ (p : Pair). tested p.0) (asked_somewhere ds gs))
asked_named P [] gs all = All-nil P
asked_named P (d ∷ ds) [] all = All-nil P
asked_named P (d ∷ ds) (a ∷ gs) all =
    let parts = all_parts P (tested d) (flat_map tested ds) (subst (All P) (flat_map-cons tested d ds) all) in
    by (some_true a) refl parts.0 (asked_named P ds gs parts.1)
  where
    by : (b : Bool) → some_true a ≡ b → All P (tested d) → All P (flat_map (λ (p : Pair). tested p.0) (asked_somewhere ds gs)) → All P (flat_map (λ (p : Pair). tested p.0) (asked_somewhere (d ∷ ds) (a ∷ gs)))
    by true is own others =
        subst (λ (ps : List Pair). All P (flat_map (λ (p : Pair). tested p.0) ps)) (sym (somewhere_more d a ds gs true is))
        (subst (All P) (sym (flat_map-cons (λ (p : Pair). tested p.0) (d, a) (asked_somewhere ds gs))) (All-append P (tested d) (flat_map (λ (p : Pair). tested p.0) (asked_somewhere ds gs)) own others))
    by false is own others = subst (λ (ps : List Pair). All P (flat_map (λ (p : Pair). tested p.0) ps)) (sym (somewhere_more d a ds gs false is)) others

-- of a condition's conjuncts
pub named_among : (P : ℕ → Type 0) (c : Condition Test) (ds : List (Condition Test)) (gs : List (List Bool)) → ds ≡ conjuncts_of c → All P (tested c) → All P (flat_map (λ (p : Pair). tested p.0) (asked_somewhere ds gs))
named_among P c ds gs are all = asked_named P ds gs (subst (All P) (tests_split c ∙ ap (flat_map tested) (sym are)) all)

-- ---- finding them, conjunct after conjunct

pub nothing_asked : (ds : List (Condition Test)) → asked_somewhere ds [] ≡ []
nothing_asked [] = refl
nothing_asked (d ∷ ds) = refl

module _ (ds : List (Condition Test)) (gs : List (List Bool)) (i : ℕ) (below : i < length ds) where
  ds_at : (d : Condition Test) → d ≡ get_or ds i d → drop i ds ≡ d ∷ drop (i + 1) ds
  ds_at d is = drop_more ds i d below ∙ ap (λ x. x ∷ drop (i + 1) ds) (sym is)

  -- its granules are not there
  pub find_past : length gs ≤ i → asked_somewhere (drop i ds) (drop i gs) ≡ asked_somewhere (drop (i + 1) ds) (drop (i + 1) gs)
  find_past past =
      ap (asked_somewhere (drop i ds)) (drop_all i gs past) ∙ nothing_asked (drop i ds)
      ∙ sym (ap (asked_somewhere (drop (i + 1) ds)) (drop_all (i + 1) gs (omega (arith, past))) ∙ nothing_asked (drop (i + 1) ds))

  module _ (d : Condition Test) (a : List Bool) (d_is : d ≡ get_or ds i d) (a_is : slice_get gs i ≡ Some a) where
    both_at : asked_somewhere (drop i ds) (drop i gs) ≡ asked_somewhere (d ∷ drop (i + 1) ds) (a ∷ drop (i + 1) gs)
    both_at =
        let inside : i < length gs = slice_get_within gs i a a_is in
        ap₂ asked_somewhere (ds_at d d_is) (drop_more gs i a inside ∙ ap (λ x. x ∷ drop (i + 1) gs) (get_or_from_slice_get gs i a a a_is))

    pub find_skip : some_true a ≡ false → asked_somewhere (drop i ds) (drop i gs) ≡ asked_somewhere (drop (i + 1) ds) (drop (i + 1) gs)
    find_skip none = both_at ∙ somewhere_more d a (drop (i + 1) ds) (drop (i + 1) gs) false none

    pub find_next : some_true a ≡ true → asked_somewhere (drop i ds) (drop i gs) ≡ (d, a) ∷ asked_somewhere (drop (i + 1) ds) (drop (i + 1) gs)
    find_next some = both_at ∙ somewhere_more d a (drop (i + 1) ds) (drop (i + 1) gs) true some
