-- What is known of granules, place by place.
use Rattle.std.proofs.Common.{◌≡◌, ℕ, zero, suc, ◌+◌, ◌-◌, ◌<◌, ◌≤◌, ◌==◌, Bool, true, false, cond, List, [], ◌∷◌, ◌++◌, All, IfSome, IfOk, Result, Ok, Err, Some, ◌⊎◌, inl, inr, ◌≢◌, refl, sym, ap, ap₂, ◌∙◌, length, map, drop, slice_get, get_or, option_and_then, option_map, subst, append_assoc, arith, add-one}
use Rattle.std.specs.List.{range_with_len}
use Rattle.std.specs.Ordering.{is_eq, is_ne}
use Rattle.std.specs.declared.cmp.Ordering.{Ordering}
use Rattle.std.specs.declared.cmp.Ordering.TheVariants.{Less, Equal, Greater}
use Rattle.std.proofs.lemmas.Bool.{eq-eqb}
use Rattle.std.proofs.lemmas.Bool.Decides.{eqb_tells}
use Rattle.mt_base.specs.declared.memory.NoMemory.{NoMemory}
use Rattle.std.proofs.lemmas.List.{append-nil, drop_all, drop_more}
use Rattle.std.proofs.lemmas.List.FromFn.{get_or-map-range_with_len, length-map-range_with_len, map-range_with_len_more}
use Rattle.std.proofs.lemmas.Option.{get_or_from_slice_get, slice_get-get_or, slice_get-map, slice_get_within}
use Rattle.mt_base.specs.declared.partition.Partition.{Partition}
use Rattle.mt_values.specs.declared.expr.Test.{Test}
use Rattle.mt_values.specs.declared.schema.Schema.{Schema}
use Rattle.mt_values.specs.declared.value.Value.{Value}
use Rattle.mt_values.specs.Conditions.{Condition}
use Rattle.mt_values.specs.Order.{value_cmp}
use Rattle.mt_values.specs.Values.{Row}
use Rattle.predicate.specs.Boxes.{can}
use Rattle.predicate.specs.Granules.{asked_in, box_between, box_where, boxes_of, boxes_where, chosen_in, key_ranges, known_among, known_at}
use Rattle.predicate.specs.declared.extent.Can.{Can}
use Rattle.predicate.specs.declared.extent.Extent.{Extent}
use Rattle.predicate.specs.declared.extent.Known.{Known}
use Rattle.predicate.specs.declared.extent.Known.TheVariants as known
use Rattle.primary_marks.specs.Choosing.{key_at}
use Rattle.primary_marks.proofs.KeyRowsOf.{range_item}
use Rattle.primary_marks.proofs.MarkedRows.{map-map}

-- ---- boxes

map_shift : {X : Type 0} (f g : ℕ → X) → ((k : ℕ) → f (k + 1) ≡ g k) → (a n : ℕ) → map f (range_with_len (a + 1) n) ≡ map g (range_with_len a n)
map_shift f g e a zero = refl
map_shift f g e a (suc n) = ap₂ (λ x xs. x ∷ xs) (e a) (map_shift f g e (a + 1) n)

-- the box of the granule at a place
abbrev pub box_at : Schema → Partition → List Row → ℕ → Extent
box_at schema partition keys granule = box_between schema partition (key_at keys granule) (key_at keys (granule + 1))

-- whether the granule at a place is chosen
abbrev pub is_chosen_at : Schema → Partition → Condition Test → List Row → ℕ → Bool
is_chosen_at schema partition c keys granule = (can c (box_at schema partition keys granule)).yes

boxes_by_place : (schema : Schema) (partition : Partition) (keys : List Row) → boxes_of schema partition keys ≡ map (box_at schema partition keys) (range_with_len 0 (length keys - 1))
boxes_by_place schema partition [] = refl
boxes_by_place schema partition (a ∷ []) = refl
boxes_by_place schema partition (a ∷ b ∷ keys) =
    let count : length (a ∷ b ∷ keys) - 1 ≡ suc (length (b ∷ keys) - 1) = omega arith in
    let all = box_at schema partition (a ∷ b ∷ keys) in
    ap (λ bs. box_between schema partition a b ∷ bs)
    (boxes_by_place schema partition (b ∷ keys) ∙ sym (map_shift all (box_at schema partition (b ∷ keys)) shift 0 (length (b ∷ keys) - 1)))
    ∙ sym (ap (λ n. map all (range_with_len 0 n)) count)
  where
    shift : (k : ℕ) → box_at schema partition (a ∷ b ∷ keys) (k + 1) ≡ box_at schema partition (b ∷ keys) k
    shift k = ap₂ (box_between schema partition) (ap (key_at (a ∷ b ∷ keys)) (add-one k)) (ap (key_at (a ∷ b ∷ keys)) (add-one (k + 1)))

-- the choice, granule by granule
pub chosen_by_place : (schema : Schema) (partition : Partition) (c : Condition Test) (keys : List Row) → chosen_in schema partition c keys ≡ map (is_chosen_at schema partition c keys) (range_with_len 0 (length keys - 1))
chosen_by_place schema partition c keys =
    ap (map (λ e. (can c e).yes)) (boxes_by_place schema partition keys)
    ∙ map-map (λ e. (can c e).yes) (box_at schema partition keys) (range_with_len 0 (length keys - 1))

-- whether the rows of the granule at a place are asked
abbrev pub is_asked_at : Schema → Partition → Condition Test → List Row → ℕ → Bool
is_asked_at schema partition c keys granule = (can c (box_at schema partition keys granule)).no

pub asked_by_place : (schema : Schema) (partition : Partition) (c : Condition Test) (keys : List Row) → asked_in schema partition c keys ≡ map (is_asked_at schema partition c keys) (range_with_len 0 (length keys - 1))
asked_by_place schema partition c keys =
    ap (map (λ e. (can c e).no)) (boxes_by_place schema partition keys)
    ∙ map-map (λ e. (can c e).no) (box_at schema partition keys) (range_with_len 0 (length keys - 1))

-- what the condition may be in the granule at a place
abbrev pub answer_at : Schema → Partition → Condition Test → List Row → ℕ → Can
answer_at schema partition c keys granule = can c (box_at schema partition keys granule)

-- the answers, granule by granule
pub answers_by_place : (schema : Schema) (partition : Partition) (c : Condition Test) (keys : List Row) → map (can c) (boxes_of schema partition keys) ≡ map (answer_at schema partition c keys) (range_with_len 0 (length keys - 1))
answers_by_place schema partition c keys =
    ap (map (can c)) (boxes_by_place schema partition keys) ∙ map-map (can c) (box_at schema partition keys) (range_with_len 0 (length keys - 1))

-- one granule more
pub answers_more : (schema : Schema) (partition : Partition) (c : Condition Test) (keys : List Row) (k : ℕ) (old new : List Can) (a : Can)
    → old ≡ map (answer_at schema partition c keys) (range_with_len 0 k) → new ≡ old ++ a ∷ [] → a ≡ answer_at schema partition c keys k
    → new ≡ map (answer_at schema partition c keys) (range_with_len 0 (k + 1))
answers_more schema partition c keys k old new a so_far e is =
    e ∙ ap₂ (λ (xs : List Can) x. xs ++ x ∷ []) so_far is ∙ sym (map-range_with_len_more (answer_at schema partition c keys) 0 k k (omega arith))

-- what is found at a place of what is made of each number
pub made_at : {X : Type 0} (f : ℕ → X) (n i : ℕ) (x : X) → slice_get (map f (range_with_len 0 n)) i ≡ Some x → (i < n) × (f i ≡ x)
made_at f n i x e =
    let within = slice_get_within (map f (range_with_len 0 n)) i x e in
    let below : i < n = omega (arith, within, length-map-range_with_len f 0 n) in
    (below, sym (get_or-map-range_with_len f 0 n i i x below (omega arith)) ∙ get_or_from_slice_get (map f (range_with_len 0 n)) i x x e)

-- the box of the granule at a place is that of its two keys
pub box_there : (schema : Schema) (partition : Partition) (keys : List Row) (granule : ℕ) (e : Extent) → slice_get (boxes_of schema partition keys) granule ≡ Some e
    → (granule < length keys - 1) × (box_at schema partition keys granule ≡ e)
box_there schema partition keys granule e is =
    made_at (box_at schema partition keys) (length keys - 1) granule e (sym (ap (λ bs. slice_get bs granule) (boxes_by_place schema partition keys)) ∙ is)

pub there_box : (schema : Schema) (partition : Partition) (keys : List Row) (granule : ℕ) → granule < length keys - 1 → slice_get (boxes_of schema partition keys) granule ≡ Some (box_at schema partition keys granule)
there_box schema partition keys granule below =
    ap (λ bs. slice_get bs granule) (boxes_by_place schema partition keys)
    ∙ slice_get-map (box_at schema partition keys) (range_with_len 0 (length keys - 1)) granule
    ∙ ap (option_map (box_at schema partition keys)) (range_item (length keys - 1) granule below)

-- the box of a granule, by what its two keys say
pub box_is : (schema : Schema) (partition : Partition) (keys : List Row) (granule : ℕ) (ranges : List Known) (e : Extent) → ranges ≡ key_ranges (key_at keys granule) (key_at keys (granule + 1))
    → e.columns ≡ map (known_at schema partition ranges) (range_with_len 0 (length schema.columns)) → e ≡ box_at schema partition keys granule
box_is schema partition keys granule ranges e are is =
    ap (λ (ks : List Known). let f : Extent = record { columns = ks } in f)
    (is ∙ ap (λ (ks : List Known). map (known_at schema partition ks) (range_with_len 0 (length schema.columns))) are)

pub box_count : (schema : Schema) (partition : Partition) (keys : List Row) → length (boxes_of schema partition keys) ≡ length keys - 1
box_count schema partition keys = ap length (boxes_by_place schema partition keys) ∙ length-map-range_with_len (box_at schema partition keys) 0 (length keys - 1)

-- ---- boxes of chosen granules

module _ (boxes : List Extent) (chosen : List Bool) where
  -- those of the granules gone over, and those that are left
  abbrev pub BoxesFrom : List Extent → ℕ → Type 0
  BoxesFrom made i = made ++ boxes_where (drop i boxes) (drop i chosen) ≡ boxes_where boxes chosen

  -- one granule more
  pub boxes_more : (made new : List Extent) (i : ℕ) (b e : Extent) (c : Bool) → BoxesFrom made i → i < length chosen → c ≡ get_or chosen i c → slice_get boxes i ≡ Some b
      → e ≡ box_where c b → new ≡ made ++ e ∷ [] → BoxesFrom new (i + 1)
  boxes_more made new i b e c so_far below answer there is grown =
      let rest = boxes_where (drop (i + 1) boxes) (drop (i + 1) chosen) in
      let left : drop i boxes ≡ b ∷ drop (i + 1) boxes =
      drop_more boxes i b (slice_get_within boxes i b there) ∙ ap (λ (x : Extent). x ∷ drop (i + 1) boxes) (get_or_from_slice_get boxes i b b there) in
      let answers : drop i chosen ≡ c ∷ drop (i + 1) chosen =
      drop_more chosen i c below ∙ ap (λ (x : Bool). x ∷ drop (i + 1) chosen) (sym answer) in
      ap (λ (xs : List Extent). xs ++ rest) grown
      ∙ append_assoc made (e ∷ []) rest
      ∙ ap (λ (x : Extent). made ++ x ∷ rest) is
      ∙ ap₂ (λ (bs : List Extent) (cs : List Bool). made ++ boxes_where bs cs) (sym left) (sym answers)
      ∙ so_far

  -- past the last granule
  pub boxes_past : (made : List Extent) (i : ℕ) → BoxesFrom made i → length boxes ≤ i → made ≡ boxes_where boxes chosen
  boxes_past made i so_far end =
      sym (append-nil made)
      ∙ ap (λ (bs : List Extent). made ++ boxes_where bs (drop i chosen)) (sym (drop_all i boxes end))
      ∙ so_far

  -- past the last answer
  pub boxes_all : (made : List Extent) (i : ℕ) → BoxesFrom made i → length chosen ≤ i → made ≡ boxes_where boxes chosen
  boxes_all made i so_far end =
      sym (append-nil made)
      ∙ ap (λ (bs : List Extent). made ++ bs) (sym (none (drop i boxes)))
      ∙ ap (λ (cs : List Bool). made ++ boxes_where (drop i boxes) cs) (sym (drop_all i chosen end))
      ∙ so_far
    where
      none : (bs : List Extent) → boxes_where bs [] ≡ []
      none [] = refl
      none (b ∷ bs) = refl

-- ---- ranges

-- what is left of a list from an item on
there : {X : Type 0} (xs : List X) (i : ℕ) (x : X) → slice_get xs i ≡ Some x → drop i xs ≡ x ∷ drop (i + 1) xs
there xs i x e = drop_more xs i x (slice_get_within xs i x e) ∙ ap (λ y. y ∷ drop (i + 1) xs) (get_or_from_slice_get xs i x x e)

-- how many ranges there are, where the first few columns of both keys agree
abbrev pub AgreeUpTo : Row → Row → ℕ → Type 0
AgreeUpTo a b i = length (key_ranges a b) ≡ i + length (key_ranges (drop i a) (drop i b))

pub ranges_from : (a b : Row) (i : ℕ) (x y : Value) → slice_get a i ≡ Some x → slice_get b i ≡ Some y
    → key_ranges (drop i a) (drop i b) ≡ known.Range x y ∷ cond (is_eq (value_cmp x y)) (key_ranges (drop (i + 1) a) (drop (i + 1) b)) []
ranges_from a b i x y e f = ap₂ key_ranges (there a i x e) (there b i y f)

-- two that differ end the ranges
pub differ : (a b : Row) (i : ℕ) (x y : Value) → AgreeUpTo a b i → slice_get a i ≡ Some x → slice_get b i ≡ Some y → is_ne (value_cmp x y) ≡ true → i + 1 ≡ length (key_ranges a b)
differ a b i x y agree e f ne = by (value_cmp x y) ne (ranges_from a b i x y e f)
  where
    by : (o : Ordering) → is_ne o ≡ true → key_ranges (drop i a) (drop i b) ≡ known.Range x y ∷ cond (is_eq o) (key_ranges (drop (i + 1) a) (drop (i + 1) b)) []
        → i + 1 ≡ length (key_ranges a b)
    by Less ne is = omega (arith, agree, ap length is)
    by Equal ne is = cc
    by Greater ne is = omega (arith, agree, ap length is)

-- two that agree go on
pub agree_more : (a b : Row) (i : ℕ) (x y : Value) → AgreeUpTo a b i → slice_get a i ≡ Some x → slice_get b i ≡ Some y → is_ne (value_cmp x y) ≡ false → AgreeUpTo a b (i + 1)
agree_more a b i x y agree e f eq = by (value_cmp x y) eq (ranges_from a b i x y e f)
  where
    by : (o : Ordering) → is_ne o ≡ false → key_ranges (drop i a) (drop i b) ≡ known.Range x y ∷ cond (is_eq o) (key_ranges (drop (i + 1) a) (drop (i + 1) b)) []
        → AgreeUpTo a b (i + 1)
    by Less eq is = cc
    by Equal eq is = omega (arith, agree, ap length is)
    by Greater eq is = cc

-- keys that agree in all columns have a range of each
pub agree_all : (a b : Row) (i width : ℕ) → AgreeUpTo a b i → length a ≡ width → i ≡ width → width ≡ length (key_ranges a b)
agree_all a b i width agree all end =
    let none : key_ranges (drop i a) (drop i b) ≡ [] = ap (λ xs. key_ranges xs (drop i b)) (drop_all i a (omega arith)) in
    omega (arith, agree, ap length none)

-- there are no more ranges than columns
pub ranges_within : (a b : Row) → (length (key_ranges a b) ≤ length a) × (length (key_ranges a b) ≤ length b)
ranges_within [] b = (omega arith, omega arith)
ranges_within (v ∷ vs) [] = (omega arith, omega arith)
ranges_within (v ∷ vs) (w ∷ ws) = by (is_eq (value_cmp v w)) (ranges_within vs ws)
  where
    by : (same : Bool) → (length (key_ranges vs ws) ≤ length vs) × (length (key_ranges vs ws) ≤ length ws)
        → (length (known.Range v w ∷ cond same (key_ranges vs ws) []) ≤ length (v ∷ vs)) × (length (known.Range v w ∷ cond same (key_ranges vs ws) []) ≤ length (w ∷ ws))
    by true more = (omega (arith, more.0), omega (arith, more.1))
    by false more = (omega arith, omega arith)

-- each range is that of its column's two values
pub range_there : (a b : Row) (column : ℕ) (x y : Value) → column < length (key_ranges a b) → slice_get a column ≡ Some x → slice_get b column ≡ Some y
    → slice_get (key_ranges a b) column ≡ Some (known.Range x y)
range_there [] b column x y h e f = absurd (omega arith)
range_there (v ∷ vs) [] column x y h e f = absurd (omega arith)
range_there (v ∷ vs) (w ∷ ws) zero x y h e f =
    let p : v ≡ x = cc in
    let q : w ≡ y = cc in
    ap₂ (λ m n. Some (known.Range m n)) p q
range_there (v ∷ vs) (w ∷ ws) (suc k) x y h e f = by (is_eq (value_cmp v w)) h (λ below. range_there vs ws k x y below e f)
  where
    by : (same : Bool) → suc k < length (known.Range v w ∷ cond same (key_ranges vs ws) []) → (k < length (key_ranges vs ws) → slice_get (key_ranges vs ws) k ≡ Some (known.Range x y))
        → slice_get (known.Range v w ∷ cond same (key_ranges vs ws) []) (suc k) ≡ Some (known.Range x y)
    by true below more = more (omega (arith, below))
    by false below more = absurd (omega arith)

-- ---- the keys that are kept

-- a key reaches to a column
pub key_reaches : (keys : List Row) (place column : ℕ) → place < length keys → column < length (key_at keys place) → IfSome (slice_get keys place) (λ k. column < length k)
key_reaches keys place column below reach = subst (λ o. IfSome o (λ k. column < length k)) (sym (slice_get-get_or keys place [] below)) reach

-- all keys have the width
pub key_width : (keys : List Row) (width place : ℕ) → All (λ k. length k ≡ width) keys → place < length keys → length (key_at keys place) ≡ width
key_width keys width place all below = all place [] below

-- a key has a value in a column
pub key_has : (keys : List Row) (place column : ℕ) (v : Value) → place < length keys → option_and_then (λ k. slice_get k column) (slice_get keys place) ≡ Some v → slice_get (key_at keys place) column ≡ Some v
key_has keys place column v below e = sym (ap (option_and_then (λ k. slice_get k column)) (slice_get-get_or keys place [] below)) ∙ e

-- a column with a range is one of both keys
pub column_within : (a b : Row) (ranges : List Known) (column : ℕ) → key_ranges a b ≡ ranges → column < length ranges → (column < length a) × (column < length b)
column_within a b ranges column is below =
    let within = ranges_within a b in
    (omega (arith, below, ap length is, within.0), omega (arith, below, ap length is, within.1))

-- ---- what is known of a column

-- what the columns of the key from one on say of a place
abbrev pub KnownFrom : List ℕ → List Known → ℕ → ℕ → Type 0
KnownFrom primary ranges place i = known_among (drop i primary) (drop i ranges) place ≡ known_among primary ranges place

none_among : (ps : List ℕ) (place : ℕ) → known_among ps [] place ≡ known.Unknown
none_among [] place = refl
none_among (p ∷ ps) place = refl

-- what is known of the next column of the key is the place's where it is that column, and else what those after it say
among_next : (primary : List ℕ) (ranges : List Known) (place i : ℕ) → KnownFrom primary ranges place i → i < length primary → i < length ranges
    → known_among primary ranges place ≡ cond (get_or primary i 0 == place) (get_or ranges i known.Unknown) (known_among (drop (i + 1) primary) (drop (i + 1) ranges) place)
among_next primary ranges place i from below within =
    sym from ∙ ap₂ (λ ps ks. known_among ps ks place) (drop_more primary i 0 below) (drop_more ranges i known.Unknown within)

-- the column of the place is found
pub among_found : (primary : List ℕ) (ranges : List Known) (place i : ℕ) (result : Result Known NoMemory) → KnownFrom primary ranges place i → i < length primary → i < length ranges
    → get_or primary i 0 ≡ place → IfOk result (λ k. slice_get ranges i ≡ Some k) → IfOk result (λ k. k ≡ known_among primary ranges place)
among_found primary ranges place i (Ok k) from below within same found =
    sym (among_next primary ranges place i from below within
    ∙ ap (λ b. cond b (get_or ranges i known.Unknown) (known_among (drop (i + 1) primary) (drop (i + 1) ranges) place)) (eq-eqb (get_or primary i 0) place same)
    ∙ get_or_from_slice_get ranges i k known.Unknown found)
among_found primary ranges place i (Err e) from below within same found = tt

-- the next column is another one
pub among_passed : (primary : List ℕ) (ranges : List Known) (place i : ℕ) → KnownFrom primary ranges place i → i < length primary → i < length ranges
    → (get_or primary i 0 ≡ place → ⊥) → KnownFrom primary ranges place (i + 1)
among_passed primary ranges place i from below within other =
    sym (among_next primary ranges place i from below within
    ∙ ap (λ b. cond b (get_or ranges i known.Unknown) (known_among (drop (i + 1) primary) (drop (i + 1) ranges) place)) (not_same (eqb_tells (get_or primary i 0) place)))
  where
    not_same : ((get_or primary i 0 == place) ≡ true) × (get_or primary i 0 ≡ place) ⊎ ((get_or primary i 0 == place) ≡ false) × (get_or primary i 0 ≢ place) → (get_or primary i 0 == place) ≡ false
    not_same (inl is) = absurd (other is.1)
    not_same (inr is) = is.0

-- past the last range nothing is known
pub among_past : (primary : List ℕ) (ranges : List Known) (place i : ℕ) → KnownFrom primary ranges place i → length ranges ≤ i → known.Unknown ≡ known_among primary ranges place
among_past primary ranges place i from past =
    sym (sym from ∙ ap (λ ks. known_among (drop i primary) ks place) (drop_all i ranges past) ∙ none_among (drop i primary) place)
