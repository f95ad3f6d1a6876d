-- Merges of AggregatingMergeTree leave the row that one fold of all leaves.
use Rattle.std.proofs.Common.{◌≡◌, ◌⊎◌, ℕ, zero, suc, ◌+◌, ◌<◌, Bool, true, false, List, [], ◌∷◌, ◌++◌, length, length-append, get_or, drop, Option, Some, None, refl, sym, ap, ap₂, ◌∙◌, subst, inl, inr, append_assoc, arith, ◌+ℤ◌, slice_get}
use Rattle.std.proofs.Math.IntN.{+ℤ_idr}
use Rattle.std.proofs.Math.ListN.{get_or-append}
use Rattle.std.proofs.Math.Seq.{drop-cons}
use Rattle.std.specs.Cmp.{IsStrictWeakOrder}
use Rattle.std.specs.Int.Bits.{bit_and, bit_or, bit_xor}
use Rattle.std.specs.List.{All, Contains, cons_option, fold, reduce}
use Rattle.std.specs.Ordering.{is_lt}
use Rattle.std.specs.Option.{option_map}
use Rattle.std.proofs.lemmas.List.{drop_all, get_or-append-add, length-map}
use Rattle.std.proofs.lemmas.List.Elements.{All-nil, All-cons, All-head, All-tail, All-append, All-same, All-weaker, All-contains, Contains-append_cases, Contains-append_left, Contains-append_right, filter_map-append}
use Rattle.std.proofs.lemmas.List.MinMax.{ranks_by, IsStrictWeakOrder-flip}
use Rattle.std.proofs.lemmas.Option.{get_or_from_slice_get, slice_get-get_or, slice_get-map, slice_get_within}
use Rattle.mt_values.specs.declared.engine.Aggregate.{Aggregate}
use Rattle.mt_values.specs.declared.engine.Aggregate.TheVariants as aggregate
use Rattle.mt_values.specs.declared.engine.Engine.TheVariants as engine
use Rattle.mt_values.specs.declared.value.ColType.{ColType}
use Rattle.mt_values.specs.declared.value.ColType.TheVariants as type
use Rattle.mt_values.specs.declared.value.Value.{Value}
use Rattle.mt_values.specs.declared.value.Value.TheVariants as value
use Rattle.mt_values.specs.Grid.{column_of, AreRowsOf}
use Rattle.mt_values.specs.Order.{key_of, value_cmp}
use Rattle.mt_values.specs.Values.{Row, type_of, types_of}
use Rattle.mt_values.proofs.Orders.{value_total}
use Rattle.mt_model.specs.Folding.{Merges, ComesFrom, Leaves}
use Rattle.mt_model.specs.Rules.{AreAggregatesFrom, Folds, IsAggregateOf, IsBest, LeavesAggregates, Run, function_or_first, integer_of, joined_bits, total, wrapped_as}
use Rattle.rule_law.proofs.Bits.{all_bits, fold_type, joined_within, odd_bits, some_bits}
use Rattle.rule_law.proofs.Merging.{law_of_merges, leaves_run}
use Rattle.rule_law.proofs.OneSign.{total_after}
use Rattle.mt_values.proofs.Wrapping.{integer_wrapped, number_among, number_as, number_twice, wrapped_again, wrapped_alike, wrapped_twice, wrapped_type}

-- ---- lists

pub all_left : {X : Type 0} (P : X → Type 0) (xs ys : List X) → All P (xs ++ ys) → All P xs
all_left P xs ys h = λ k d below. subst P (get_or-append xs ys d k below) (h k d (omega (arith, length-append xs ys)))

pub all_right : {X : Type 0} (P : X → Type 0) (xs ys : List X) → All P (xs ++ ys) → All P ys
all_right P xs ys h = λ k d below. subst P (get_or-append-add xs ys k d) (h (length xs + k) d (omega (arith, length-append xs ys)))

-- a value at a place stands between others
split_at : (values : List Value) (k : ℕ) (v : Value) → k < length values → get_or values k v ≡ v → (earlier : List Value) × (later : List Value) × (values ≡ earlier ++ v ∷ later)
split_at [] k v below is = absurd (omega arith)
split_at (x ∷ values) zero v below is = ([], values, ap (λ y. y ∷ values) is)
split_at (x ∷ values) (suc k) v below is = let s = split_at values k v (omega arith) is in (x ∷ s.0, s.1, ap (λ ys. x ∷ ys) s.2)

contains_between : (earlier : List Value) (v : Value) (later values : List Value) → values ≡ earlier ++ v ∷ later → Contains values v
contains_between earlier v later values is = subst (λ zs. Contains zs v) (sym is) (Contains-append_right earlier (v ∷ later) v (0, omega arith, refl))

-- the last of values, of which there is at least this one
abbrev last_from : Value → List Value → Value
last_from v [] = v
last_from v (w ∷ values) = last_from w values

last_of_more : (v : Value) (front : List Value) (w : Value) (back : List Value) → last_from v (front ++ w ∷ back) ≡ last_from w back
last_of_more v [] w back = refl
last_of_more v (x ∷ front) w back = last_of_more x front w back

last_stands : (front : List Value) (v : Value) (back : List Value) → (earlier : List Value) × (front ++ v ∷ back ≡ earlier ++ last_from v back ∷ [])
last_stands front v [] = (front, refl)
last_stands front v (w ∷ back) =
    let r = last_stands (front ++ v ∷ []) w back in
    (r.0, sym (append_assoc front (v ∷ []) (w ∷ back)) ∙ r.1)

-- ---- the functions: what one makes of a run may stand for the run

any_within : (front run back : List Value) (v w : Value) → IsAggregateOf aggregate.Any run v → IsAggregateOf aggregate.Any (front ++ v ∷ back) w → IsAggregateOf aggregate.Any (front ++ (run ++ back)) w
any_within [] run back v w h k = (h.0 ++ back, ap (λ zs. zs ++ back) h.1 ∙ ap (λ x. x ∷ (h.0 ++ back)) same)
  where
    same : v ≡ w
    same = let e : v ∷ back ≡ w ∷ k.0 = k.1 in cc
any_within (x ∷ front) run back v w h k = (front ++ (run ++ back), ap (λ y. y ∷ (front ++ (run ++ back))) same)
  where
    same : x ≡ w
    same = let e : x ∷ (front ++ v ∷ back) ≡ w ∷ k.0 = k.1 in cc

any_last_within : (front run back : List Value) (v w : Value) → IsAggregateOf aggregate.AnyLast run v → IsAggregateOf aggregate.AnyLast (front ++ v ∷ back) w → IsAggregateOf aggregate.AnyLast (front ++ (run ++ back)) w
any_last_within front run back v w h k =
    let same : last_from v back ≡ w = sym (last_of_more v front v back) ∙ ap (last_from v) k.1 ∙ last_of_more v k.0 w [] in
    let r = last_stands (front ++ h.0) v back in
    (r.0, ap (λ zs. front ++ (zs ++ back)) h.1 ∙ ap (λ zs. front ++ zs) (append_assoc h.0 (v ∷ []) back) ∙ sym (append_assoc front h.0 (v ∷ back)) ∙ r.1 ∙ ap (λ x. r.0 ++ x ∷ []) same)

module _ (passes : Value → Value → Bool) (order : IsStrictWeakOrder passes) where
  -- no value passes itself
  pub passes_not : (v : Value) → passes v v ≡ false
  passes_not v = by (passes v v) refl
    where
      by : (b : Bool) → passes v v ≡ b → passes v v ≡ false
      by true e = order.one_way v v e
      by false e = e

  best_of : (values : List Value) (v : Value) → Contains values v → All (λ other. passes other v ≡ false) values → IsBest passes values v
  best_of values v among best = let s = split_at values among.0 v among.1 among.2 in record { earlier = s.0; later = s.1; values_are = s.2; best = best }

  best_within : (front run back : List Value) (v w : Value) → IsBest passes run v → IsBest passes (front ++ v ∷ back) w → IsBest passes (front ++ (run ++ back)) w
  best_within front run back v w h k = best_of (front ++ (run ++ back)) w (among (Contains-append_cases front (v ∷ back) w (contains_between k.earlier w k.later (front ++ v ∷ back) k.values_are))) best
    where
      not_passed : Value → Type 0
      not_passed other = passes other w ≡ false

      rest : All not_passed (v ∷ back)
      rest = all_right not_passed front (v ∷ back) k.best

      best : All not_passed (front ++ (run ++ back))
      best =
          All-append not_passed front (run ++ back) (all_left not_passed front (v ∷ back) k.best)
          (All-append not_passed run back (All-weaker (λ other. passes other v ≡ false) not_passed (λ other e. order.chain other v w e (All-head not_passed v back rest)) run h.best)
          (All-tail not_passed v back rest))

      in_run : v ≡ w → Contains run w
      in_run e = subst (Contains run) e (contains_between h.earlier v h.later run h.values_are)

      in_rest : Contains (v ∷ back) w → Contains (run ++ back) w
      in_rest (zero, below, is) = Contains-append_left run back w (in_run is)
      in_rest (suc j, below, is) = Contains-append_right run back w (j, omega arith, is)

      among : Contains front w ⊎ Contains (v ∷ back) w → Contains (front ++ (run ++ back)) w
      among (inl c) = Contains-append_left front (run ++ back) w c
      among (inr c) = Contains-append_right front (run ++ back) w (in_rest c)

pub less_order : IsStrictWeakOrder (λ other best. is_lt (value_cmp other best))
less_order = ranks_by value_total (λ (v : Value). v)

pub greater_order : IsStrictWeakOrder (λ other best. is_lt (value_cmp best other))
greater_order = IsStrictWeakOrder-flip (λ x y. is_lt (value_cmp x y)) less_order

-- values of one type
abbrev pub AreOf : ColType → List Value → Type 0
AreOf t values = All (λ v. type_of v ≡ t) values

head_type : (t : ColType) (values : List Value) (first : Value) (later : List Value) → values ≡ first ∷ later → AreOf t values → type_of first ≡ t
head_type t values first later is typed = All-head (λ v. type_of v ≡ t) first later (All-same (λ v. type_of v ≡ t) (first ∷ later) values (sym is) typed)

sum_within : (t : ColType) (front run back : List Value) (v w : Value) → AreOf t (front ++ (run ++ back))
    → IsAggregateOf aggregate.Sum run v → IsAggregateOf aggregate.Sum (front ++ v ∷ back) w → IsAggregateOf aggregate.Sum (front ++ (run ++ back)) w
sum_within t [] run back v w typed h k = (
  h.0,
  h.1 ++ back,
  ap (λ zs. zs ++ back) h.2,
  k.3 ∙ ap (λ x. wrapped_as x (total (v ∷ back))) same ∙ ap (λ x. wrapped_as x (integer_of x +ℤ total back)) h.3
      ∙ wrapped_twice h.0 (total run) (integer_of (wrapped_as h.0 (total run)) +ℤ total back) ∙ wrapped_again h.0 (total run) (total back) ∙ ap (wrapped_as h.0) (sym (total_after run back)),
)
  where
    same : k.0 ≡ v
    same = let e : v ∷ back ≡ k.0 ∷ k.1 = k.2 in cc
sum_within t (x ∷ front) run back v w typed h k = (x, front ++ (run ++ back), refl, k.3 ∙ ap (λ y. wrapped_as y (total (x ∷ (front ++ v ∷ back)))) same ∙ sums)
  where
    same : k.0 ≡ x
    same = let e : x ∷ (front ++ v ∷ back) ≡ k.0 ∷ k.1 = k.2 in cc

    typed_run : AreOf t run
    typed_run = all_left (λ v. type_of v ≡ t) run back (all_right (λ v. type_of v ≡ t) (x ∷ front) (run ++ back) typed)

    alike : type_of h.0 ≡ type_of x
    alike = head_type t run h.0 h.1 h.2 typed_run ∙ sym (All-head (λ v. type_of v ≡ t) x (front ++ (run ++ back)) typed)

    numbers : number_as (type_of x) (integer_of v) ≡ number_as (type_of x) (total run)
    numbers =
        ap (number_as (type_of x)) (ap integer_of h.3 ∙ integer_wrapped h.0 (total run) ∙ ap (λ s. number_as s (total run)) alike)
        ∙ sym (ap (number_as (type_of x)) (+ℤ_idr (number_as (type_of x) (total run)))) ∙ number_twice (type_of x) (total run)

    sums : wrapped_as x (total ((x ∷ front) ++ v ∷ back)) ≡ wrapped_as x (total ((x ∷ front) ++ (run ++ back)))
    sums =
        ap (wrapped_as x) (total_after (x ∷ front) (v ∷ back))
        ∙ wrapped_alike x (total (x ∷ front) +ℤ (integer_of v +ℤ total back)) (total (x ∷ front) +ℤ (total run +ℤ total back))
        (number_among (type_of x) (total (x ∷ front)) (integer_of v) (total run) (total back) numbers)
        ∙ ap (wrapped_as x) (sym (total_after (x ∷ front) (run ++ back) ∙ ap (λ z. total (x ∷ front) +ℤ z) (total_after run back)))

-- the first of the values before has the type of the first of the run
heads_alike : (t : ColType) (front : List Value) (first : Value) (run back : List Value) → AreOf t (front ++ ((first ∷ run) ++ back))
    → (other : Value) (others : List Value) → front ≡ other ∷ others → type_of other ≡ type_of first
heads_alike t front first run back typed other others is =
    let before : AreOf t front = all_left (λ v. type_of v ≡ t) front ((first ∷ run) ++ back) typed in
    let after : AreOf t (first ∷ (run ++ back)) = all_right (λ v. type_of v ≡ t) front ((first ∷ run) ++ back) typed in
    head_type t front other others is before ∙ sym (All-head (λ v. type_of v ≡ t) first (run ++ back) after)

none_makes : {P : Type 0} (v : Value) → None ≡ Some v → P
none_makes v e = absurd (clash e)
  where
    clash : None ≡ Some v → ⊥
    clash e = cc

pub aggregate_within : (function : Aggregate) (t : ColType) (front run back : List Value) (v w : Value) → AreOf t (front ++ (run ++ back))
    → IsAggregateOf function run v → IsAggregateOf function (front ++ v ∷ back) w → IsAggregateOf function (front ++ (run ++ back)) w
aggregate_within aggregate.Any t front run back v w typed h k = any_within front run back v w h k
aggregate_within aggregate.AnyLast t front run back v w typed h k = any_last_within front run back v w h k
aggregate_within aggregate.Min t front run back v w typed h k = best_within (λ other best. is_lt (value_cmp other best)) less_order front run back v w h k
aggregate_within aggregate.Max t front run back v w typed h k = best_within (λ other best. is_lt (value_cmp best other)) greater_order front run back v w h k
aggregate_within aggregate.Sum t front run back v w typed h k = sum_within t front run back v w typed h k
aggregate_within aggregate.BitAnd t front [] back v w typed h k = none_makes v h
aggregate_within aggregate.BitAnd t front (first ∷ run) back v w typed h k = joined_within bit_and all_bits front first run back v w (heads_alike t front first run back typed) h k
aggregate_within aggregate.BitOr t front [] back v w typed h k = none_makes v h
aggregate_within aggregate.BitOr t front (first ∷ run) back v w typed h k = joined_within bit_or some_bits front first run back v w (heads_alike t front first run back typed) h k
aggregate_within aggregate.BitXor t front [] back v w typed h k = none_makes v h
aggregate_within aggregate.BitXor t front (first ∷ run) back v w typed h k = joined_within bit_xor odd_bits front first run back v w (heads_alike t front first run back typed) h k

-- ---- the functions: what they make has the type of the values

one_of_type : (t : ColType) (values : List Value) (earlier : List Value) (v : Value) (later : List Value) → values ≡ earlier ++ v ∷ later → AreOf t values → type_of v ≡ t
one_of_type t values earlier v later is typed = All-contains (λ v. type_of v ≡ t) values v typed (contains_between earlier v later values is)

bits_type : (join : ℕ → ℕ → ℕ) (t : ColType) (values : List Value) (v : Value) → AreOf t values → reduce (joined_bits join) values ≡ Some v → type_of v ≡ t
bits_type join t [] v typed h = none_makes v h
bits_type join t (first ∷ values) v typed h =
    let made : fold (joined_bits join) first values ≡ v = cc in
    sym (ap type_of made) ∙ fold_type join first values ∙ All-head (λ v. type_of v ≡ t) first values typed

pub aggregate_type : (function : Aggregate) (t : ColType) (values : List Value) (v : Value) → AreOf t values → IsAggregateOf function values v → type_of v ≡ t
aggregate_type aggregate.Any t values v typed h = head_type t values v h.0 h.1 typed
aggregate_type aggregate.AnyLast t values v typed h = one_of_type t values h.0 v [] h.1 typed
aggregate_type aggregate.Min t values v typed h = one_of_type t values h.earlier v h.later h.values_are typed
aggregate_type aggregate.Max t values v typed h = one_of_type t values h.earlier v h.later h.values_are typed
aggregate_type aggregate.Sum t values v typed h = ap type_of h.3 ∙ wrapped_type h.0 (total values) ∙ head_type t values h.0 h.1 h.2 typed
aggregate_type aggregate.BitAnd t values v typed h = bits_type bit_and t values v typed h
aggregate_type aggregate.BitOr t values v typed h = bits_type bit_or t values v typed h
aggregate_type aggregate.BitXor t values v typed h = bits_type bit_xor t values v typed h

-- ---- rows by their places

-- stands for the value that a row has not
abbrev pub no_value : Value
no_value = value.UInt8 0

-- the function of the column at a place
abbrev pub function_at : List (Option Aggregate) → ℕ → Aggregate
function_at functions k = function_or_first (get_or functions k None)

pub aggregates_length : (place : ℕ) (functions : List (Option Aggregate)) (rows : List Row) (row : Row) → AreAggregatesFrom place functions rows row → length row ≡ length functions
aggregates_length place [] rows row h = ap length h
aggregates_length place (function ∷ functions) rows row h = ap length h.2 ∙ ap suc (aggregates_length (place + 1) functions rows h.1 h.4)

aggregate_from : (place : ℕ) (functions : List (Option Aggregate)) (rows : List Row) (row : Row) → AreAggregatesFrom place functions rows row
    → (k : ℕ) → k < length functions → IsAggregateOf (function_at functions k) (column_of (place + k) rows) (get_or row k no_value)
aggregate_from place [] rows row h k below = absurd (omega arith)
aggregate_from place (function ∷ functions) rows row h zero below =
    let here : place ≡ place + 0 = omega arith in
    subst (λ p. IsAggregateOf (function_or_first function) (column_of p rows) (get_or row 0 no_value)) here
    (subst (λ (r : Row). IsAggregateOf (function_or_first function) (column_of place rows) (get_or r 0 no_value)) (sym h.2) h.3)
aggregate_from place (function ∷ functions) rows row h (suc k) below =
    let there : place + 1 + k ≡ place + suc k = omega arith in
    subst (λ p. IsAggregateOf (function_at functions k) (column_of p rows) (get_or row (suc k) no_value)) there
    (subst (λ (r : Row). IsAggregateOf (function_at functions k) (column_of (place + 1 + k) rows) (get_or r (suc k) no_value)) (sym h.2) (aggregate_from (place + 1) functions rows h.1 h.4 k (omega arith)))

pub aggregate_at : (functions : List (Option Aggregate)) (rows : List Row) (row : Row) → AreAggregatesFrom 0 functions rows row
    → (k : ℕ) → k < length functions → IsAggregateOf (function_at functions k) (column_of k rows) (get_or row k no_value)
aggregate_at functions rows row h k below =
    let here : 0 + k ≡ k = omega arith in
    subst (λ p. IsAggregateOf (function_at functions k) (column_of p rows) (get_or row k no_value)) here (aggregate_from 0 functions rows row h k below)

aggregates_from : (place : ℕ) (functions : List (Option Aggregate)) (rows : List Row) (row : Row) → length row ≡ length functions
    → ((k : ℕ) → k < length functions → IsAggregateOf (function_at functions k) (column_of (place + k) rows) (get_or row k no_value)) → AreAggregatesFrom place functions rows row
aggregates_from place [] rows [] same h = refl
aggregates_from place [] rows (v ∷ row) same h = absurd (omega arith)
aggregates_from place (function ∷ functions) rows [] same h = absurd (omega arith)
aggregates_from place (function ∷ functions) rows (v ∷ row) same h = (v, row, refl, first, aggregates_from (place + 1) functions rows row (omega arith) others)
  where
    first : IsAggregateOf (function_or_first function) (column_of place rows) v
    first =
        let here : place + 0 ≡ place = omega arith in
        subst (λ p. IsAggregateOf (function_or_first function) (column_of p rows) v) here (h 0 (omega arith))

    others : (k : ℕ) → k < length functions → IsAggregateOf (function_at functions k) (column_of (place + 1 + k) rows) (get_or row k no_value)
    others k below =
        let there : place + suc k ≡ place + 1 + k = omega arith in
        subst (λ p. IsAggregateOf (function_at functions k) (column_of p rows) (get_or row k no_value)) there (h (suc k) (omega arith))

pub aggregates_at_all : (functions : List (Option Aggregate)) (rows : List Row) (row : Row) → length row ≡ length functions
    → ((k : ℕ) → k < length functions → IsAggregateOf (function_at functions k) (column_of k rows) (get_or row k no_value)) → AreAggregatesFrom 0 functions rows row
aggregates_at_all functions rows row same h = aggregates_from 0 functions rows row same each
  where
    each : (k : ℕ) → k < length functions → IsAggregateOf (function_at functions k) (column_of (0 + k) rows) (get_or row k no_value)
    each k below =
        let here : k ≡ 0 + k = omega arith in
        subst (λ p. IsAggregateOf (function_at functions k) (column_of p rows) (get_or row k no_value)) here (h k below)

-- the values of a column have its type
pub column_typed : (types : List ColType) (place : ℕ) (rows : List Row) → AreRowsOf types rows → AreOf (get_or types place type.UInt8) (column_of place rows)
column_typed types place [] typed = All-nil (λ v. type_of v ≡ get_or types place type.UInt8)
column_typed types place (row ∷ rows) typed =
    of_first (slice_get row place) refl (column_typed types place rows (All-tail (λ r. types_of r ≡ types) row rows typed))
  where
    of_first : (found : Option Value) → slice_get row place ≡ found → AreOf (get_or types place type.UInt8) (column_of place rows) → AreOf (get_or types place type.UInt8) (cons_option found (column_of place rows))
    of_first None e rest = rest
    of_first (Some v) e rest =
        All-cons (λ v. type_of v ≡ get_or types place type.UInt8) v (column_of place rows)
        (sym (get_or_from_slice_get (types_of row) place (type_of v) type.UInt8 (slice_get-map type_of row place ∙ ap (option_map type_of) e))
        ∙ ap (λ ts. get_or ts place type.UInt8) (All-head (λ r. types_of r ≡ types) row rows typed))
        rest

-- the column of one row
pub column_of_one : (place : ℕ) (row : Row) (rows : List Row) → place < length row → column_of place (row ∷ rows) ≡ get_or row place no_value ∷ column_of place rows
column_of_one place row rows below = ap (λ o. cons_option o (column_of place rows)) (slice_get-get_or row place no_value below)

module _ (types : List ColType) (functions : List (Option Aggregate)) (even : length functions ≡ length types) where
  -- ---- what is left is a row of these types

  types_from : (place : ℕ) (some : List (Option Aggregate)) (rows : List Row) (row : Row) → AreRowsOf types rows → place + length some ≡ length types → AreAggregatesFrom place some rows row → types_of row ≡ drop place types
  types_from place [] rows row typed reach h = ap types_of h ∙ sym (drop_all place types (omega arith))
  types_from place (function ∷ some) rows row typed reach h =
      let next : suc place ≡ place + 1 = omega arith in
      ap types_of h.2
      ∙ ap₂ (λ t ts. t ∷ ts) (aggregate_type (function_or_first function) (get_or types place type.UInt8) (column_of place rows) h.0 (column_typed types place rows typed) h.3)
      (types_from (place + 1) some rows h.1 typed (omega arith) h.4)
      ∙ sym (drop-cons types place type.UInt8 (omega arith) ∙ ap (λ p. get_or types place type.UInt8 ∷ drop p types) next)

  pub left_types : (rows : List Row) (row : Row) → AreRowsOf types rows → AreAggregatesFrom 0 functions rows row → types_of row ≡ types
  left_types rows row typed h = types_from 0 functions rows row typed (omega (arith, even)) h

  -- ---- the law

  row_within : (front run back : List Row) (mid row : Row) → AreRowsOf types (front ++ (run ++ back))
      → AreAggregatesFrom 0 functions run mid → AreAggregatesFrom 0 functions (front ++ mid ∷ back) row → AreAggregatesFrom 0 functions (front ++ (run ++ back)) row
  row_within front run back mid row typed h k = aggregates_at_all functions (front ++ (run ++ back)) row (aggregates_length 0 functions (front ++ mid ∷ back) row k) each
    where
      whole : (place : ℕ) → column_of place (front ++ (run ++ back)) ≡ column_of place front ++ (column_of place run ++ column_of place back)
      whole place = filter_map-append (λ r. slice_get r place) front (run ++ back) ∙ ap (λ zs. column_of place front ++ zs) (filter_map-append (λ r. slice_get r place) run back)

      merged : (place : ℕ) → place < length functions → column_of place (front ++ mid ∷ back) ≡ column_of place front ++ get_or mid place no_value ∷ column_of place back
      merged place below =
          filter_map-append (λ r. slice_get r place) front (mid ∷ back)
          ∙ ap (λ zs. column_of place front ++ zs) (column_of_one place mid back (omega (arith, aggregates_length 0 functions run mid h)))

      each : (place : ℕ) → place < length functions → IsAggregateOf (function_at functions place) (column_of place (front ++ (run ++ back))) (get_or row place no_value)
      each place below =
          subst (λ values. IsAggregateOf (function_at functions place) values (get_or row place no_value)) (sym (whole place))
          (aggregate_within (function_at functions place) (get_or types place type.UInt8) (column_of place front) (column_of place run) (column_of place back) (get_or mid place no_value) (get_or row place no_value)
          (subst (AreOf (get_or types place type.UInt8)) (whole place) (column_typed types place (front ++ (run ++ back)) typed))
          (aggregate_at functions run mid h place below)
          (subst (λ values. IsAggregateOf (function_at functions place) values (get_or row place no_value)) (merged place below) (aggregate_at functions (front ++ mid ∷ back) row k place below)))

  typed_before : (before after : List Row) (m : Merges (LeavesAggregates functions) before after) → AreRowsOf types before → AreRowsOf types (m.front ++ (m.rows ++ m.back))
  typed_before before after m typed = All-same (λ r. types_of r ≡ types) (m.front ++ (m.rows ++ m.back)) before (sym m.before_is) typed

  after_one : (before after : List Row) (m : Merges (LeavesAggregates functions) before after) → after ≡ m.front ++ m.folded.row ∷ m.back
  after_one before after m = m.after_is ∙ ap (λ zs. m.front ++ (zs ++ m.back)) m.folded.out_is

  merge_typed : (before after : List Row) → AreRowsOf types before → Merges (LeavesAggregates functions) before after → AreRowsOf types after
  merge_typed before after typed m = All-same has_types after (m.front ++ m.folded.row ∷ m.back) (after_one before after m)
      (All-append has_types m.front (m.folded.row ∷ m.back) (all_left has_types m.front (m.rows ++ m.back) all)
      (All-cons has_types m.folded.row m.back (left_types m.rows m.folded.row (all_left has_types m.rows m.back rest) m.folded.aggregates) (all_right has_types m.rows m.back rest)))
    where
      has_types : Row → Type 0
      has_types r = types_of r ≡ types

      all : All has_types (m.front ++ (m.rows ++ m.back))
      all = typed_before before after m typed

      rest : All has_types (m.rows ++ m.back)
      rest = all_right has_types m.front (m.rows ++ m.back) all

  run_leaves : (rows out : List Row) → 0 < length rows → LeavesAggregates functions rows out → Leaves (LeavesAggregates functions) rows out
  run_leaves [] out some h = absurd (omega arith)
  run_leaves (row ∷ rows) out some h = h

  aggregates_absorb : (before after out : List Row) → AreRowsOf types before → Merges (LeavesAggregates functions) before after → Leaves (LeavesAggregates functions) after out → Leaves (LeavesAggregates functions) before out
  aggregates_absorb before after out typed m leaves =
      let h = leaves_run (LeavesAggregates functions) after out some_after leaves in
      run_leaves before out some_before (record {
        row = h.row;
        aggregates =
            subst (λ rows. AreAggregatesFrom 0 functions rows h.row) (sym m.before_is)
            (row_within m.front m.rows m.back m.folded.row h.row (typed_before before after m typed) m.folded.aggregates
            (subst (λ rows. AreAggregatesFrom 0 functions rows h.row) (after_one before after m) h.aggregates));
        out_is = h.out_is;
      })
    where
      some_before : 0 < length before
      some_before = omega (arith, ap length m.before_is, length-append m.front (m.rows ++ m.back), length-append m.rows m.back, m.some)

      some_after : 0 < length after
      some_after = omega (arith, ap length (after_one before after m), length-append m.front (m.folded.row ∷ m.back))

  law_of_types : (rows x out : List Row) → 0 < length rows → AreRowsOf types rows → ComesFrom (LeavesAggregates functions) rows x → Leaves (LeavesAggregates functions) x out → LeavesAggregates functions rows out
  law_of_types rows x out some typed comes leaves =
      law_of_merges (LeavesAggregates functions) (AreRowsOf types) merge_typed aggregates_absorb rows x out some typed comes leaves

-- rows of these types, and a function or none for each of their columns
abbrev pub TakesRow : List ColType → List (Option Aggregate) → Row → Type 0
TakesRow types functions row = (types_of row ≡ types) × (length functions ≡ length types)

pub taken_types : (types : List ColType) (functions : List (Option Aggregate)) (rows : List Row) → All (TakesRow types functions) rows → AreRowsOf types rows
taken_types types functions rows taken = All-weaker (TakesRow types functions) (λ r. types_of r ≡ types) (λ r own. own.0) rows taken

pub aggregating_law : (types : List ColType) (functions : List (Option Aggregate)) (rows x out : List Row) → 0 < length rows → All (TakesRow types functions) rows
    → ComesFrom (Run engine.Aggregating functions) rows x → Leaves (Run engine.Aggregating functions) x out → Folds engine.Aggregating functions rows out
aggregating_law types functions rows x out some taken comes leaves =
    law_of_types types functions (taken 0 [] some).1 rows x out some (taken_types types functions rows taken) comes leaves

-- what is left of rows that are taken is taken, and has their types
pub aggregating_stays : (types : List ColType) (functions : List (Option Aggregate)) (own : List ColType) (rows out : List Row) → 0 < length rows → All (TakesRow types functions) rows → AreRowsOf own rows
    → Run engine.Aggregating functions rows out → All (TakesRow types functions) out × AreRowsOf own out
aggregating_stays types functions own rows out some taken typed h = (
  All-same (TakesRow types functions) out (h.row ∷ []) h.out_is (All-cons (TakesRow types functions) h.row [] (left, even) (All-nil (TakesRow types functions))),
  All-same (λ r. types_of r ≡ own) out (h.row ∷ []) h.out_is (All-cons (λ r. types_of r ≡ own) h.row [] (left ∙ same) (All-nil (λ r. types_of r ≡ own))),
)
  where
    even : length functions ≡ length types
    even = (taken 0 [] some).1

    left : types_of h.row ≡ types
    left = left_types types functions even rows h.row (taken_types types functions rows taken) h.aggregates

    same : types ≡ own
    same = sym (taken 0 [] some).0 ∙ typed 0 [] some

-- ---- columns without a function keep their first value

pub values_same : (places : List ℕ) (a b : Row) → All (λ place. slice_get a place ≡ slice_get b place) places → key_of places a ≡ key_of places b
values_same [] a b same = refl
values_same (place ∷ places) a b same =
    ap₂ cons_option (All-head (λ p. slice_get a p ≡ slice_get b p) place places same) (values_same places a b (All-tail (λ p. slice_get a p ≡ slice_get b p) place places same))

module _ (types : List ColType) (functions : List (Option Aggregate)) (even : length functions ≡ length types) (first : Row) (own : types_of first ≡ types) (rows : List Row) (row : Row) (h : AreAggregatesFrom 0 functions (first ∷ rows) row) where
  pub first_kept : (place : ℕ) → slice_get functions place ≡ Some None → slice_get row place ≡ slice_get first place
  first_kept place none = slice_get-get_or row place no_value within ∙ ap Some same ∙ sym (slice_get-get_or first place no_value in_first)
    where
      below : place < length functions
      below = slice_get_within functions place None none

      within : place < length row
      within = omega (arith, aggregates_length 0 functions (first ∷ rows) row h, below)

      in_first : place < length first
      in_first = omega (arith, length-map first type_of, ap length own, below)

      function : get_or functions place None ≡ None
      function = get_or_from_slice_get functions place None None none

      any : IsAggregateOf aggregate.Any (column_of place (first ∷ rows)) (get_or row place no_value)
      any = subst (λ f. IsAggregateOf (function_or_first f) (column_of place (first ∷ rows)) (get_or row place no_value)) function (aggregate_at functions (first ∷ rows) row h place below)

      same : get_or row place no_value ≡ get_or first place no_value
      same = let e : get_or first place no_value ∷ column_of place rows ≡ get_or row place no_value ∷ any.0 = sym (column_of_one place first rows in_first) ∙ any.1 in cc

aggregates_keep : (types : List ColType) (functions : List (Option Aggregate)) (places : List ℕ) (key : List Value) (rows out : List Row) → All (λ place. slice_get functions place ≡ Some None) places
    → 0 < length rows → All (TakesRow types functions) rows → All (λ r. key_of places r ≡ key) rows → LeavesAggregates functions rows out → All (λ r. key_of places r ≡ key) out
aggregates_keep types functions places key [] out apart some taken same h = absurd (omega arith)
aggregates_keep types functions places key (first ∷ rows) out apart some taken same h =
    let own = All-head (TakesRow types functions) first rows taken in
    All-same (λ r. key_of places r ≡ key) out (h.row ∷ []) h.out_is
    (All-cons (λ r. key_of places r ≡ key) h.row []
    (values_same places h.row first
    (All-weaker (λ place. slice_get functions place ≡ Some None) (λ place. slice_get h.row place ≡ slice_get first place) (first_kept types functions own.1 first own.0 rows h.row h.aggregates) places apart)
    ∙ All-head (λ r. key_of places r ≡ key) first rows same)
    (All-nil (λ r. key_of places r ≡ key)))

pub aggregating_keeps : (types : List ColType) (functions : List (Option Aggregate)) (places : List ℕ) (key : List Value) (rows out : List Row) → All (λ place. slice_get functions place ≡ Some None) places
    → 0 < length rows → All (TakesRow types functions) rows → All (λ r. key_of places r ≡ key) rows → Run engine.Aggregating functions rows out → All (λ r. key_of places r ≡ key) out
aggregating_keeps types functions places key rows out apart some taken same h = aggregates_keep types functions places key rows out apart some taken same h
