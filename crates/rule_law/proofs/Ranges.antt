-- What folds make of values within the ranges of their types is within them.
use Rattle.std.proofs.Common.{◌≡◌, ℕ, ℤ, pos, negsuc, ◌+◌, ◌*◌, ◌<◌, ◌+ℤ◌, ◌∙◌, ◌^◌, ◌%◌, Bool, true, false, List, [], ◌∷◌, ◌++◌, Option, None, Some, refl, sym, ap, subst, arith, slice_get, unsigned_abs}
use Rattle.std.proofs.Math.IntN.{+ℤ_idr}
use Rattle.std.proofs.Math.Nat.{mod-lt}
use Rattle.std.specs.Int.{int_rem_euclid, int_wrap, w8, w16, w32, w64}
use Rattle.std.specs.Int.Bits.{and_lt, bit_and, bit_or, bit_xor}
use Rattle.std.specs.List.{All, Contains, cons_option, fold, reduce}
use Rattle.std.proofs.lemmas.Int.{SFits-int_wrap, int_rem_euclid_is, int_wrap_fits, ints}
use Rattle.std.proofs.lemmas.Nat.{or_lt, xor_lt}
use Rattle.std.proofs.lemmas.List.Elements.{All-cons, All-contains, All-head, All-nil, All-tail, Contains-append_right}
use Rattle.std.proofs.lemmas.Option.{get_or_from_slice_get, slice_get_within}
use Rattle.mt_values.specs.declared.engine.Aggregate.{Aggregate}
use Rattle.mt_values.specs.declared.engine.Aggregate.TheVariants as aggregate
use Rattle.mt_values.specs.declared.value.Value.{Value}
use Rattle.mt_values.specs.declared.value.Value.TheVariants as value
use Rattle.mt_values.specs.Grid.{column_of}
use Rattle.mt_values.specs.Values.{FitsType, Row}
use Rattle.mt_model.specs.Rules.{AreAggregatesFrom, IsAggregateOf, function_or_first, is_one_of, joined_bits, summed, total, with_sums_from, wrapped_as}

-- ---- numbers

-- what is left at a width is below its power
rest_below : (n : ℕ) (z : ℤ) → 0 < n → unsigned_abs (int_rem_euclid z (pos n)) < n
rest_below n (pos a) some = mod-lt a some
rest_below n (negsuc a) some = let rest : a % n < n = mod-lt a some in omega (arith, rest, some)

pub wrapped_fits : (v : Value) (z : ℤ) → FitsType (wrapped_as v z)
wrapped_fits (value.UInt8 n) z = rest_below (2 ^ 8) z (omega arith)
wrapped_fits (value.UInt16 n) z = rest_below (2 ^ 16) z (omega arith)
wrapped_fits (value.UInt32 n) z = rest_below (2 ^ 32) z (omega arith)
wrapped_fits (value.UInt64 n) z = rest_below (2 ^ 64) z (omega arith)
wrapped_fits (value.Int8 n) z = SFits-int_wrap w8 z
wrapped_fits (value.Int16 n) z = SFits-int_wrap w16 z
wrapped_fits (value.Int32 n) z = SFits-int_wrap w32 z
wrapped_fits (value.Int64 n) z = SFits-int_wrap w64 z
wrapped_fits (value.Text bytes) z = tt

-- the lowest bits of what is not below 0
low_of_sum : (n a b : ℕ) → 0 < n → unsigned_abs (int_rem_euclid (pos a +ℤ pos b) (pos n)) ≡ (a + b) % n
low_of_sum n a b some = ap unsigned_abs (int_rem_euclid_is (pos a +ℤ pos b) (pos n) n 0 (a + b) some refl (no_more a b (0 * n) (omega arith)))
  where
    no_more : (a b m : ℕ) → m ≡ 0 → (pos a +ℤ pos b) +ℤ pos m ≡ pos (a + b)
    no_more a b m e = omega (arith, ints)

-- a value of its type's range is its own sum
pub sum_of_one : (v : Value) → FitsType v → v ≡ wrapped_as v (total (v ∷ []))
sum_of_one (value.UInt8 n) fits = ap value.UInt8 (sym (low_of_sum (2 ^ 8) n 0 (omega arith) ∙ omega arith))
sum_of_one (value.UInt16 n) fits = ap value.UInt16 (sym (low_of_sum (2 ^ 16) n 0 (omega arith) ∙ omega arith))
sum_of_one (value.UInt32 n) fits = ap value.UInt32 (sym (low_of_sum (2 ^ 32) n 0 (omega arith) ∙ omega arith))
sum_of_one (value.UInt64 n) fits = ap value.UInt64 (sym (low_of_sum (2 ^ 64) n 0 (omega arith) ∙ omega arith))
sum_of_one (value.Int8 z) fits = ap value.Int8 (sym (ap (int_wrap w8) (+ℤ_idr z) ∙ int_wrap_fits w8 z fits))
sum_of_one (value.Int16 z) fits = ap value.Int16 (sym (ap (int_wrap w16) (+ℤ_idr z) ∙ int_wrap_fits w16 z fits))
sum_of_one (value.Int32 z) fits = ap value.Int32 (sym (ap (int_wrap w32) (+ℤ_idr z) ∙ int_wrap_fits w32 z fits))
sum_of_one (value.Int64 z) fits = ap value.Int64 (sym (ap (int_wrap w64) (+ℤ_idr z) ∙ int_wrap_fits w64 z fits))
sum_of_one (value.Text bytes) fits = refl

-- numbers of this many bits are joined to such a number
abbrev StaysWithin : (ℕ → ℕ → ℕ) → Type 0
StaysWithin join = (bits a b : ℕ) → a < 2 ^ bits → b < 2 ^ bits → join a b < 2 ^ bits

joined_fits : (join : ℕ → ℕ → ℕ) → StaysWithin join → (v w : Value) → FitsType v → FitsType w → FitsType (joined_bits join v w)
joined_fits join within (value.UInt8 a) (value.UInt8 b) own other = within 8 a b own other
joined_fits join within (value.UInt16 a) (value.UInt16 b) own other = within 16 a b own other
joined_fits join within (value.UInt32 a) (value.UInt32 b) own other = within 32 a b own other
joined_fits join within (value.UInt64 a) (value.UInt64 b) own other = within 64 a b own other
joined_fits join within v w own other = own

fold_fits : (join : ℕ → ℕ → ℕ) → StaysWithin join → (v : Value) (values : List Value) → FitsType v → All FitsType values → FitsType (fold (joined_bits join) v values)
fold_fits join within v [] own all = own
fold_fits join within v (w ∷ values) own all =
    fold_fits join within (joined_bits join v w) values (joined_fits join within v w own (All-head FitsType w values all)) (All-tail FitsType w values all)

none_left : (v : Value) → None ≡ Some v → ⊥
none_left v e = cc

bits_fit : (join : ℕ → ℕ → ℕ) → StaysWithin join → (values : List Value) (v : Value) → All FitsType values → reduce (joined_bits join) values ≡ Some v → FitsType v
bits_fit join within [] v all h = absurd (none_left v h)
bits_fit join within (first ∷ values) v all h =
    let made : fold (joined_bits join) first values ≡ v = cc in
    subst FitsType made (fold_fits join within first values (All-head FitsType first values all) (All-tail FitsType first values all))

-- ---- values

-- what holds of all items holds of one that stands among them
pub among : {X : Type 0} (P : X → Type 0) (earlier : List X) (x : X) (later xs : List X) → xs ≡ earlier ++ x ∷ later → All P xs → P x
among P earlier x later xs is all =
    All-contains P xs x all (subst (λ zs. Contains zs x) (sym is) (Contains-append_right earlier (x ∷ later) x (0, omega arith, refl)))

pub aggregate_fits : (function : Aggregate) (values : List Value) (v : Value) → All FitsType values → IsAggregateOf function values v → FitsType v
aggregate_fits aggregate.Any values v all h = among FitsType [] v h.0 values h.1 all
aggregate_fits aggregate.AnyLast values v all h = among FitsType h.0 v [] values h.1 all
aggregate_fits aggregate.Min values v all h = among FitsType h.earlier v h.later values h.values_are all
aggregate_fits aggregate.Max values v all h = among FitsType h.earlier v h.later values h.values_are all
aggregate_fits aggregate.Sum values v all h = subst FitsType (sym h.3) (wrapped_fits h.0 (total values))
aggregate_fits aggregate.BitAnd values v all h = bits_fit bit_and and_lt values v all h
aggregate_fits aggregate.BitOr values v all h = bits_fit bit_or or_lt values v all h
aggregate_fits aggregate.BitXor values v all h = bits_fit bit_xor xor_lt values v all h

-- ---- rows

summed_fits : (b : Bool) (v : Value) (column : List Value) → FitsType v → FitsType (summed b v column)
summed_fits true v column own = wrapped_fits v (total column)
summed_fits false v column own = own

pub sums_fit : (place : ℕ) (places : List ℕ) (rows : List Row) (row : Row) → All FitsType row → All FitsType (with_sums_from place places rows row)
sums_fit place places rows [] all = All-nil FitsType
sums_fit place places rows (v ∷ vs) all =
    All-cons FitsType (summed (is_one_of places place) v (column_of place rows)) (with_sums_from (place + 1) places rows vs)
    (summed_fits (is_one_of places place) v (column_of place rows) (All-head FitsType v vs all))
    (sums_fit (place + 1) places rows vs (All-tail FitsType v vs all))

column_fits : (place : ℕ) (rows : List Row) → All (λ (row : Row). All FitsType row) rows → All FitsType (column_of place rows)
column_fits place [] all = All-nil FitsType
column_fits place (row ∷ rows) all = by (slice_get row place) refl (column_fits place rows (All-tail (λ (r : Row). All FitsType r) row rows all))
  where
    own : All FitsType row
    own = All-head (λ (r : Row). All FitsType r) row rows all

    by : (found : Option Value) → slice_get row place ≡ found → All FitsType (column_of place rows) → All FitsType (cons_option found (column_of place rows))
    by None e rest = rest
    by (Some v) e rest =
        All-cons FitsType v (column_of place rows) (subst FitsType (get_or_from_slice_get row place v v e) (own place v (slice_get_within row place v e))) rest

pub aggregates_fit : (place : ℕ) (functions : List (Option Aggregate)) (rows : List Row) (row : Row) → All (λ (r : Row). All FitsType r) rows → AreAggregatesFrom place functions rows row → All FitsType row
aggregates_fit place [] rows row all h = subst (All FitsType) (sym h) (All-nil FitsType)
aggregates_fit place (function ∷ functions) rows row all h =
    subst (All FitsType) (sym h.2)
    (All-cons FitsType h.0 h.1 (aggregate_fits (function_or_first function) (column_of place rows) h.0 (column_fits place rows all) h.3) (aggregates_fit (place + 1) functions rows h.1 all h.4))
