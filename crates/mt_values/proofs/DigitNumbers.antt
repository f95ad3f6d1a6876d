-- Numbers of any length that digits say, and whether types have them.
use Rattle.std.proofs.Common.{◌≡◌, ℕ, suc, zero, ◌+◌, ◌-◌, ◌*◌, ◌<◌, ◌≤◌, ◌^◌, Bool, true, false, List, [], ◌∷◌, length, get_or, drop, fold, Some, None, pos, refl, sym, arith}
use Rattle.std.proofs.lemmas.List.{drop_all, drop_more}
use Rattle.std.proofs.lemmas.Bool.Decides.{nat_tests}
use Rattle.mt_values.specs.declared.value.ColType.{ColType}
use Rattle.mt_values.specs.declared.value.ColType.TheVariants as type
use Rattle.mt_values.specs.Literals.{integer_below, natural_below, number_value, signed}
use Rattle.mt_values.specs.Rows.{number_of}

-- the number that digits say after those of another number
abbrev pub number_after : ℕ → List ℕ → ℕ
number_after n digits = fold (λ n b. n * 10 + (b - 48)) n digits

-- a number only grows
number_after-le : (n : ℕ) (digits : List ℕ) → n ≤ number_after n digits
number_after-le n [] = omega arith
number_after-le n (b ∷ bs) = omega (arith, number_after-le (n * 10 + (b - 48)) bs)

-- ---- a number below a bound is itself

is_itself : (end n m : ℕ) → Some m ≡ natural_below end (pos n) → m ≡ n
is_itself end n m e = grind (arith, nat_tests)

is_above : (end n : ℕ) → None ≡ natural_below end (pos n) → end ≤ n
is_above end n e = grind (arith, nat_tests)

is_below : (end n m : ℕ) → Some m ≡ natural_below end (pos n) → m < end
is_below end n m e = grind (arith, nat_tests)

below_is : (end n : ℕ) → n < end → Some n ≡ natural_below end (pos n)
below_is end n h = grind (arith, nat_tests)

above_is : (end n : ℕ) → end ≤ n → None ≡ natural_below end (pos n)
above_is end n h = grind (arith, nat_tests)

module _ (end n : ℕ) (digits : List ℕ) (i : ℕ) (within : i < length digits) where
  -- the digit at this place goes on with the number
  pub digits_go_on : (m : ℕ) → Some m ≡ natural_below end (pos (n * 10 + (get_or digits i 0 - 48)))
      → number_after m (drop (i + 1) digits) ≡ number_after n (drop i digits)
  digits_go_on m e =
      rw (is_itself end (n * 10 + (get_or digits i 0 - 48)) m e, drop_more digits i 0 within) refl

  -- with it the number is too great, and stays so
  pub digits_too_many : number_after n (drop i digits) ≡ number_of digits
      → None ≡ natural_below end (pos (n * 10 + (get_or digits i 0 - 48))) → None ≡ natural_below end (pos (number_of digits))
  digits_too_many same e =
      let more : end ≤ n * 10 + (get_or digits i 0 - 48) = is_above end (n * 10 + (get_or digits i 0 - 48)) e in
      let grows = number_after-le (n * 10 + (get_or digits i 0 - 48)) (drop (i + 1) digits) in
      let whole : number_after (n * 10 + (get_or digits i 0 - 48)) (drop (i + 1) digits) ≡ number_of digits = rw (drop_more digits i 0 within) at same in
      above_is end (number_of digits) (omega arith)

  pub digits_fit : (m : ℕ) → Some m ≡ natural_below end (pos (n * 10 + (get_or digits i 0 - 48))) → m < end
  digits_fit m e = is_below end (n * 10 + (get_or digits i 0 - 48)) m e

-- no digit is left
pub digits_end : (end n : ℕ) (digits : List ℕ) (i : ℕ) → length digits ≤ i → number_after n (drop i digits) ≡ number_of digits
    → n < end → Some n ≡ natural_below end (pos (number_of digits))
digits_end end n digits i over same fits =
    let whole : n ≡ number_of digits = rw (drop_all i digits over) at same in
    rw (← whole) (below_is end n fits)

pub ruleset digit_by_digit = (digits_end, digits_fit, digits_go_on, digits_too_many)

-- ---- no type has a number that 64 bits don't hold

no_natural : (end limit n : ℕ) (negative : Bool) → end ≤ limit → limit ≤ n → 0 < limit → natural_below end (signed negative n) ≡ None
no_natural end limit n false small great some = sym (above_is end n (omega arith))
no_natural end limit zero true small great some = absurd (omega arith)
no_natural end limit (suc n) true small great some = refl

no_integer : (end limit n : ℕ) (negative : Bool) → end < limit → limit ≤ n → integer_below end (signed negative n) ≡ None
no_integer end limit n false small great = grind (arith, nat_tests)
no_integer end limit zero true small great = absurd (omega arith)
no_integer end limit (suc n) true small great = grind (arith, nat_tests)

pub no_value : (t : ColType) (negative : Bool) (n : ℕ) → None ≡ natural_below (2 ^ 64) (pos n) → None ≡ number_value t (signed negative n)
no_value type.UInt8 negative n e = rw (no_natural (2 ^ 8) (2 ^ 64) n negative (omega arith) (is_above (2 ^ 64) n e) (omega arith)) refl
no_value type.UInt16 negative n e = rw (no_natural (2 ^ 16) (2 ^ 64) n negative (omega arith) (is_above (2 ^ 64) n e) (omega arith)) refl
no_value type.UInt32 negative n e = rw (no_natural (2 ^ 32) (2 ^ 64) n negative (omega arith) (is_above (2 ^ 64) n e) (omega arith)) refl
no_value type.UInt64 negative n e = rw (no_natural (2 ^ 64) (2 ^ 64) n negative (omega arith) (is_above (2 ^ 64) n e) (omega arith)) refl
no_value type.Int8 negative n e = rw (no_integer (2 ^ 7) (2 ^ 64) n negative (omega arith) (is_above (2 ^ 64) n e)) refl
no_value type.Int16 negative n e = rw (no_integer (2 ^ 15) (2 ^ 64) n negative (omega arith) (is_above (2 ^ 64) n e)) refl
no_value type.Int32 negative n e = rw (no_integer (2 ^ 31) (2 ^ 64) n negative (omega arith) (is_above (2 ^ 64) n e)) refl
no_value type.Int64 negative n e = rw (no_integer (2 ^ 63) (2 ^ 64) n negative (omega arith) (is_above (2 ^ 64) n e)) refl
no_value type.Text negative n e = refl
