-- Numbers, and the digits that spell them.
use Rattle.std.proofs.Common.{◌≡◌, ℕ, ◌+◌, ◌*◌, ◌<◌, ◌≤◌, ◌^◌, List, length, get_or, take, refl, sym, ap, ◌∙◌, subst, inl, inr, arith}
use Rattle.std.specs.Char.{digit_value}
use Rattle.std.specs.Fmt.{decimal}
use Rattle.std.specs.Str.Parse.{AllDigits, digits_value}
use Rattle.std.proofs.lemmas.Bool.{cases_lt}
use Rattle.std.proofs.lemmas.List.{take_all}
use Rattle.std.proofs.lemmas.Str.{digit_value_digit}
use Rattle.std.proofs.lemmas.Str.Parse.{numerals_by_value, tells_digits, digits_value-take-le, digit_at}
use Rattle.std.proofs.lemmas.Int.Digits.{digits_value_more, digits_more}
use Rattle.std.proofs.lemmas.Fmt.{decimal_is_IsNumeral, decimal_digit, first_decimal, decimal-digits_value}
use Rattle.part_name.specs.Fields.{BeginsNumber}

-- a number begins as its text does
pub decimal_begins : (n : ℕ) → n < 2 ^ 64 → BeginsNumber (decimal n)
decimal_begins n small = (
  (decimal_is_IsNumeral n small).0.0,
  λ first.
      elim (cases_lt 0 n) [
        | inl some ↦ absurd (omega (arith, first_decimal n some small, first))
        | inr none ↦ (
            let same : n ≡ 0 = omega arith in
            ap length (ap decimal same ∙ decimal_digit 0 (omega arith))
            )
      ],
)

-- the first digits were read as a number
pub record ReadsFront (most : ℕ) (digits : List ℕ) (i number : ℕ) : Type 0 where
  pub all : AllDigits 10 (take i digits)
  pub value : digits_value 10 (take i digits) ≡ number
  pub within : number ≤ most

module _ (most : ℕ) (digits : List ℕ) (i number : ℕ) (front : ReadsFront most digits i number) (inside : i < length digits) where
  value_more : digits_value 10 (take (i + 1) digits) ≡ number * 10 + digit_value (get_or digits i 0)
  value_more = digits_value_more 10 digits i inside ∙ ap (λ n. n * 10 + digit_value (get_or digits i 0)) front.value

  -- the next digit was read
  pub front_more : (digit_value (get_or digits i 0) < 10) × (number * 10 + digit_value (get_or digits i 0) ≤ most) → ReadsFront most digits (i + 1) (number * 10 + digit_value (get_or digits i 0))
  front_more goes_on =
      record {
        all = digits_more 10 digits i inside front.all goes_on.0;
        value = value_more;
        within = goes_on.1;
      }

  -- where the next byte goes on with no number in the bounds, the text spells none
  pub front_stops : ((digit_value (get_or digits i 0) < 10) × (number * 10 + digit_value (get_or digits i 0) ≤ most) → ⊥) → (n : ℕ) → n < 2 ^ 64 → n ≤ most → decimal n ≡ digits → ⊥
  front_stops stops n small within spells =
      let is_numeral = decimal_is_IsNumeral n small in
      let all : AllDigits 10 digits = subst (AllDigits 10) spells is_numeral.0.1 in
      let value : digits_value 10 digits ≡ n = ap (digits_value 10) (sym spells) ∙ is_numeral.1 in
      let digit = digit_at digits i all inside in
      let least : digits_value 10 (take (i + 1) digits) ≤ digits_value 10 digits = digits_value-take-le 10 digits (i + 1) (omega arith) in
      stops (omega (arith, digit, digit_value_digit (get_or digits i 0) digit), omega (arith, value_more, value, least, within))

-- no digit was read
pub front_none : (most : ℕ) (digits : List ℕ) → ReadsFront most digits 0 0
front_none most digits = record { all = tt; value = refl; within = omega arith }

-- all digits were read
module _ (most : ℕ) (digits : List ℕ) (i number : ℕ) (front : ReadsFront most digits i number) (end : length digits ≤ i) where
  whole : take i digits ≡ digits
  whole = take_all i digits end

  -- they spell the number
  pub front_all : most < 2 ^ 64 → BeginsNumber digits → decimal number ≡ digits
  front_all small begins =
      let all : AllDigits 10 digits = subst (AllDigits 10) whole front.all in
      let value : digits_value 10 digits ≡ number = ap (digits_value 10) (sym whole) ∙ front.value in
      ap decimal (sym value) ∙ decimal-digits_value (numerals_by_value (AllDigits 10) tells_digits) digits all begins.0 begins.1 (omega (arith, value, front.within))

  -- and no other
  pub front_only : (n : ℕ) → n < 2 ^ 64 → decimal n ≡ digits → number ≡ n
  front_only n small spells = sym front.value ∙ ap (digits_value 10) (whole ∙ sym spells) ∙ (decimal_is_IsNumeral n small).1
