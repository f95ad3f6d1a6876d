-- The number that decimal digits say, digit by digit.
use Rattle.std.proofs.Common.{◌≡◌, ℕ, ◌+◌, ◌-◌, ◌*◌, ◌<◌, ◌≤◌, Bool, true, false, ◌&&◌, leb, List, [], ◌∷◌, ◌++◌, ◌^◌, length, get_or, take, drop, fold, Option, Some, None, if◌then◌else◌, refl, sym, ap, ap₂, ◌∙◌, arith}
use Rattle.std.proofs.Math.Nat.{pow-le-pow_right}
use Rattle.std.proofs.lemmas.Nat.{pow-add}
use Rattle.std.proofs.lemmas.List.{drop_more, take_all, take_more, take-append-drop}
use Rattle.std.proofs.lemmas.List.Folds.{list_all-append}
use Rattle.std.proofs.lemmas.List.Sums.{fold-append}
use Rattle.std.proofs.lemmas.Bool.Decides.{nat_tests}
use Rattle.std.specs.Char.{is_ascii_digit}
use Rattle.std.specs.List.{list_all}
use Rattle.mt_values.specs.Rows.{digits_up_to, number_of}
use Rattle.tsv_fields.specs.Numbers.{number_in, with_digit}

-- the number that digits say after those of another number
abbrev pub number_after : ℕ → List ℕ → ℕ
number_after n digits = fold (λ n b. n * 10 + (b - 48)) n digits

-- the same up to a greatest one
abbrev pub digits_after : ℕ → ℕ → List ℕ → Option ℕ
digits_after most n digits = if list_all is_ascii_digit digits && leb (number_after n digits) most then Some (number_after n digits) else None

-- a number only grows
number_after-le : (n : ℕ) (digits : List ℕ) → n ≤ number_after n digits
number_after-le n [] = omega arith
number_after-le n (b ∷ bs) = omega (arith, number_after-le (n * 10 + (b - 48)) bs)

goes_on : (digit fits : Bool) (m n most : ℕ) (bs : List ℕ) → (if digit && fits then Some m else None) ≡ Some n →
    digits_after most n bs ≡ (if (digit && list_all is_ascii_digit bs) && leb (number_after m bs) most then Some (number_after m bs) else None)
goes_on false fits m n most bs e = cc
goes_on true false m n most bs e = cc
goes_on true true m n most bs e = let same : m ≡ n = cc in rw same refl

ends : (digit : Bool) (m most : ℕ) (bs : List ℕ) → (if digit && leb m most then Some m else None) ≡ None →
    (if (digit && list_all is_ascii_digit bs) && leb (number_after m bs) most then Some (number_after m bs) else None) ≡ None
ends false m most bs e = refl
ends true m most bs e = grind (arith, nat_tests, number_after-le m bs)

module _ (most n : ℕ) (digits : List ℕ) (i : ℕ) (within : i < length digits) where
  -- the digit at this place goes on with the number
  pub digits_more : (m : ℕ) → Some m ≡ with_digit most n (get_or digits i 0) → digits_after most m (drop (i + 1) digits) ≡ digits_after most n (drop i digits)
  digits_more m e =
      let b = get_or digits i 0 in
      rw (drop_more digits i 0 within) (goes_on (is_ascii_digit b) (leb (n * 10 + (b - 48)) most) (n * 10 + (b - 48)) m most (drop (i + 1) digits) (sym e))

  -- it is no digit, or the number is too great
  pub digits_none : None ≡ with_digit most n (get_or digits i 0) → digits_after most n (drop i digits) ≡ None
  digits_none e =
      let b = get_or digits i 0 in
      rw (drop_more digits i 0 within) (ends (is_ascii_digit b) (n * 10 + (b - 48)) most (drop (i + 1) digits) (sym e))

-- ---- the first few digits, whose number is below 2^64

-- the number that the first digits say goes on with the others
pub digits_split : (most : ℕ) (digits : List ℕ) (first n : ℕ) → Some n ≡ number_in (take first digits) → digits_after most n (drop first digits) ≡ digits_after most 0 digits
digits_split most digits first n is = by (list_all is_ascii_digit (take first digits)) refl
  where
    front : List ℕ
    front = take first digits

    rest : List ℕ
    rest = drop first digits

    by : (c : Bool) → list_all is_ascii_digit (take first digits) ≡ c → digits_after most n (drop first digits) ≡ digits_after most 0 digits
    by true all =
        let number : n ≡ number_of (take first digits) = let told = rw all at is in cc in
        let whole : digits ≡ take first digits ++ drop first digits = sym (take-append-drop first digits) in
        let each : list_all is_ascii_digit digits ≡ list_all is_ascii_digit (drop first digits) =
        ap (list_all is_ascii_digit) whole ∙ list_all-append is_ascii_digit (take first digits) (drop first digits) ∙ ap (λ c. c && list_all is_ascii_digit (drop first digits)) all in
        let last : number_after 0 digits ≡ number_after n (drop first digits) =
        ap (number_after 0) whole ∙ fold-append (λ m b. m * 10 + (b - 48)) 0 (take first digits) (drop first digits) ∙ ap (λ m. number_after m (drop first digits)) (sym number) in
        rw (each, last) refl
    by false some = let told = rw some at is in cc

-- a byte among the first is no digit
digits_refused : (most : ℕ) (digits : List ℕ) (first : ℕ) → None ≡ number_in (take first digits) → digits_after most 0 digits ≡ None
digits_refused most digits first is = by (list_all is_ascii_digit (take first digits)) refl
  where
    by : (c : Bool) → list_all is_ascii_digit (take first digits) ≡ c → digits_after most 0 digits ≡ None
    by true all = let told = rw all at is in cc
    by false some =
        let whole : digits ≡ take first digits ++ drop first digits = sym (take-append-drop first digits) in
        let each : list_all is_ascii_digit digits ≡ false =
        ap (list_all is_ascii_digit) whole ∙ list_all-append is_ascii_digit (take first digits) (drop first digits) ∙ ap (λ c. c && list_all is_ascii_digit (drop first digits)) some in
        rw each refl

pub up_to_refused : (most : ℕ) (digits : List ℕ) (first : ℕ) → None ≡ number_in (take first digits) → None ≡ digits_up_to most digits
up_to_refused most [] first is = refl
up_to_refused most (b ∷ bs) first is = sym (digits_refused most (b ∷ bs) first is)

-- these first bytes are digits and say the number, which has no more digits than they are
pub record SaidBy (digits : List ℕ) (i n : ℕ) : Type 0 where
  pub all : list_all is_ascii_digit (take i digits) ≡ true
  pub number : n ≡ number_of (take i digits)
  pub below : n < 10 ^ i

pub said_none : (digits : List ℕ) → SaidBy digits 0 0
said_none digits = record { all = refl; number = refl; below = omega arith }

-- so one digit more makes no number that passes 64 bits
pub said_small : (digits : List ℕ) (i n : ℕ) → SaidBy digits i n → i < 19 → n * 10 + 9 < 18446744073709551616
said_small digits i n said few =
    let cap : 10 ^ i ≤ 1000000000000000000 = pow-le-pow_right {n = 10} (omega arith) {i = i} {j = 18} (omega arith) in
    omega (arith, said.below)

pub digit_small : (b : ℕ) → is_ascii_digit b ≡ true → b - 48 ≤ 9
digit_small b digit = grind (arith, nat_tests)

pub said_more : (digits : List ℕ) (i n : ℕ) → SaidBy digits i n → i < length digits → is_ascii_digit (get_or digits i 0) ≡ true → SaidBy digits (i + 1) (n * 10 + (get_or digits i 0 - 48))
said_more digits i n said within digit =
    let b = get_or digits i 0 in
    let more : take (i + 1) digits ≡ take i digits ++ b ∷ [] = take_more digits i 0 within in
    let high = digit_small b digit in
    let power : 10 ^ (i + 1) ≡ 10 ^ i * 10 = pow-add 10 i 1 in
    record {
      all = ap (list_all is_ascii_digit) more ∙ list_all-append is_ascii_digit (take i digits) (b ∷ []) ∙ ap₂ (λ c d. c && (d && true)) said.all digit;
      number = ap (λ m. m * 10 + (b - 48)) said.number ∙ sym (ap number_of more ∙ fold-append (λ m x. m * 10 + (x - 48)) 0 (take i digits) (b ∷ []));
      below = omega (arith, said.below, high, power);
    }

pub said_all : (digits : List ℕ) (i n : ℕ) → SaidBy digits i n → length digits ≤ i → Some n ≡ number_in digits
said_all digits i n said end =
    let whole : take i digits ≡ digits = take_all i digits end in
    let each : list_all is_ascii_digit digits ≡ true = ap (list_all is_ascii_digit) (sym whole) ∙ said.all in
    rw each (ap Some (said.number ∙ ap number_of whole))

-- a byte that is no digit
pub said_refused : (digits : List ℕ) (i : ℕ) → i < length digits → is_ascii_digit (get_or digits i 0) ≡ false → None ≡ number_in digits
said_refused digits i within no_digit =
    let b = get_or digits i 0 in
    let parts : digits ≡ take i digits ++ b ∷ drop (i + 1) digits = sym (take-append-drop i digits) ∙ ap (λ l. take i digits ++ l) (drop_more digits i 0 within) in
    let each : list_all is_ascii_digit digits ≡ (list_all is_ascii_digit (take i digits) && (is_ascii_digit b && list_all is_ascii_digit (drop (i + 1) digits))) =
    ap (list_all is_ascii_digit) parts ∙ list_all-append is_ascii_digit (take i digits) (b ∷ drop (i + 1) digits) in
    let none : list_all is_ascii_digit digits ≡ false = each ∙ ap (λ d. list_all is_ascii_digit (take i digits) && (d && list_all is_ascii_digit (drop (i + 1) digits))) no_digit ∙ never (list_all is_ascii_digit (take i digits)) in
    rw none refl
  where
    never : (c : Bool) → (c && false) ≡ false
    never true = refl
    never false = refl
