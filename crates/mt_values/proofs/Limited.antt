-- The number that decimal digits say, up to a limit, digit by digit.
use Rattle.std.proofs.Common.{◌≡◌, ℕ, ◌+◌, ◌-◌, ◌*◌, ◌<◌, min, List, length, take, get_or, ap, sym, ◌∙◌, arith}
use Rattle.std.proofs.lemmas.List.Sums.{fold_more}
use Rattle.mt_values.specs.Rows.{number_of, number_within}

-- a number that is cut off stays so with more digits
cut_off : (limit n d : ℕ) → min limit (min limit n * 10 + d) ≡ min limit (n * 10 + d)
cut_off limit n d = omega arith

-- the digit at this place goes on with the number
pub limited_more : (limit n i : ℕ) (digits : List ℕ) → i < length digits → n ≡ number_within limit (take i digits)
    → min limit (n * 10 + (get_or digits i 0 - 48)) ≡ number_within limit (take (i + 1) digits)
limited_more limit n i digits within is =
    ap (λ m. min limit (m * 10 + (get_or digits i 0 - 48))) is
    ∙ (cut_off limit (number_of (take i digits)) (get_or digits i 0 - 48)
    ∙ ap (min limit) (sym (fold_more (λ m b. m * 10 + (b - 48)) 0 digits i 0 within)))
