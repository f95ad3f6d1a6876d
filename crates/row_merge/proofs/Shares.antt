-- What is read ahead, divided among the columns of all parts.
use Rattle.std.proofs.Common.{◌≡◌, ◌⊎◌, inl, inr, ℕ, ◌-◌, ◌*◌, ◌/◌, ◌^◌, ◌<◌, ◌≤◌, max, min, ap, ◌∙◌, subst, arith, div-mul-le_self, le_trans, mul-le-mul_left, zero-mul}
use Rattle.std.proofs.lemmas.Bool.{cases_lt}
use Rattle.row_merge.specs.Streams.{share}

-- fewer have less together
fewer_less : (each many n whole : ℕ) → each * many ≤ whole → n ≤ many → each * n ≤ whole
fewer_less each many n whole fits few = le_trans (mul-le-mul_left each few) fits

-- each of more than there are bytes has none
none_each : (each many : ℕ) → each * many ≤ 2 ^ 24 → many ≡ 2 ^ 64 - 1 → each ≡ 0
none_each each many fits is =
    let more : each * 18446744073709551615 ≤ 16777216 = subst (λ n. each * n ≤ 16777216) is fits in
    omega (arith, more)

-- all shares together are no more than is read ahead
pub share_within : (parts columns : ℕ) → share parts columns * (parts * columns) ≤ 2 ^ 24
share_within parts columns = by (cases_lt (parts * columns) (2 ^ 64))
  where
    many : ℕ
    many = max (min (parts * columns) (2 ^ 64 - 1)) 1

    fits : 2 ^ 24 / many * many ≤ 2 ^ 24
    fits = div-mul-le_self (2 ^ 24) many

    by : (parts * columns < 2 ^ 64) ⊎ (2 ^ 64 ≤ parts * columns) → 2 ^ 24 / many * (parts * columns) ≤ 2 ^ 24
    by (inl below) = let few : parts * columns ≤ many = omega (arith, below) in fewer_less (2 ^ 24 / many) many (parts * columns) (2 ^ 24) fits few
    by (inr high) =
        let most : many ≡ 2 ^ 64 - 1 = omega (arith, high) in
        let none : 2 ^ 24 / many * (parts * columns) ≡ 0 = ap (λ n. n * (parts * columns)) (none_each (2 ^ 24 / many) many fits most) ∙ zero-mul (parts * columns) in
        omega (arith, none)
