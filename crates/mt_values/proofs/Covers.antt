-- How many granules cover a number of values.
use Rattle.std.proofs.Common.{◌≡◌, ◌⊎◌, ℕ, suc, ◌+◌, ◌*◌, ◌<◌, ◌≤◌, inl, inr, arith, mul-le-mul_right, suc-mul}
use Rattle.std.proofs.lemmas.Bool.{cases_lt}

-- a number of granules that cover values, the last of them begun, is the one number of them
pub same_count : (a b m n : ℕ) → a ≤ m * b → m * b < a + b → a ≤ n * b → n * b < a + b → m ≡ n
same_count a b m n p q r s = either (cases_lt m n) (cases_lt n m)
  where
    less : (x y : ℕ) → x < y → a ≤ x * b → y * b < a + b → ⊥
    less x y h low high =
        let room : suc x * b ≤ y * b = mul-le-mul_right b h in
        omega (arith, suc-mul x b)

    either : (m < n) ⊎ (n ≤ m) → (n < m) ⊎ (m ≤ n) → m ≡ n
    either (inl h) other = absurd (less m n h p s)
    either (inr h) (inl g) = absurd (less n m g r q)
    either (inr h) (inr g) = omega arith
