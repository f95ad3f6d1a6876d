-- Numbers joined bit by bit, by halves.
use Rattle.std.proofs.Common.{◌≡◌, ℕ, ◌+◌, ◌*◌, ◌/◌, ◌%◌, ◌<◌, ◌^◌, ◌∙◌, sym, ap₂, arith}
use Rattle.std.specs.Prelude.{bit_and, bit_or, bit_xor}
use Rattle.std.proofs.lemmas.Nat.{and_block, and_le_l, or_block, or_lt, shr_split, xor_block, xor_lt}
use Rattle.mt_values.specs.declared.engine.Aggregate.{Aggregate}
use Rattle.mt_values.specs.declared.engine.Aggregate.TheVariants as aggregate
use Rattle.mt_plain.specs.Outcomes.{join_by}

and_halves : (m n : ℕ) → bit_and m n ≡ bit_and (m / 2) (n / 2) * 2 + bit_and (m % 2) (n % 2)
and_halves m n = ap₂ bit_and (sym (shr_split m 1)) (sym (shr_split n 1)) ∙ and_block 1 (m / 2) (n / 2) (m % 2) (n % 2) (omega arith) (omega arith)

or_halves : (m n : ℕ) → bit_or m n ≡ bit_or (m / 2) (n / 2) * 2 + bit_or (m % 2) (n % 2)
or_halves m n = ap₂ bit_or (sym (shr_split m 1)) (sym (shr_split n 1)) ∙ or_block 1 (m / 2) (n / 2) (m % 2) (n % 2) (omega arith) (omega arith)

xor_halves : (m n : ℕ) → bit_xor m n ≡ bit_xor (m / 2) (n / 2) * 2 + bit_xor (m % 2) (n % 2)
xor_halves m n = ap₂ bit_xor (sym (shr_split m 1)) (sym (shr_split n 1)) ∙ xor_block 1 (m / 2) (n / 2) (m % 2) (n % 2) (omega arith) (omega arith)

-- the bits before the last ones are joined, and the last ones
pub halves : (function : Aggregate) (m n : ℕ) → join_by function m n ≡ join_by function (m / 2) (n / 2) * 2 + join_by function (m % 2) (n % 2)
halves aggregate.BitAnd m n = and_halves m n
halves aggregate.BitOr m n = or_halves m n
halves aggregate.BitXor m n = xor_halves m n
halves aggregate.Any m n = xor_halves m n
halves aggregate.AnyLast m n = xor_halves m n
halves aggregate.Min m n = xor_halves m n
halves aggregate.Max m n = xor_halves m n
halves aggregate.Sum m n = xor_halves m n

-- numbers of so many bits are joined to one of them
pub stays_below : (k : ℕ) (function : Aggregate) (m n : ℕ) → m < 2 ^ k → n < 2 ^ k → join_by function m n < 2 ^ k
stays_below k aggregate.BitAnd m n low high = omega (arith, low, and_le_l m n)
stays_below k aggregate.BitOr m n low high = or_lt k m n low high
stays_below k aggregate.BitXor m n low high = xor_lt k m n low high
stays_below k aggregate.Any m n low high = xor_lt k m n low high
stays_below k aggregate.AnyLast m n low high = xor_lt k m n low high
stays_below k aggregate.Min m n low high = xor_lt k m n low high
stays_below k aggregate.Max m n low high = xor_lt k m n low high
stays_below k aggregate.Sum m n low high = xor_lt k m n low high
