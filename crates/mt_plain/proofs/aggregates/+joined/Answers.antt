use Rattle.std.proofs.Common.{ℕ, ◌+◌, ◌*◌, ◌/◌, ◌<◌, ◌^◌, ◌∙◌, Fits, w64, ap₂, arith, subst, sym}
use Rattle.mt_plain.proofs.Bits.{halves, stays_below}
use Rattle.mt_plain.proofs.aggregates.+joined.Goals as goal

pub overflow_mul-result : goal.overflow_mul-result
overflow_mul-result t c =
    let m : c.args.m < 2 ^ 64 = c.ranges.m.fits in
    let n : c.args.n < 2 ^ 64 = c.ranges.n.fits in
    let low = stays_below 63 c.args.function (c.args.m / 2) (c.args.n / 2) (omega (arith, m)) (omega (arith, n)) in
    subst (λ (k : ℕ). Fits w64 (k * 2)) (sym c.joined.ensures) (record { fits = omega (arith, low) })

pub overflow_add-result : goal.overflow_add-result
overflow_add-result t c =
    let is = ap₂ (λ (a b : ℕ). a * 2 + b) c.joined.ensures c.joined_last.ensures ∙ sym (halves c.args.function c.args.m c.args.n) in
    subst (Fits w64) (sym is) (record { fits = stays_below 64 c.args.function c.args.m c.args.n c.ranges.m.fits c.ranges.n.fits })

pub returns : goal.returns
returns t c = ap₂ (λ (a b : ℕ). a * 2 + b) c.joined.ensures c.joined_last.ensures ∙ sym (halves c.args.function c.args.m c.args.n)
