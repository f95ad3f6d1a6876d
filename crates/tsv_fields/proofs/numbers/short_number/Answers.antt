use Rattle.std.proofs.Common.{arith, rules}
use Rattle.tsv_fields.proofs.Digits.{said_small}
use Rattle.tsv_fields.proofs.numbers.short_number.Goals as goal

pub overflow_mul-number : goal.overflow_mul-number
overflow_mul-number c =
    let small = said_small c.args.digits.now c.loop-digit.digit-index c.loop-digit.number c.loop-digit.invariant (omega arith) in
    search rules

pub overflow_add-number : goal.overflow_add-number
overflow_add-number c =
    let small = said_small c.args.digits.now c.loop-digit.digit-index c.loop-digit.number c.loop-digit.invariant (omega arith) in
    search rules
