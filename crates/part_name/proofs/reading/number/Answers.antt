use Rattle.std.proofs.Common.{◌<◌, ◌+◌, ◌^◌, length, Some, ap, sym, subst, arith}
use Rattle.part_name.specs.Fields.{BeginsNumber}
use Rattle.part_name.proofs.Numerals.{ReadsFront, decimal_begins, front_more, front_stops, front_all, front_only}
use Rattle.part_name.proofs.reading.number.Goals as goal

pub returns-then-not-begins_number-clause-read : goal.returns-then-not-begins_number-clause-read
returns-then-not-begins_number-clause-read c = λ n within spells.
    let small : n < 2 ^ 64 = omega arith in
    let begins = c.begins_number.ensures.1 (subst BeginsNumber spells (decimal_begins n small)) in
    absurd (let never = c.if-not-begins_number.true in cc)

pub returns-in_err-number-clause-read : goal.returns-in_err-number-clause-read
returns-in_err-number-clause-read c = λ n within spells.
    let inside : c.loop-digit.digit-index < length c.args.digits.now = omega arith in
    let small : n < 2 ^ 64 = omega arith in
    absurd (front_stops c.args.most c.args.digits.now c.loop-digit.digit-index c.loop-digit.number c.loop-digit.invariant inside c.in_err-number.ensures n small within spells)

pub loop-digit-preserved : goal.loop-digit-preserved
loop-digit-preserved c =
    let inside : c.loop-digit.digit-index < length c.args.digits.now = omega arith in
    subst (ReadsFront c.args.most c.args.digits.now (c.loop-digit.digit-index + 1)) (sym c.in_ok-number.ensures.1)
    (front_more c.args.most c.args.digits.now c.loop-digit.digit-index c.loop-digit.number c.loop-digit.invariant inside c.in_ok-number.ensures.0)

pub returns-clause-spelled : goal.returns-clause-spelled
returns-clause-spelled c =
    (c.loop-digit.invariant.within, front_all c.args.most c.args.digits.now c.loop-digit.digit-index c.loop-digit.number c.loop-digit.invariant c.loop-digit-test.false (omega arith) (c.begins_number.ensures.0 c.if-not-begins_number.false))

pub returns-clause-read : goal.returns-clause-read
returns-clause-read c = λ n within spells.
    ap Some (front_only c.args.most c.args.digits.now c.loop-digit.digit-index c.loop-digit.number c.loop-digit.invariant c.loop-digit-test.false n (omega arith) spells)
