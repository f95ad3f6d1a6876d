-- the digits gone over say the number
use Rattle.tsv_fields.proofs.Digits.{SaidBy}
use Rattle.tsv_fields.proofs.numbers.short_number.Given as goal

abbrev pub invariant-loop-digit : goal.invariant-loop-digit
invariant-loop-digit l = SaidBy l.digits l.digit-index l.number
