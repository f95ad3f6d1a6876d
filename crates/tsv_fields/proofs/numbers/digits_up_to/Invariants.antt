-- the number so far, and the digits that are left
use Rattle.std.proofs.Common.{◌≡◌, drop}
use Rattle.tsv_fields.proofs.Digits.{digits_after}
use Rattle.tsv_fields.proofs.numbers.digits_up_to.Given as goal

abbrev pub invariant-loop-digit : goal.invariant-loop-digit
invariant-loop-digit l = digits_after l.most l.number (drop l.digit-index l.rest) ≡ digits_after l.most 0 l.digits
