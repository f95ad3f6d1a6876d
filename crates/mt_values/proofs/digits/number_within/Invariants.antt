-- the number of the digits gone over
use Rattle.std.proofs.Common.{◌≡◌, take}
use Rattle.mt_values.specs.Rows.{number_within}
use Rattle.mt_values.proofs.digits.number_within.Given as goal

abbrev pub invariant-loop-digit : goal.invariant-loop-digit
invariant-loop-digit l = l.number ≡ number_within l.limit (take l.digit-index l.digits)
