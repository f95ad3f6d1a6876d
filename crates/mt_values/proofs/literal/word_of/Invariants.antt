-- the number so far goes on to the number of all digits
use Rattle.std.proofs.Common.{◌≡◌, ◌<◌, ◌^◌, drop}
use Rattle.mt_values.specs.Rows.{number_of}
use Rattle.mt_values.proofs.DigitNumbers.{number_after}
use Rattle.mt_values.proofs.literal.word_of.Given as goal

abbrev pub invariant-loop-digit : goal.invariant-loop-digit
invariant-loop-digit l = record {
  goes_on : number_after l.number (drop l.digit-index l.digits) ≡ number_of l.digits;
  fits : l.number < 2 ^ 64;
}
