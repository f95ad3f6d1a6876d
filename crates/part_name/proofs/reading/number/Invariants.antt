-- the digits gone over were read as the number
use Rattle.part_name.proofs.Numerals.{ReadsFront}
use Rattle.part_name.proofs.reading.number.Given as goal

abbrev pub invariant-loop-digit : goal.invariant-loop-digit
invariant-loop-digit l = ReadsFront l.most l.digits l.digit-index l.number
