-- the bytes of the numbers gone over are added
use Rattle.std.proofs.Common.{◌≡◌, ◌++◌, take}
use Rattle.column_file.specs.Marks.{numbers_bytes}
use Rattle.primary_marks.proofs.places.push_numbers.Given as goal

abbrev pub invariant-loop-number : goal.invariant-loop-number
invariant-loop-number l = l.bytes ≡ l.initial.bytes ++ numbers_bytes (take l.number-index l.numbers)
