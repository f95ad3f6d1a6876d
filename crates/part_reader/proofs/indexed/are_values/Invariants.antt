-- the values gone over are alike
use Rattle.part_reader.proofs.KeptColumns.{AreAlike}
use Rattle.part_reader.proofs.indexed.are_values.Given as goal

abbrev pub invariant-loop-place : goal.invariant-loop-place
invariant-loop-place l = AreAlike l.place l.a l.b
