-- what is left of the key decides
use Rattle.primary_marks.proofs.GranuleBoxes.{KnownFrom}
use Rattle.primary_marks.proofs.choosing.KeyRanges.known_among.Given as goal

abbrev pub invariant-loop-column : goal.invariant-loop-column
invariant-loop-column l = KnownFrom l.primary l.self l.place l.column
