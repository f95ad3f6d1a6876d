-- what is left of the columns of the key decides
use Rattle.std.proofs.Common.{◌≡◌, drop}
use Rattle.part_history.specs.predicate.Granules.{known_among}
use Rattle.mt_plain.proofs.boxes.known_among.Given as goal

abbrev pub invariant-loop-column : goal.invariant-loop-column
invariant-loop-column l = known_among (drop l.column l.places) (drop l.column l.keys) l.place ≡ known_among l.places l.keys l.place
