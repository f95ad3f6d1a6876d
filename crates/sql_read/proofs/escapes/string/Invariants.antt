use Rattle.std.proofs.Common.{◌≡◌, length}
use Rattle.mt_values.proofs.Fronts.{parted}
use Rattle.sql_read.proofs.Pieces.{string_left}
use Rattle.sql_read.proofs.escapes.string.Given as goal

abbrev pub invariant-pieces : goal.invariant-pieces
invariant-pieces l = parted l.said (string_left l.rest) ≡ string_left l.text

abbrev pub decreases-pieces : goal.decreases-pieces
decreases-pieces l = length l.rest
