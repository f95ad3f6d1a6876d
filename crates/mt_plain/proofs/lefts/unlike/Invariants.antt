-- those of the rows so far
use Rattle.std.proofs.Common.{◌≡◌, take}
use Rattle.mt_plain.specs.Lefts.{unlike}
use Rattle.mt_plain.proofs.lefts.unlike.Given as goal

abbrev pub invariant-loop-other : goal.invariant-loop-other
invariant-loop-other l = l.rest.items ≡ unlike l.schema l.row (take l.other-index l.rows)
