-- the rows so far
use Rattle.std.proofs.Common.{◌≡◌, filter, take}
use Rattle.mt_values.specs.Tests.{eval}
use Rattle.mt_plain.proofs.selecting.met_by.Given as goal

abbrev pub invariant-loop-row : goal.invariant-loop-row
invariant-loop-row l = l.found.items ≡ filter (eval l.condition) (take l.row-index l.rows)
