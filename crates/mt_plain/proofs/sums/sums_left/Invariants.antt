-- what the rows so far may carry
use Rattle.std.proofs.Common.{◌≡◌, map, take}
use Rattle.mt_plain.proofs.Summing.{left_of}
use Rattle.mt_plain.proofs.sums.sums_left.Given as goal

abbrev pub invariant-loop-carried : goal.invariant-loop-carried
invariant-loop-carried l = l.outs.items ≡ map (left_of l.places l.rows) (take l.carried-index l.rows)
