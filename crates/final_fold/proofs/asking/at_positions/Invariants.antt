-- the tests gone over, each at its position
use Rattle.std.proofs.Common.{◌≡◌, take}
use Rattle.final_fold.specs.Asked.{moved_to}
use Rattle.final_fold.proofs.asking.at_positions.Given as goal

abbrev pub invariant-loop-number : goal.invariant-loop-number
invariant-loop-number l = l.moved ≡ moved_to (take l.number l.positions) (take l.number l.tests)
