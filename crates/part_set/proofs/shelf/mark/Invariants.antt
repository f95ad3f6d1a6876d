-- the parts gone over bear the mark, and the others are as they were
use Rattle.std.proofs.Common.{◌≡◌, ◌++◌, drop, map, take}
use Rattle.part_set.specs.Runs.{with_mark}
use Rattle.part_set.proofs.shelf.mark.Given as goal

abbrev pub invariant-loop-kept : goal.invariant-loop-kept
invariant-loop-kept g l = l.parts ≡ map (with_mark l.busy) (take l.kept-index l.initial.parts) ++ drop l.kept-index l.initial.parts
