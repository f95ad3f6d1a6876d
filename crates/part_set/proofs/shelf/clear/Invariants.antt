-- the parts gone over bear no mark where they have the name, and the others are as they were
use Rattle.std.proofs.Common.{◌≡◌, ◌++◌, ◌∷◌, [], drop, map, take}
use Rattle.part_set.specs.Runs.{cleared}
use Rattle.part_set.proofs.shelf.clear.Given as goal

abbrev pub invariant-loop-kept : goal.invariant-loop-kept
invariant-loop-kept g l = l.parts ≡ map (cleared (l.name ∷ [])) (take l.kept-index l.initial.parts) ++ drop l.kept-index l.initial.parts
