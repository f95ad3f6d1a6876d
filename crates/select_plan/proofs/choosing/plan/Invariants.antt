-- the parts gone over
use Rattle.std.proofs.Common.{◌≡◌, map, take}
use Rattle.select_plan.specs.Plans.{read_of}
use Rattle.select_plan.proofs.choosing.plan.Given as goal

abbrev pub invariant-loop-kept : goal.invariant-loop-kept
invariant-loop-kept g l = l.parts.items ≡ map (read_of l.snap.schema l.is_final l.query.condition) (take l.kept-index l.snap.parts.items)
