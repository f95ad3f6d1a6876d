-- the most that begin at a part gone over
use Rattle.part_set.proofs.Founds.{IsMost}
use Rattle.part_set.proofs.found.find_run.Given as goal

abbrev pub invariant-loop-first : goal.invariant-loop-first
invariant-loop-first g l = IsMost l.first l.most l.sources l.parts
