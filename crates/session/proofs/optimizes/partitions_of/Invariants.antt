-- the partitions of the parts so far, and the last of them
use Rattle.session.proofs.Partitions.{SoFar}
use Rattle.session.proofs.optimizes.partitions_of.Given as goal

abbrev pub invariant-loop-kept : goal.invariant-loop-kept
invariant-loop-kept g l = SoFar l.parts l.kept-index l.found.items l.last
