-- the joints that are left come from the truths on the stack to the truth of the whole
use Rattle.std.proofs.Common.{drop}
use Rattle.mt_values.specs.Tests.{ComesToTruth, eval}
use Rattle.mt_values.proofs.eval.Expr+Test.eval.Given as goal

abbrev pub invariant-loop-joint : goal.invariant-loop-joint
invariant-loop-joint l = ComesToTruth l.row (eval l.self l.row) l.tests l.truths (drop l.joint-index l.joint-items)
