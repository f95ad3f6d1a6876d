-- the joints that are left come from the answers on the stack to the answer of the whole
use Rattle.std.proofs.Common.{drop}
use Rattle.mt_values.specs.Polish.{ComesTo}
use Rattle.predicate.specs.Boxes.{box_of, by_box, can}
use Rattle.predicate.proofs.boxes.can_by.Given as goal

abbrev pub invariant-loop-joint : goal.invariant-loop-joint
invariant-loop-joint l = ComesTo (by_box (box_of l.known)) (can l.condition (box_of l.known)) l.tests l.answers (drop l.joint-index l.joint-items)
