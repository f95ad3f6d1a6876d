-- the joints that are left come from the spans on the stack to that of the whole
use Rattle.std.proofs.Common.{drop}
use Rattle.mt_values.specs.Conditions.{meant}
use Rattle.mt_values.specs.Polish.{ComesTo}
use Rattle.primary_marks.specs.Spans.{by_spans}
use Rattle.primary_marks.proofs.spans.span_left.Given as goal

abbrev pub invariant-loop-joint : goal.invariant-loop-joint
invariant-loop-joint l = ComesTo (by_spans l.part) (meant (by_spans l.part) l.condition) l.tests l.spans (drop l.joint-index l.joint-items)
