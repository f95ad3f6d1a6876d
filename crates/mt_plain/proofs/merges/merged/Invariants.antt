-- what so many merges leave
use Rattle.part_history.specs.mt_model.Folding.{MergesTimes}
use Rattle.part_history.specs.mt_model.Rules.{Run}
use Rattle.mt_plain.specs.Outcomes.{AreExactly}
use Rattle.mt_plain.proofs.merges.merged.Given as goal

abbrev pub invariant-loop-done : goal.invariant-loop-done
invariant-loop-done l = AreExactly l.lists.items (MergesTimes l._done (Run l.engine l.functions) l.rows)
