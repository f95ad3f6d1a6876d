-- what the folds of the lists so far may leave
use Rattle.std.proofs.Common.{take}
use Rattle.part_history.specs.mt_model.Folding.{Leaves}
use Rattle.part_history.specs.mt_model.Rules.{Run}
use Rattle.mt_plain.specs.Outcomes.{AreExactly}
use Rattle.mt_plain.proofs.Merging.{OneMakes}
use Rattle.mt_plain.proofs.folding.all_folded.Given as goal

abbrev pub invariant-loop-list : goal.invariant-loop-list
invariant-loop-list l = AreExactly l.outs.items (OneMakes (Leaves (Run l.engine l.functions)) (take l.list-index l.list-items))
