-- the merges of the lists so far
use Rattle.std.proofs.Common.{take}
use Rattle.part_history.specs.mt_model.Rules.{Run}
use Rattle.mt_plain.specs.Outcomes.{AreExactly, MergesOneOf}
use Rattle.mt_plain.proofs.merges.merged_once.Given as goal

abbrev pub invariant-loop-list : goal.invariant-loop-list
invariant-loop-list l = AreExactly l.found.items (MergesOneOf (Run l.engine l.functions) (take l.list-index l.lists))
