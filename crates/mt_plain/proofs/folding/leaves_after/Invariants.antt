-- none so far leaves it
use Rattle.std.proofs.Common.{List, take}
use Rattle.std.specs.List.{Contains}
use Rattle.mt_values.specs.Values.{Row}
use Rattle.part_history.specs.mt_model.Folding.{Leaves}
use Rattle.part_history.specs.mt_model.Rules.{Run}
use Rattle.mt_plain.proofs.folding.leaves_after.Given as goal

abbrev pub invariant-loop-list : goal.invariant-loop-list
invariant-loop-list l = (m : List Row) → Contains (take l.list-index l.list-items) m → Leaves (Run l.engine l.functions) m l.out → ⊥
