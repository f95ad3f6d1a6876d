-- so many merges leave it not
use Rattle.std.proofs.Common.{ℕ, ◌<◌}
use Rattle.part_history.specs.mt_model.Rules.{Run}
use Rattle.mt_plain.specs.Outcomes.{LeavesAfter}
use Rattle.mt_plain.proofs.folding.folds.Given as goal

abbrev pub invariant-loop-times : goal.invariant-loop-times
invariant-loop-times l = (t : ℕ) → t < l.times → LeavesAfter t (Run l.engine l.functions) l.rows l.out → ⊥
