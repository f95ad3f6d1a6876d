-- the lists come of the rows, and these are among them
use Rattle.std.proofs.Common.{List}
use Rattle.std.specs.List.{Contains}
use Rattle.mt_values.specs.Values.{Row}
use Rattle.part_history.specs.mt_model.Folding.{ComesFrom}
use Rattle.part_history.specs.mt_model.Rules.{Run}
use Rattle.mt_plain.proofs.merges.all_merged.Given as goal

abbrev pub invariant-loop-done : goal.invariant-loop-done
invariant-loop-done l = ((x : List Row) → Contains l.lists.items x → ComesFrom (Run l.engine l.functions) l.rows x) × Contains l.lists.items l.rows
