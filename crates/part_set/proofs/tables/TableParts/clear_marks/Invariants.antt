-- the parts that have the names gone over bear no mark
use Rattle.part_set.proofs.Clearing.{ClearsFirst}
use Rattle.part_set.proofs.tables.TableParts.clear_marks.Given as goal

abbrev pub invariant-loop-source : goal.invariant-loop-source
invariant-loop-source g l = ClearsFirst l.source-index l.sources l.initial.self l.self
