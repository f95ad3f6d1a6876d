-- the merges of runs so far
use Rattle.part_history.specs.mt_model.Rules.{Run}
use Rattle.mt_plain.specs.Outcomes.{AreExactly}
use Rattle.mt_plain.proofs.Merging.{UpTo}
use Rattle.mt_plain.proofs.merges.first_merges.Given as goal

abbrev pub invariant-loop-place : goal.invariant-loop-place
invariant-loop-place l = AreExactly l.found.items (UpTo (Run l.engine l.functions) l.rows l.place)
