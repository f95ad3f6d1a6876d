-- the values gone over are alike
use Rattle.mt_values.specs.Grid.{column_of}
use Rattle.part_reader.proofs.KeptColumns.{AreAlike}
use Rattle.part_reader.proofs.comparing.is_column.Given as goal

abbrev pub invariant-loop-key : goal.invariant-loop-key
invariant-loop-key l = AreAlike l.key (column_of l.place l.marks) l.firsts.values
