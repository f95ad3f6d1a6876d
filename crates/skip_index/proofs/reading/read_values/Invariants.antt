-- the values gone over, which are seen
use Rattle.skip_index.proofs.BlocksRead.{AreValuesRead}
use Rattle.skip_index.proofs.reading.read_values.Given as goal

abbrev pub invariant-loop-value : goal.invariant-loop-value
invariant-loop-value l = AreValuesRead l.col_type l.bytes l.at l.size l._value l.seen.keys l.values
