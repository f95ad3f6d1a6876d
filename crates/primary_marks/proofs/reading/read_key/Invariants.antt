-- the values of the key in the columns gone over
use Rattle.std.proofs.Common.{◌≡◌, ◌≤◌, drop, length}
use Rattle.primary_marks.proofs.KeyReading.{AreGoneOver}
use Rattle.primary_marks.proofs.reading.read_key.Given as goal

abbrev pub invariant-loop-column : goal.invariant-loop-column
invariant-loop-column l = record {
  within : l.size ≤ length (drop l.at l.bytes);
  gone : (g : AreGoneOver l.initial.columns l.wanted (drop l.at l.bytes) l.size l.columns) × (length g.begun ≡ l.column-index);
}
