-- the values below the one end stand before the edge, and those from the other on do not
use Rattle.std.proofs.Common.{◌≡◌, ℕ, ◌-◌, ◌<◌, ◌≤◌, Some, false, length, slice_get, true}
use Rattle.mt_values.specs.declared.value.Value.{Value}
use Rattle.mt_values.specs.Grid.{column_of}
use Rattle.primary_marks.specs.Spans.{stands_before}
use Rattle.primary_marks.proofs.spans.count_before.Given as goal

abbrev pub invariant-loop-low : goal.invariant-loop-low
invariant-loop-low l = record {
  order : l.low ≤ l.high;
  few : l.high ≤ length l.marks;
  before : (i : ℕ) (x : Value) → i < l.low → slice_get (column_of 0 l.marks) i ≡ Some x → stands_before l.edge l.test x ≡ true;
  after : (i : ℕ) (x : Value) → l.high ≤ i → slice_get (column_of 0 l.marks) i ≡ Some x → stands_before l.edge l.test x ≡ false;
}

abbrev pub decreases-loop-low : goal.decreases-loop-low
decreases-loop-low l = l.high - l.low
