-- the values gone over follow those before them
use Rattle.std.proofs.Common.{◌≡◌, ◌≤◌, ◌++◌, List, length}
use Rattle.mt_values.specs.declared.value.Value.{Value}
use Rattle.part_reader.specs.Compared.{EndsAt}
use Rattle.part_reader.proofs.indexed.values_from.Given as goal

abbrev pub invariant-loop-value : goal.invariant-loop-value
invariant-loop-value l = record {
  within : l.at ≤ length l.column.bytes.now;
  col_type : l.values.col_type ≡ l.column.col_type;
  count : length l.values.values ≡ l._value;
  read : (before : List Value) → EndsAt l.column l.from before → EndsAt l.column l.at (before ++ l.values.values);
}
