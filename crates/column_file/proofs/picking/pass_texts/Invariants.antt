-- texts stand up to the place, as many as were gone over
use Rattle.std.proofs.Common.{◌≤◌, length}
use Rattle.mt_values.specs.declared.value.ColType.TheVariants as type
use Rattle.column_file.specs.Picks.{AreBetween}
use Rattle.column_file.proofs.picking.pass_texts.Given as goal

abbrev pub invariant-loop-value : goal.invariant-loop-value
invariant-loop-value l = record {
  within : l.end ≤ length l.bytes;
  passed : AreBetween type.Text l._value l.bytes l.at l.end;
}
