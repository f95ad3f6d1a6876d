-- those of the columns so far
use Rattle.std.proofs.Common.{◌≡◌, map, take}
use Rattle.mt_values.specs.declared.schema.Column.{Column}
use Rattle.mt_plain.proofs.lefts.functions_of.Given as goal

abbrev pub invariant-loop-column : goal.invariant-loop-column
invariant-loop-column l = l.functions.items ≡ map (λ (c : Column). c.function) (take l.column-index l.columns)
