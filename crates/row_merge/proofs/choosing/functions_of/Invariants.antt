-- the functions of the columns gone over
use Rattle.std.proofs.Common.{◌≡◌, map, take}
use Rattle.mt_values.specs.declared.schema.Column.{Column}
use Rattle.row_merge.proofs.choosing.functions_of.Given as goal

abbrev pub invariant-loop-column : goal.invariant-loop-column
invariant-loop-column l = l.functions ≡ map (λ (c : Column). c.function) (take l.column-index l.column-items)
