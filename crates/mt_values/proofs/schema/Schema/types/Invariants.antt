-- the types of the columns gone over
use Rattle.std.proofs.Common.{◌≡◌, map, take}
use Rattle.mt_values.specs.declared.schema.Column.{Column}
use Rattle.mt_values.proofs.schema.Schema.types.Given as goal

abbrev pub invariant-loop-column : goal.invariant-loop-column
invariant-loop-column l = l.types ≡ map (λ (c : Column). c.col_type) (take l.column-index l.column-items)
