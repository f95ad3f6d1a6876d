-- the fields of the values gone over
use Rattle.std.proofs.Common.{◌≡◌, ◌++◌, take}
use Rattle.mt_values.specs.Printing.{fields}
use Rattle.tsv_fields.proofs.printing.write_row.Given as goal

abbrev pub invariant-loop-index : goal.invariant-loop-index
invariant-loop-index l = l.out.items ≡ l.initial.out.items ++ fields (take l.index l.values)
