-- the fields of the columns gone over
use Rattle.std.proofs.Common.{◌≡◌, ◌++◌, [], take, get_or}
use Rattle.mt_values.specs.Printing.{fields, selected}
use Rattle.tsv_fields.proofs.printing.write_row_at.Given as goal

abbrev pub invariant-loop-index : goal.invariant-loop-index
invariant-loop-index l = l.out.items ≡ l.initial.out.items ++ fields (selected (take l.index l.columns) (get_or l.block.rows l.place []))
