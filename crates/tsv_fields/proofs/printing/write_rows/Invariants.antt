-- the lines of the rows gone over
use Rattle.std.proofs.Common.{◌≡◌, ◌++◌, take, flat_map}
use Rattle.mt_values.specs.Grid.{picked}
use Rattle.mt_values.specs.Printing.{line, selected}
use Rattle.tsv_fields.proofs.printing.write_rows.Given as goal

abbrev pub invariant-loop-place : goal.invariant-loop-place
invariant-loop-place l = l.out.items ≡ l.initial.out.items ++ flat_map (λ row. line (selected l.columns row)) (picked l.block.rows (take l.place-index l.order))
