use Rattle.std.proofs.Common.{refl}
use Rattle.mt_values.specs.Cells.{value_of}
use Rattle.primary_marks.proofs.Wanted.{other_value}
use Rattle.primary_marks.proofs.reading.read_value.Goals as goal

pub returns-then-not-is_wanted-clause-fault : goal.returns-then-not-is_wanted-clause-fault
returns-then-not-is_wanted-clause-fault c = (
  refl,
  other_value c.args.column.now c.args.wanted c.col_type.result _ (value_of c.in_ok-cell.cell) c.in_ok-cell.size c.col_type.ensures c.in_ok-cell.ensures.0 c.in_ok-cell.ensures.1 (λ same.
      let t = c.is_wanted.ensures.1 same in
      let f = rw c.if-not-is_wanted.true at t in
      cc),
)
