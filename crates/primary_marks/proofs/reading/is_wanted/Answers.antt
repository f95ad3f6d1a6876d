use Rattle.mt_values.specs.Cells.{value_of}
use Rattle.primary_marks.proofs.Wanted.{wanted_is}
use Rattle.primary_marks.proofs.reading.is_wanted.Goals as goal

pub returns-in-Some : goal.returns-in-Some
returns-in-Some c = wanted_is c.args.column.now c.args.wanted c.in-Some.place (value_of c.args.cell) (value_of c.at.result) c.cmp_cells.result c.is_eq.result c.in-Some.is c.at.ensures c.cmp_cells.ensures c.is_eq.ensures
