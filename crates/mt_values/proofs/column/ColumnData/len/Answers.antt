use Rattle.mt_values.proofs.Columns.{AreOfType-cells_of}
use Rattle.mt_values.proofs.column.ColumnData.len.Goals as goal

pub returns-clause-typed : goal.returns-clause-typed
returns-clause-typed c = rw (← c.self.view_is) (AreOfType-cells_of c.self.inside.cells)
