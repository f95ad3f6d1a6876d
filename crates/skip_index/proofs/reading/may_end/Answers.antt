use Rattle.mt_values.specs.Cells.{value_of}
use Rattle.skip_index.proofs.BlocksRead.{told_alone}
use Rattle.skip_index.proofs.reading.may_end.Goals as goal

pub returns-then-rows-eq1 : goal.returns-then-rows-eq1
returns-then-rows-eq1 c =
    told_alone c.args.rows (value_of c.args.least) (value_of c.args.greatest) c.cmp_cells-order.result c.is_eq.result c.if-rows-eq1.true c.cmp_cells-order.ensures c.is_eq.ensures
