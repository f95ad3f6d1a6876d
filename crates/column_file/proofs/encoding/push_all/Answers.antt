use Rattle.mt_values.specs.Cells.{value_of}
use Rattle.column_file.proofs.Ahead.{added_more, fits_more}
use Rattle.column_file.proofs.encoding.push_all.Goals as goal

pub loop-cell-preserved : goal.loop-cell-preserved
loop-cell-preserved c = record {
  written = added_more value_of c.args.cells.now c.loop-cell.cell-index _ _ _ _ c.loop-cell-test.true c.loop-cell.invariant.written c.in_ok-push_cell.ensures.bytes;
  encodable = fits_more value_of c.args.cells.now c.loop-cell.cell-index _ c.loop-cell-test.true c.loop-cell.invariant.encodable c.push_cell.ensures.encodable;
}
