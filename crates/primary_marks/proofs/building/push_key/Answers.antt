use Rattle.std.proofs.Common.{slice_get, arith}
use Rattle.mt_values.specs.Cells.{value_of}
use Rattle.primary_marks.proofs.KeyRows.{fit_more, fit_whole, key_more, key_whole}
use Rattle.primary_marks.proofs.building.push_key.Goals as goal

pub loop-column-preserved : goal.loop-column-preserved
loop-column-preserved c =
    let found = slice_get c.args.marks.now c.args.key in
    record {
      written = key_more found c.loop-column.column (value_of c.key_cell.result) _ _ _ c.key_cell.ensures c.loop-column.invariant.written c.in_ok-push_cell.ensures.bytes;
      encodable = fit_more found c.loop-column.column (value_of c.key_cell.result) c.key_cell.ensures c.loop-column.invariant.encodable c.push_cell.ensures.encodable;
    }

pub returns-clause-bytes : goal.returns-clause-bytes
returns-clause-bytes c = key_whole c.args.marks.now c.args.key c.width-column-end.result c.loop-column.column _ _ c.width-column-end.ensures (omega (arith, c.loop-column-test.false)) c.loop-column.invariant.written

pub returns-clause-encodable : goal.returns-clause-encodable
returns-clause-encodable c = fit_whole c.args.marks.now c.args.key c.width-column-end.result c.loop-column.column c.width-column-end.ensures (omega (arith, c.loop-column-test.false)) c.loop-column.invariant.encodable
