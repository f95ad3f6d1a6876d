use Rattle.std.proofs.Common.{refl, ap, ◌∙◌, arith}
use Rattle.mt_values.specs.Cells.{value_of}
use Rattle.mt_values.specs.Grid.{Cells}
use Rattle.column_file.specs.Faults.{IsFirstFault}
use Rattle.column_file.proofs.OneWay.{no_spelling}
use Rattle.column_file.proofs.Reading.{read_within, gained_none, gained_more, gained_front, gained_stuck, handed_on, end_read, end_fault, end_spelled}
use Rattle.column_file.proofs.decoding.decode_onto.Goals as goal

pub loop-value-init : goal.loop-value-init
loop-value-init c = record { within = omega arith; col_type = refl; gained = gained_none c.args.bytes.now c.args.column.now }

pub loop-value-preserved : goal.loop-value-preserved
loop-value-preserved c =
    let more = gained_more (value_of c.in_ok-cell.cell) c.in_ok-cell.size _ _ c.loop-value.invariant.gained c.col_type-col_type.ensures c.in_ok-cell.ensures.0 c.in_ok-cell.ensures.1 c.in_ok-push_cell.ensures.ok in
    record {
      within = read_within more.read;
      col_type = ap (λ (x : Cells). x.col_type) c.in_ok-push_cell.ensures.ok ∙ c.loop-value.invariant.col_type;
      gained = more;
    }

-- no value begins where the next one was to come
stuck : (c : goal.After-from_residual) → IsFirstFault c.args.column.now.col_type c.args.count c.args.bytes.now c.loop-value.at
stuck c = gained_stuck _ c.loop-value.invariant.gained c.col_type-col_type.ensures c.loop-value-test.true c.in_err-cell.ensures.1

pub returns-in_err-cell-clause-fault : goal.returns-in_err-cell-clause-fault
returns-in_err-cell-clause-fault c =
    rw (handed_on c.from_residual.result c.in_err-cell.field-0.0 c.loop-value.at c.from_residual.ensures.1 c.in_err-cell.ensures.0) (stuck c)

pub returns-in_err-cell-clause-spelled : goal.returns-in_err-cell-clause-spelled
returns-in_err-cell-clause-spelled c = λ values spelling.
    absurd (no_spelling c.args.column.now.col_type c.args.count c.args.bytes.now c.loop-value.at values (stuck c) spelling)

pub returns-in_err-cell-clause-front : goal.returns-in_err-cell-clause-front
returns-in_err-cell-clause-front c = gained_front c.loop-value.invariant.gained

pub returns-clause-read : goal.returns-clause-read
returns-clause-read c = end_read c.end_at.result c.end_at.ensures c.loop-value.invariant.gained (omega arith)

pub returns-clause-spelled : goal.returns-clause-spelled
returns-clause-spelled c = λ values spelling. end_spelled c.end_at.result values c.end_at.ensures c.loop-value.invariant.gained (omega arith) spelling

pub returns-clause-fault : goal.returns-clause-fault
returns-clause-fault c = end_fault c.end_at.result c.end_at.ensures c.loop-value.invariant.gained (omega arith)

pub returns-clause-front : goal.returns-clause-front
returns-clause-front c = gained_front c.loop-value.invariant.gained
