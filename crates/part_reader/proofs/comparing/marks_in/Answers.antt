use Rattle.std.proofs.Common.{◌+◌, ◌∙◌, Some, arith, refl}
use Rattle.mt_values.specs.Cells.{value_of}
use Rattle.part_reader.proofs.MarkedValues.{gone_finished, gone_more, gone_within, last_typed, walk}
use Rattle.part_reader.proofs.NumberMarks.{memory_explained}
use Rattle.part_reader.proofs.comparing.marks_in.Goals as goal

pub returns-then-are_numbers : goal.returns-then-are_numbers
returns-then-are_numbers c = memory_explained c.args.col_type c.args.count c.args.granularity c.args.bytes.now c.marks_of_numbers.result c.marks_of_numbers.ensures

pub loop-value-preserved : goal.loop-value-preserved
loop-value-preserved c =
    let more =
    gone_more (walk (c.loop-value.at + c.in_ok-cell.size) c.in_ok-left.left c.go_over.new.found (Some c.in_ok-cell.cell)) (value_of c.in_ok-cell.cell) c.in_ok-cell.size c.loop-value.invariant.gone c.in_ok-cell.ensures.0 c.in_ok-cell.ensures.1 c.in_ok-left.ensures.begun refl refl in
    record {
      within = gone_within more;
      col_type = c.in_ok-left.ensures.col_type ∙ c.loop-value.invariant.col_type;
      gone = more;
    }

pub finish-requires : goal.finish-requires
finish-requires c = last_typed c.args.col_type c.loop-value.found.firsts.col_type c.loop-value.invariant.gone.values c.loop-value.last c.loop-value.invariant.gone.read.typed c.loop-value.invariant.gone.last_is c.loop-value.invariant.col_type

pub returns : goal.returns
returns c = gone_finished c.finish.result c.requires c.loop-value.invariant.gone (omega arith) c.in_ok-end_at.ensures c.finish.ensures.starts c.finish.ensures.firsts c.finish.ensures.memory
