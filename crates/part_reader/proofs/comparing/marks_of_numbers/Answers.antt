use Rattle.std.proofs.Common.{◌∙◌, ap, arith, sym}
use Rattle.mt_values.specs.Cells.{value_of}
use Rattle.mt_values.specs.Grid.{Cells}
use Rattle.part_damage.proofs.ByteNumbersNumbers.{are_bytes}
use Rattle.part_reader.proofs.NumberMarks.{numbers_spelled, started_finished, started_more, started_none, starts_below, value_there}
use Rattle.part_reader.proofs.comparing.marks_of_numbers.Goals as goal

pub loop-granule-init : goal.loop-granule-init
loop-granule-init c = record {
  col_type = ap (λ (x : Cells). x.col_type) c.new-2.ensures;
  started = λ values s. started_none c.args.granularity values _ c.new.ensures (ap (λ (x : Cells). x.values) c.new-2.ensures);
}

pub unreachable-requires : goal.unreachable-requires
unreachable-requires c =
    let n = numbers_spelled c.args.col_type c.args.count c.args.bytes.now c.requires.number (are_bytes c.args.bytes.now c.type_inv.bytes) c.requires.size in
    let below = starts_below c.args.count c.args.granularity c.loop-granule.granule c.requires.granularity (omega (arith, c.loop-granule-test.true, c.div_ceil-granule-end.ensures)) in
    value_there n.0 c.args.count _ n.2.count_is below (c.in_default.ensures.number n.0 n.2)

pub push_cell-requires : goal.push_cell-requires
push_cell-requires c = c.in-Some.ensures.typed ∙ sym c.loop-granule.invariant.col_type

pub loop-granule-preserved : goal.loop-granule-preserved
loop-granule-preserved c = record {
  col_type = ap (λ (x : Cells). x.col_type) c.in_ok-push_cell.ensures.ok ∙ c.loop-granule.invariant.col_type;
  started = λ values s.
      started_more c.args.granularity values c.loop-granule.granule c.in-Some.at (value_of c.in-Some.cell) c.loop-granule.found _ (c.loop-granule.invariant.started values s) (c.in-Some.ensures.number values s) c.in_ok-push.ensures.ok
      (ap (λ (x : Cells). x.values) c.in_ok-push_cell.ensures.ok);
}

pub returns : goal.returns
returns c =
    let n = numbers_spelled c.args.col_type c.args.count c.args.bytes.now c.requires.number (are_bytes c.args.bytes.now c.type_inv.bytes) c.requires.size in
    started_finished c.args.col_type c.args.count c.args.granularity c.args.bytes.now n.0 c.loop-granule.granule c.loop-granule.found c.last_number.result c.finish.result c.requires.granularity n.1 n.2.count_is
    (omega (arith, c.loop-granule-test.false, c.loop-granule.auto.granule-end, c.div_ceil-granule-end.ensures))
    (c.loop-granule.invariant.started n.0 n.2) (c.last_number.ensures.last n.0 n.2) c.finish.ensures.starts c.finish.ensures.firsts c.finish.ensures.memory
