use Rattle.std.proofs.Common.{◌∙◌, ap, arith, length, sym}
use Rattle.std.proofs.lemmas.List.{length_push}
use Rattle.mt_values.specs.Cells.{value_of}
use Rattle.mt_values.specs.Grid.{Cells}
use Rattle.part_damage.specs.column_file.Faults.{Explains}
use Rattle.part_reader.proofs.Damages.{error_handed_on}
use Rattle.part_reader.proofs.IndexedBlocks.{ends_more, ends_none, ends_stuck, step_within}
use Rattle.part_reader.proofs.indexed.values_from.Goals as goal

pub loop-value-init : goal.loop-value-init
loop-value-init c = record {
  within = c.requires;
  col_type = ap (λ (x : Cells). x.col_type) c.new-values.ensures;
  count = ap (λ (x : Cells). length x.values) c.new-values.ensures;
  read = λ before e. ends_none c.args.column.now c.args.from before c.new-values.result.values (ap (λ (x : Cells). x.values) c.new-values.ensures) e;
}

pub push_cell-requires : goal.push_cell-requires
push_cell-requires c = c.in_ok-cell.ensures.0.0 ∙ sym c.loop-value.invariant.col_type

pub loop-value-preserved : goal.loop-value-preserved
loop-value-preserved c =
    let i = c.loop-value.invariant in
    let v = value_of c.in_ok-cell.cell in
    record {
      within = step_within c.loop-value.at c.in_ok-cell.size v c.args.column.now.bytes.now i.within c.in_ok-cell.ensures.1;
      col_type = ap (λ (x : Cells). x.col_type) c.in_ok-push_cell.ensures.ok ∙ i.col_type;
      count = omega (arith, ap (λ (x : Cells). length x.values) c.in_ok-push_cell.ensures.ok, length_push c.loop-value.values.values v, i.count);
      read = λ before e.
          ends_more c.args.column.now c.loop-value.at c.in_ok-cell.size before c.loop-value.values.values _ v (i.read before e) c.in_ok-cell.ensures.0 c.in_ok-cell.ensures.1 (ap (λ (x : Cells). x.values) c.in_ok-push_cell.ensures.ok);
    }

pub returns-in_err-cell : goal.returns-in_err-cell
returns-in_err-cell c = λ before e few.
    let column = c.args.column.now in
    error_handed_on _ (Explains column.col_type column.count column.bytes.now) c.from_residual.result c.in_err-cell.field-0.0 c.from_residual.ensures.1
    (ends_stuck column c.loop-value.at c.args.count before c.loop-value.values.values c.in_err-cell.field-0.0 (c.loop-value.invariant.read before e) (omega (arith, c.loop-value.invariant.count, c.loop-value-test.true)) few c.in_err-cell.ensures.0 c.in_err-cell.ensures.1)

pub returns : goal.returns
returns c = λ before e few. (omega (arith, c.loop-value.invariant.count), c.loop-value.invariant.read before e)
