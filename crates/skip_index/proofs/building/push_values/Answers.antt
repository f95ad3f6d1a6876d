use Rattle.std.proofs.Common.{◌++◌, ap, ◌∙◌}
use Rattle.mt_values.specs.ColumnBytes.{value_bytes}
use Rattle.column_file.proofs.Fronts.{spelled_more}
use Rattle.skip_index.proofs.building.push_values.Goals as goal

pub loop-value-preserved : goal.loop-value-preserved
loop-value-preserved c =
    spelled_more value_bytes c.args.values.now c.loop-value.value-index c.value-item.result _ _ _ c.loop-value-test.true c.value-item.is c.loop-value.invariant
    (c.in_ok-push_cell.ensures.bytes ∙ ap (λ v. c.loop-value.bytes ++ value_bytes v) c.of.ensures)
