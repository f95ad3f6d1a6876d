use Rattle.std.proofs.Common.{ap, ap₂, sym, ◌∙◌}
use Rattle.mt_values.specs.Tables.{partition_of}
use Rattle.mt_values.specs.Values.{Row}
use Rattle.mt_plain.specs.Once.{once_more}
use Rattle.mt_plain.proofs.Parting.{partitions_more}
use Rattle.mt_plain.proofs.partitions.partitions_of.Goals as goal

pub loop-row-preserved : goal.loop-row-preserved
loop-row-preserved c =
    let own = c.partition_of.ensures ∙ ap (λ (row : Row). partition_of c.args.schema.now row) c.row-item.is in
    c.in_ok-add_once.ensures
    ∙ ap₂ once_more own c.loop-row.invariant
    ∙ sym (partitions_more c.args.schema.now c.args.rows.now c.loop-row.row-index c.row-item.result c.loop-row-test.true)
