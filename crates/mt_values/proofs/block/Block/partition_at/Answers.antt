use Rattle.std.proofs.Common.{◌≡◌, [], sym, ap, ◌∙◌, arith, get_or, slice_get}
use Rattle.mt_base.specs.declared.partition.Partition.TheVariants.{Number}
use Rattle.mt_values.specs.Cells.{value_of}
use Rattle.mt_values.specs.Tables.{number_at, partition_by_column}
use Rattle.mt_values.proofs.RowValueAt.{column_has, number_here}
use Rattle.mt_values.proofs.block.Block.partition_at.Goals as goal

pub at-requires : goal.at-requires
at-requires c =
    let width = c.width.ensures in
    let below = c.if-place-width.false in
    column_has c.args.self.now.types c.args.self.now.rows c.in-Some.place c.args.row c.len-rows.ensures.typed c.requires
    c.column.result.now.values (omega (arith, width, below)) c.column.ensures.values

pub returns : goal.returns
returns c =
    let row = get_or c.args.self.now.rows c.args.row [] in
    let width = c.width.ensures in
    let below = c.if-place-width.false in
    let same : c.number.result ≡ number_at (slice_get row c.in-Some.place) =
    c.number.ensures
    ∙ number_here c.args.self.now.types c.args.self.now.rows c.in-Some.place c.args.row c.len-rows.ensures.typed c.requires
    c.column.result.now.values (value_of c.at.result) (omega (arith, width, below)) c.column.ensures.values c.at.ensures in
    ap Number same ∙ sym (ap (λ o. partition_by_column o row) c.in-Some.is)
