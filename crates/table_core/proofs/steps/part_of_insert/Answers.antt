use Rattle.std.proofs.Common.{◌<◌, All, length, sym, ap, ◌∙◌, subst}
use Rattle.mt_values.specs.Grid.{picked}
use Rattle.mt_values.specs.Tables.{sorting_columns}
use Rattle.mt_values.proofs.Grids.{places_below}
use Rattle.table_core.proofs.Keeping.{part_made}
use Rattle.table_core.proofs.steps.part_of_insert.Goals as goal

pub rows_at-requires : goal.rows_at-requires
rows_at-requires c =
    let rows = c.args.insert.now.block.rows in
    subst (All (λ place. place < length rows)) (sym c.deref.ensures.value) (places_below (sorting_columns c.args.schema.now) rows c.in_ok-order.order.items c.in_ok-order.ensures)

pub returns : goal.returns
returns c =
    let insert = c.args.insert.now in
    part_made c.args.schema.now c.args.number insert c.in_ok-twin.field-0 c.in_ok-rows_at.field-0 c.in_ok-order.order.items c.in_ok-twin.ensures
    (c.in_ok-rows_at.ensures ∙ ap (picked insert.block.rows) c.deref.ensures.value) c.in_ok-order.ensures
