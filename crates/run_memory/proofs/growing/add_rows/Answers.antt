use Rattle.std.proofs.Common.{◌++◌, ap, arith, sym, ◌∙◌}
use Rattle.mt_values.specs.Grid.{picked}
use Rattle.mt_values.specs.Schemas.{column_types}
use Rattle.run_memory.proofs.Grown.{first_places}
use Rattle.run_memory.proofs.growing.add_rows.Goals as goal

pub push_block-requires-clause-places : goal.push_block-requires-clause-places
push_block-requires-clause-places c κs =
    first_places c.args.block.now.rows c.min.result c.as_slice.result.now (c.as_slice.ensures.value ∙ c.in_ok-order.ensures) (λ k lt. omega (arith, lt, c.min.ensures, c.len-count.ensures.count))

pub push_rows-requires-clause-whole : goal.push_rows-requires-clause-whole
push_rows-requires-clause-whole c =
    let whole = c.requires.whole in
    record { rows = whole.rows ++ picked c.args.block.now.rows c.as_slice.result.now; has = c.in_ok-push_block.ensures.rows whole.rows whole.has }

pub push_rows-requires-clause-types : goal.push_rows-requires-clause-types
push_rows-requires-clause-types c = c.requires.types ∙ ap column_types (sym c.in_ok-push_block.ensures.schema)
