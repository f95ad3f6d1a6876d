use Rattle.std.proofs.Common.{[], ap, sym, ◌∙◌}
use Rattle.mt_values.specs.Schemas.{column_types}
use Rattle.run_memory.proofs.growing.given_up.Goals as goal

pub add_rows-added-requires-clause-whole : goal.add_rows-added-requires-clause-whole
add_rows-added-requires-clause-whole c = record { rows = []; has = c.in_ok-out.ensures.rows }

pub add_rows-added-requires-clause-types : goal.add_rows-added-requires-clause-types
add_rows-added-requires-clause-types c = c.requires.types ∙ ap column_types (sym c.in_ok-out.ensures.schema)
