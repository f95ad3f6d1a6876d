use Rattle.std.proofs.Common.{◌++◌, ◌∷◌, [], ap, refl, sym, ◌∙◌}
use Rattle.mt_values.specs.Schemas.{column_types}
use Rattle.run_memory.proofs.Grown.{row_typed}
use Rattle.run_memory.proofs.growing.push_rows.Goals as goal

pub loop-place-init : goal.loop-place-init
loop-place-init c = record { whole = c.requires.whole; schema = refl }

pub push-requires-clause-typed : goal.push-requires-clause-typed
push-requires-clause-typed c κs =
    let block = c.args.block.now in
    row_typed block.types block.rows c.loop-place.place c.in_ok-row.row c.len-count.ensures.typed c.in_ok-row.ensures
    ∙ (c.requires.types ∙ ap column_types (sym c.loop-place.invariant.schema))

pub loop-place-preserved : goal.loop-place-preserved
loop-place-preserved c =
    let before = c.loop-place.invariant in
    record {
      whole = record { rows = before.whole.rows ++ c.in_ok-row.row ∷ []; has = c.in_ok-push.ensures.rows before.whole.rows before.whole.has };
      schema = c.in_ok-push.ensures.schema ∙ before.schema;
    }
