use Rattle.std.proofs.Common.{Some, ap, sym, ◌∙◌}
use Rattle.std.proofs.lemmas.Result.{IfOk-weaker}
use Rattle.mt_values.specs.Grid.{Cells}
use Rattle.mt_values.specs.Tests.{eval}
use Rattle.on_fly.proofs.ByColumns.{column_put, column_same, last_fits}
use Rattle.on_fly.proofs.blocks.updated_column.Goals as goal

pub assigned_column-requires-clause-typed : goal.assigned_column-requires-clause-typed
assigned_column-requires-clause-typed c =
    last_fits c.args.block.now.types c.args.place c.args.assignments.now c.in-Some.assigned.now c.requires.typed (sym c.in-Some.ensures)

pub returns-in-Some-clause-values : goal.returns-in-Some-clause-values
returns-in-Some-clause-values c = λ condition asked.
    let block = c.args.block.now in
    IfOk-weaker c.assigned_column.result _ _
    (λ (x : Cells) is. is ∙ column_put block.types block.rows c.len-rows.ensures.typed c.args.place c.requires.place c.args.assignments.now condition c.in-Some.assigned.now c.requires.typed (sym c.in-Some.ensures))
    (c.assigned_column.ensures.values (eval condition) asked)

pub returns-in-None-clause-col_type : goal.returns-in-None-clause-col_type
returns-in-None-clause-col_type c =
    IfOk-weaker c.twin.result _ _ (λ (x : Cells) is. c.column.ensures.col_type ∙ ap (λ (y : Cells). Some y.col_type) (sym is)) c.twin.ensures

pub returns-in-None-clause-values : goal.returns-in-None-clause-values
returns-in-None-clause-values c = λ condition asked.
    let block = c.args.block.now in
    IfOk-weaker c.twin.result _ _
    (λ (x : Cells) is.
    ap (λ (y : Cells). y.values) is
    ∙ (c.column.ensures.values
    ∙ column_same block.types block.rows c.len-rows.ensures.typed c.args.place c.requires.place c.args.assignments.now condition c.requires.typed (sym c.in-None.ensures)))
    c.twin.ensures
