use Rattle.std.proofs.Common.{[], Some, ap, get_or, sym, ◌∙◌}
use Rattle.std.proofs.lemmas.Result.{IfOk-weaker}
use Rattle.mt_values.specs.Changes.{value_for}
use Rattle.on_fly.proofs.ByColumns.{column_there, minus_there, plus_there}
use Rattle.on_fly.proofs.cells.assigned_value.Goals as goal

pub returns-in-Literal : goal.returns-in-Literal
returns-in-Literal c =
    let row = get_or c.args.block.now.rows c.args.row [] in
    IfOk-weaker c.twin.result _ _ (λ v is. ap (value_for row) c.in-Literal.is ∙ ap Some (sym is)) c.twin.ensures

pub value_at-requires-clause-column : goal.value_at-requires-clause-column
value_at-requires-clause-column c = column_there c.args.block.now.types c.args.assigned.now _ c.requires.typed c.in-Column.is

pub returns-in-Column : goal.returns-in-Column
returns-in-Column c =
    let row = get_or c.args.block.now.rows c.args.row [] in
    IfOk-weaker c.value_at.result _ _ (λ v is. ap (value_for row) c.in-Column.is ∙ is) c.value_at.ensures

pub sum_at-requires-clause-column : goal.sum_at-requires-clause-column
sum_at-requires-clause-column c = plus_there c.args.block.now.types c.args.assigned.now _ _ c.requires.typed c.in-Plus.is

pub returns-in-Plus : goal.returns-in-Plus
returns-in-Plus c =
    let row = get_or c.args.block.now.rows c.args.row [] in
    IfOk-weaker c.sum_at.result _ _ (λ v is. ap (value_for row) c.in-Plus.is ∙ is) c.sum_at.ensures

pub difference_at-requires-clause-column : goal.difference_at-requires-clause-column
difference_at-requires-clause-column c = minus_there c.args.block.now.types c.args.assigned.now _ _ c.requires.typed c.in-Minus.is

pub returns-in-Minus : goal.returns-in-Minus
returns-in-Minus c =
    let row = get_or c.args.block.now.rows c.args.row [] in
    IfOk-weaker c.difference_at.result _ _ (λ v is. ap (value_for row) c.in-Minus.is ∙ is) c.difference_at.ensures
