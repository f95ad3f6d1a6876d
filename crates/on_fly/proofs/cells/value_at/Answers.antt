use Rattle.std.proofs.Common.{◌<◌, List, Some, length, slice_get, subst, sym, ap, ◌∙◌, arith}
use Rattle.std.proofs.lemmas.Result.{IfOk-weaker}
use Rattle.mt_values.specs.declared.value.Value.{Value}
use Rattle.mt_values.proofs.OrderBy.{length_column, value_at}
use Rattle.on_fly.proofs.cells.value_at.Goals as goal

pub at-requires : goal.at-requires
at-requires c =
    let block = c.args.block.now in
    subst (λ (vs : List Value). c.args.row < length vs) (sym c.column.ensures.values)
    (omega (arith, length_column block.types block.rows c.args.column c.len-rows.ensures.typed c.requires.column, c.requires.row))

pub returns : goal.returns
returns c =
    let block = c.args.block.now in
    IfOk-weaker c.to_value.result _ _
    (λ v is. value_at block.types block.rows c.args.column c.args.row v c.len-rows.ensures.typed c.requires.column
    (ap (λ (vs : List Value). slice_get vs c.args.row) (sym c.column.ensures.values) ∙ (c.at.ensures ∙ ap Some (sym is))))
    c.to_value.ensures
