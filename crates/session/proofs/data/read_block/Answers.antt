use Rattle.std.proofs.Common.{◌≡◌, ◌∙◌, ℕ, List, Option, IfErr, IfOk, Ok, subst}
use Rattle.mt_base.specs.Stops.{Refuses}
use Rattle.mt_values.specs.declared.value.ColType.{ColType}
use Rattle.mt_values.specs.Engines.{sign_place}
use Rattle.mt_values.specs.Rows.{inserted_rows}
use Rattle.replies.specs.mt_model.History.{column_types}
use Rattle.session.proofs.data.read_block.Goals as goal

pub returns-clause-rows : goal.returns-clause-rows
returns-clause-rows c =
    let text = c.args.text.now in
    let sign = sign_place c.args.schema.now.engine in
    subst (λ (ls : List ℕ). IfOk c.read_rows.result (λ block. inserted_rows (column_types c.args.schema.now) sign ls text.ended ≡ Ok block.rows)) c.as_slice-2.ensures
    (subst (λ (s : Option ℕ). IfOk c.read_rows.result (λ block. inserted_rows (column_types c.args.schema.now) s c.as_slice-2.result.now text.ended ≡ Ok block.rows)) c.sign_place-sign.ensures
    (subst (λ (ts : List ColType). IfOk c.read_rows.result (λ block. inserted_rows ts c.sign_place-sign.result c.as_slice-2.result.now text.ended ≡ Ok block.rows)) (c.as_slice.ensures ∙ c.in_ok-types.ensures) c.read_rows.ensures.rows))

pub returns-clause-refused : goal.returns-clause-refused
returns-clause-refused c =
    let text = c.args.text.now in
    let sign = sign_place c.args.schema.now.engine in
    subst (λ (ls : List ℕ). IfErr c.read_rows.result (Refuses (inserted_rows (column_types c.args.schema.now) sign ls text.ended))) c.as_slice-2.ensures
    (subst (λ (s : Option ℕ). IfErr c.read_rows.result (Refuses (inserted_rows (column_types c.args.schema.now) s c.as_slice-2.result.now text.ended))) c.sign_place-sign.ensures
    (subst (λ (ts : List ColType). IfErr c.read_rows.result (Refuses (inserted_rows ts c.sign_place-sign.result c.as_slice-2.result.now text.ended))) (c.as_slice.ensures ∙ c.in_ok-types.ensures) c.read_rows.ensures.refused))
