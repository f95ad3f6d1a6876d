use Rattle.std.proofs.Common.{sym, ◌∙◌}
use Rattle.mt_values.specs.Schemas.{same_name, double_column_at}
use Rattle.mt_values.proofs.Repeats.{repeat_found, repeat_more}
use Rattle.mt_values.proofs.schema.double_column.Goals as goal

pub returns-then-has_name : goal.returns-then-has_name
returns-then-has_name c =
    let columns = c.args.columns.now in
    sym (repeat_found same_name double_column_at columns c.loop-place.place c.index-columns-place.result c.loop-place-test.true c.index-columns-place.is (sym c.has_name.ensures ∙ c.if-has_name.true))
    ∙ c.loop-place.invariant

pub loop-place-preserved : goal.loop-place-preserved
loop-place-preserved c =
    let columns = c.args.columns.now in
    repeat_more same_name double_column_at columns c.loop-place.place c.index-columns-place.result c.loop-place-test.true c.index-columns-place.is (sym c.has_name.ensures ∙ c.if-has_name.false)
    ∙ c.loop-place.invariant
