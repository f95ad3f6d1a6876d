use Rattle.std.proofs.Common.{sym, ◌∙◌}
use Rattle.mt_values.specs.Schemas.{same_index_name, double_index_at}
use Rattle.mt_values.proofs.Repeats.{repeat_found, repeat_more}
use Rattle.mt_values.proofs.schema.double_index.Goals as goal

pub returns-then-has_index_name : goal.returns-then-has_index_name
returns-then-has_index_name c =
    let indexes = c.args.indexes.now in
    sym (repeat_found same_index_name double_index_at indexes c.loop-place.place c.index-indexes-place.result c.loop-place-test.true c.index-indexes-place.is (sym c.has_index_name.ensures ∙ c.if-has_index_name.true))
    ∙ c.loop-place.invariant

pub loop-place-preserved : goal.loop-place-preserved
loop-place-preserved c =
    let indexes = c.args.indexes.now in
    repeat_more same_index_name double_index_at indexes c.loop-place.place c.index-indexes-place.result c.loop-place-test.true c.index-indexes-place.is (sym c.has_index_name.ensures ∙ c.if-has_index_name.false)
    ∙ c.loop-place.invariant
