use Rattle.std.proofs.Common.{◌<◌, All, [], ap, arith, length, subst, sym, refl, ◌∙◌}
use Rattle.std.specs.List.{range_with_len}
use Rattle.mt_values.specs.Schemas.{column_types}
use Rattle.part_writer.specs.Growing.{columns_of}
use Rattle.part_writer.proofs.Contents.{content_length}
use Rattle.part_writer.proofs.KeptRows.{kept_none, own_within}
use Rattle.part_writer.proofs.grown.Grown.new.Goals as goal

pub overflow_cast-width : goal.overflow_cast-width
overflow_cast-width c = omega (arith, c.requires.few, content_length c.args.schema.now, c.len-width.ensures)

pub empty_indexes-requires-clause-few : goal.empty_indexes-requires-clause-few
empty_indexes-requires-clause-few c = omega (arith, c.requires.few, content_length c.args.schema.now)

pub empty_columns-requires-2 : goal.empty_columns-requires-2
empty_columns-requires-2 c =
    let all = c.deref.ensures.value ∙ c.in_ok-all.ensures ∙ ap (range_with_len 0) c.len-width.ensures in
    subst (All (λ p. p < length c.args.schema.now.columns)) (sym all) (own_within c.args.schema.now)

pub returns-clause-rows : goal.returns-clause-rows
returns-clause-rows c =
    let types = column_types c.args.schema.now in
    let all = c.deref.ensures.value ∙ c.in_ok-all.ensures ∙ ap (range_with_len 0) c.len-width.ensures in
    kept_none _ c.args.schema.now c.in_ok-own.ensures c.requires refl (c.in_ok-columns.ensures.count ∙ c.len-width.ensures) c.in_ok-columns.ensures.none
    (c.in_ok-keys.ensures ∙ ap (λ ps. columns_of types ps []) c.as_slice.ensures) c.in_ok-indexes.ensures (c.in_ok-pending.ensures ∙ ap (λ ps. columns_of types ps []) all) refl
