use Rattle.std.proofs.Common.{◌≡◌, ◌<◌, [], ◌∷◌, ◌++◌, List, ℕ, Some, get_or, length, slice_get, ap, sym, ◌∙◌, arith, option_map}
use Rattle.std.proofs.lemmas.List.{get_or_default}
use Rattle.std.proofs.lemmas.Option.{slice_get-map}
use Rattle.mt_values.specs.declared.schema.Column.{Column}
use Rattle.mt_values.specs.declared.value.ColType.{ColType}
use Rattle.mt_values.specs.Schemas.{column_types}
use Rattle.mt_values.proofs.Grids.{filter_map_more}
use Rattle.primary_marks.proofs.reading.primary_types.Goals as goal

pub loop-place-preserved : goal.loop-place-preserved
loop-place-preserved c =
    let primary = c.args.schema.now.primary in
    let items = c.as_slice-place-items.result.now in
    let i = c.loop-place.place-index in
    let p = get_or items i 0 in
    let same = c.as_slice-place-items.ensures in
    let below : i < length primary = omega (arith, c.loop-place-test.true, ap length same) in
    let there : p ≡ get_or primary i p = get_or_default items i 0 p c.loop-place-test.true ∙ ap (λ (xs : List ℕ). get_or xs i p) same in
    let type_is : slice_get (column_types c.args.schema.now) p ≡ Some c.at.result.now.col_type =
    slice_get-map (λ (x : Column). x.col_type) c.args.schema.now.columns p ∙ ap (option_map (λ (x : Column). x.col_type)) c.at.ensures in
    c.in_ok-push.ensures.ok ∙ ap (λ (ts : List ColType). ts ++ c.at.result.now.col_type ∷ []) c.loop-place.invariant
    ∙ sym (filter_map_more (slice_get (column_types c.args.schema.now)) primary i p c.at.result.now.col_type below there type_is)
