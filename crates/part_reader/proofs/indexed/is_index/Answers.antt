use Rattle.std.proofs.Common.{◌≡◌, ◌<◌, ◌↔◌, ◌∙◌, List, Some, ap, refl, slice_get, subst, sym, true}
use Rattle.std.proofs.lemmas.Option.{get_or_from_slice_get, slice_get-get_or, slice_get_past}
use Rattle.std.proofs.lemmas.Result.{IfOk-weaker}
use Rattle.mt_values.specs.declared.schema.SkipIndex.{SkipIndex}
use Rattle.part_damage.specs.skip_index.declared.index.Index.{Index}
use Rattle.part_damage.specs.skip_index.Blocks.{no_index}
use Rattle.part_reader.specs.Compared.{HasIndexOf, index_kept}
use Rattle.part_reader.proofs.IndexedBlocks.{asked_index, none_kept, other_column, placed_index}
use Rattle.part_reader.proofs.indexed.is_index.Goals as goal

-- an index of another column
pub returns-then-index-column-clause-same : goal.returns-then-index-column-clause-same
returns-then-index-column-clause-same c = λ values s. (
  λ _. other_column c.args.schema.now c.args.loaded.now c.args.column.now.number values c.args.place c.at-index.result.now c.at-index.ensures c.if-index-column.true,
  λ _. refl,
)

pub is_kept-requires-clause-span : goal.is_kept-requires-clause-span
is_kept-requires-clause-span c =
    subst (λ (i : SkipIndex). 0 < i.granularity) (get_or_from_slice_get c.args.schema.now.indexes c.args.place c.at-index.result.now no_index c.at-index.ensures) (c.requires.indexes c.args.place c.requires.place).span

pub returns-in-Some-clause-same : goal.returns-in-Some-clause-same
returns-in-Some-clause-same c = λ values s.
    let schema = c.args.schema.now in
    let loaded = c.args.loaded.now in
    let place = c.args.place in
    let own = c.at-index.result.now in
    let found = c.in-Some.ensures.lookup in
    let kept = c.in-Some.kept.now in
    let x = index_kept schema.granularity own values in
    let there = ap (λ (l : List Index). slice_get l place) (sym c.as_slice.ensures) ∙ slice_get-get_or c.as_slice.result.now place kept found.3.0 ∙ ap Some (sym found.1) in
    IfOk-weaker c.is_kept.result (λ b. (b ≡ true) ↔ (kept ≡ x)) (λ b. (b ≡ true) ↔ HasIndexOf schema loaded c.args.column.now.number values place)
    (λ b h. asked_index schema loaded c.args.column.now.number values place own c.at-index.ensures b c.if-index-column.false (placed_index x kept loaded.indexes place b there h)) (c.is_kept.ensures.same values s)

pub returns-in-None-clause-same : goal.returns-in-None-clause-same
returns-in-None-clause-same c = λ values s.
    let schema = c.args.schema.now in
    let own = c.at-index.result.now in
    asked_index schema c.args.loaded.now c.args.column.now.number values c.args.place own c.at-index.ensures _ c.if-index-column.false
    (none_kept c.args.loaded.now.indexes c.args.place (index_kept schema.granularity own values)
    (ap (λ (l : List Index). slice_get l c.args.place) (sym c.as_slice.ensures) ∙ slice_get_past c.as_slice.result.now c.args.place c.in-None.ensures.lookup.3))
