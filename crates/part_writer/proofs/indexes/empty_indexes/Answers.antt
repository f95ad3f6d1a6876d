use Rattle.std.proofs.Common.{List, [], ◌∷◌, ◌++◌, ap₂, sym, ◌∙◌, zero-add}
use Rattle.std.proofs.lemmas.List.FromFn.{map-range_with_len_more}
use Rattle.skip_index.specs.declared.index.Index.{Index}
use Rattle.skip_index.specs.Blocks.{index_of}
use Rattle.part_writer.proofs.indexes.empty_indexes.Goals as goal

pub loop-place-preserved : goal.loop-place-preserved
loop-place-preserved c =
    c.in_ok-push.ensures.items
    ∙ ap₂ (λ (l : List Index) (i : Index). l ++ i ∷ []) c.loop-place.invariant c.in_ok-build.ensures.kept
    ∙ sym (map-range_with_len_more (λ k. index_of c.args.schema.now k []) 0 c.loop-place.place c.loop-place.place (zero-add c.loop-place.place))
