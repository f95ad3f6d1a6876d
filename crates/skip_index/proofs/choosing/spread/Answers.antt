use Rattle.std.proofs.Common.{◌+◌, [], ◌∷◌, ◌++◌, ap, ap₂, slice_get, sym, ◌∙◌, zero-add}
use Rattle.std.specs.Option.{unwrap_or}
use Rattle.std.proofs.lemmas.List.FromFn.{map-range_with_len_more}
use Rattle.skip_index.proofs.Spread.{answer_of}
use Rattle.skip_index.proofs.choosing.spread.Goals as goal

pub loop-granule-preserved : goal.loop-granule-preserved
loop-granule-preserved c =
    let granule = c.loop-granule.granule in
    record {
      answers = c.push_reserved.ensures.items
          ∙ ap₂ (λ l x. l ++ x ∷ []) c.loop-granule.invariant.answers
          (c.answer_at.ensures ∙ ap (λ block. unwrap_or (slice_get c.args.answers.now block) c.args.untold) c.block_of-block.ensures)
          ∙ sym (map-range_with_len_more (answer_of c.args.answers.now c.args.untold c.args.index.now.span) 0 granule granule (zero-add granule));
      count = c.push_reserved.ensures.len ∙ ap (λ n. n + 1) c.loop-granule.invariant.count;
      room = c.push_reserved.ensures.capacity ∙ c.loop-granule.invariant.room;
    }
