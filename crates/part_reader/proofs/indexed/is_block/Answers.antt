use Rattle.std.proofs.Common.{◌≡◌, ◌<◌, ◌↔◌, ◌∙◌, All, ap, length, subst, sym, true}
use Rattle.std.specs.List.{range_with_len}
use Rattle.mt_values.proofs.Grids.{All-range}
use Rattle.part_damage.specs.predicate.declared.extent.Known.{Known}
use Rattle.part_damage.specs.skip_index.Blocks.{kept_of}
use Rattle.part_reader.proofs.IndexedBlocks.{all_values}
use Rattle.part_reader.proofs.indexed.is_block.Goals as goal

pub kept_of-requires : goal.kept_of-requires
kept_of-requires c =
    let many = length c.args.values.now.values in
    subst (All (λ place. place < many)) (sym (c.as_slice.ensures ∙ c.in_ok-places.ensures ∙ ap (range_with_len 0) c.len.ensures.count)) (All-range (λ place. place < many) many (λ place below. below))

pub returns-clause-same : goal.returns-clause-same
returns-clause-same c =
    let values = c.args.values.now.values in
    subst (λ (k : Known). (c.is_known.result ≡ true) ↔ (c.args.kept.now ≡ k))
    (c.in_ok-found.ensures ∙ ap (kept_of c.args.kind) (all_values values _ (c.as_slice.ensures ∙ c.in_ok-places.ensures ∙ ap (range_with_len 0) c.len.ensures.count))) c.is_known.ensures
