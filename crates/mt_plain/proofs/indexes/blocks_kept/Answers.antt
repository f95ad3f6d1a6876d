use Rattle.std.proofs.Common.{◌≡◌, ℕ, ◌-◌, ◌*◌, ◌++◌, ◌∷◌, [], List, drop, length, min, take, ap, ap₂, sym, ◌∙◌}
use Rattle.mt_values.specs.declared.value.Value.{Value}
use Rattle.part_history.specs.predicate.declared.extent.Known.{Known}
use Rattle.part_history.specs.predicate.Indexes.{kept_of}
use Rattle.mt_plain.proofs.Indexed.{block_of_rest, kept_more}
use Rattle.mt_plain.proofs.indexes.blocks_kept.Goals as goal

pub loop-block-preserved : goal.loop-block-preserved
loop-block-preserved c =
    let kind = c.args.index.now.kind in
    let size = c.args.schema.now.granularity * c.args.index.now.granularity in
    let values = c.as_slice-values.result.now in
    let block = c.loop-block.block in
    let rest : List Value = take (length values - size * block) (drop (size * block) values) in
    let few : c.min.result ≡ min size (length rest) = c.min.ensures in
    let own : c.in_ok-kept_of.field-0 ≡ kept_of kind (take c.min.result rest) = c.in_ok-kept_of.ensures in
    let one = own ∙ ap (λ (n : ℕ). kept_of kind (take n rest)) few ∙ ap (kept_of kind) (block_of_rest size (size * block) values) in
    c.in_ok-push.ensures.items
    ∙ ap₂ (λ (ks : List Known) (k : Known). ks ++ k ∷ []) c.loop-block.invariant one
    ∙ sym (kept_more kind size values block)
