use Rattle.std.proofs.Common.{◌+◌, List, drop, sym, ap, ◌∙◌}
use Rattle.std.proofs.lemmas.List.{at_drop_all, at_drop_more}
use Rattle.mt_values.specs.declared.schema.SkipIndex.{SkipIndex}
use Rattle.part_history.specs.mt_model.Explain.{pending_above}
use Rattle.mt_plain.specs.Portions.{with_index, with_indexes}
use Rattle.mt_plain.proofs.Pruning.{all_beside}
use Rattle.mt_plain.proofs.mutations.indexes_beside.Goals as goal

pub loop-index-preserved : goal.loop-index-preserved
loop-index-preserved c =
    let pending = pending_above c.args.mutations.now c.args.version in
    let indexes = c.args.indexes.now in
    let left = c.loop-index.left.items in
    let rest = drop (c.loop-index.index-index + 1) indexes in
    let step = at_drop_more (with_indexes pending left) indexes c.loop-index.index-index c.index-item.result c.loop-index-test.true in
    let item = ap (λ (i : SkipIndex). with_indexes pending (with_index pending left i) rest) (sym c.index-item.is) in
    ap (λ (is : List SkipIndex). with_indexes pending is rest) c.in_ok-add_index.ensures ∙ sym (step ∙ item) ∙ c.loop-index.invariant

pub returns : goal.returns
returns c =
    let pending = pending_above c.args.mutations.now c.args.version in
    sym (at_drop_all (with_indexes pending c.loop-index.left.items) c.args.indexes.now c.loop-index.index-index c.loop-index-test.false)
    ∙ c.loop-index.invariant ∙ all_beside pending c.args.indexes.now
