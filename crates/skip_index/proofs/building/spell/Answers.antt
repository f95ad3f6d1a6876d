use Rattle.std.proofs.Common.{[], List, ap, ◌∙◌, arith, get_or, length}
use Rattle.std.proofs.lemmas.List.{take_all}
use Rattle.predicate.specs.declared.extent.Known.{Known}
use Rattle.column_file.proofs.Fronts.{spelled_more}
use Rattle.skip_index.specs.Blocks.{blocks_bytes, known_bytes}
use Rattle.skip_index.proofs.building.spell.Goals as goal

pub loop-known-preserved : goal.loop-known-preserved
loop-known-preserved c =
    let blocks = c.args.index.now.blocks in
    let same = c.as_slice-known-items.ensures in
    let i = c.loop-known.known-index in
    let known = c.known-item.result in
    spelled_more known_bytes blocks i known [] c.loop-known.bytes c.push_known.new.bytes (omega (arith, c.loop-known-test.true, ap length same))
    (c.known-item.is ∙ ap (λ (ks : List Known). get_or ks i known) same) c.loop-known.invariant c.in_ok-push_known.ensures

pub returns : goal.returns
returns c =
    let blocks = c.args.index.now.blocks in
    c.loop-known.invariant ∙ ap blocks_bytes (take_all c.loop-known.known-index blocks (omega (arith, c.loop-known-test.false, ap length c.as_slice-known-items.ensures)))
