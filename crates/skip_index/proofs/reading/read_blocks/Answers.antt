use Rattle.std.proofs.Common.{List, drop, subst, sym, arith}
use Rattle.predicate.specs.declared.extent.Known.{Known}
use Rattle.column_file.proofs.Fronts.{handed_on}
use Rattle.skip_index.specs.declared.shapes.BlockShape.{BlockShape}
use Rattle.skip_index.specs.Faults.{ExplainsBlock, ExplainsIndex}
use Rattle.skip_index.specs.Files.{MayKeep}
use Rattle.skip_index.proofs.BlocksRead.{AreBlocksRead, block_more, block_wrong, no_blocks}
use Rattle.skip_index.proofs.reading.read_blocks.Goals as goal

pub loop-block-init : goal.loop-block-init
loop-block-init c = subst (λ (ks : List Known). AreBlocksRead c.args.shape c.args.bytes.now 0 0 ks) (sym c.new-blocks.ensures) (no_blocks c.args.shape c.args.bytes.now)

pub returns-in_err-known-clause-fault : goal.returns-in_err-known-clause-fault
returns-in_err-known-clause-fault c =
    let at = c.loop-block.at in
    handed_on (ExplainsIndex c.args.shape c.args.bytes.now) c.from_residual.result c.in_err-known.field-0.0 c.from_residual.ensures.1
    (block_wrong c.args.shape c.args.bytes.now at c.loop-block.block c.loop-block.blocks c.loop-block.invariant c.in_err-known.field-0.0
    (omega (arith, c.loop-block-test.true, c.block_count-block-end.ensures))
    (subst (λ (b : BlockShape). ExplainsBlock c.args.shape.kind b at (drop at c.args.bytes.now) c.in_err-known.field-0.0) c.block.ensures c.in_err-known.ensures.fault))

pub loop-block-preserved : goal.loop-block-preserved
loop-block-preserved c =
    block_more c.args.shape c.args.bytes.now c.loop-block.at c.loop-block.block c.loop-block.blocks c.loop-block.invariant c.in_ok-known.known c.in_ok-known.size c.push.new.self
    (subst (λ (b : BlockShape). MayKeep c.args.shape.kind b c.in_ok-known.known) c.block.ensures c.in_ok-known.ensures.kept) c.in_ok-known.ensures.spelled c.in_ok-push.ensures.ok
