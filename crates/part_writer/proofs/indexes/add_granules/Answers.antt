use Rattle.std.proofs.Common.{◌<◌, List, arith, length}
use Rattle.mt_values.specs.Grid.{picked}
use Rattle.mt_values.specs.Values.{Row}
use Rattle.part_writer.proofs.GrownIndexes.{index_here, indexes_begun, indexes_grown, indexes_more}
use Rattle.part_writer.proofs.indexes.add_granules.Goals as goal

pub loop-place-init : goal.loop-place-init
loop-place-init c = λ rows typed whole are. indexes_begun c.args.schema.now rows (picked c.args.block.now.rows c.args.order.now) c.args.indexes.now are

pub loop-place-preserved : goal.loop-place-preserved
loop-place-preserved c = λ rows typed whole are.
    let schema = c.args.schema.now in
    let more : List Row = picked c.args.block.now.rows c.args.order.now in
    let n = c.loop-place.place in
    let below : n < length schema.indexes = omega (arith, c.requires.each, c.loop-place.auto.indexes, c.loop-place-test.true) in
    let before = c.loop-place.invariant rows typed whole are in
    indexes_more schema rows more c.loop-place.indexes n c.add_granule.new.index before below (c.in_ok-add_granule.ensures rows typed whole (index_here schema rows more c.loop-place.indexes n _ before below))

pub returns : goal.returns
returns c = λ rows typed whole are.
    indexes_grown c.args.schema.now rows (picked c.args.block.now.rows c.args.order.now) c.loop-place.indexes c.loop-place.place (c.loop-place.invariant rows typed whole are)
    (omega (arith, c.requires.each, c.loop-place.auto.indexes, c.loop-place-test.false))
