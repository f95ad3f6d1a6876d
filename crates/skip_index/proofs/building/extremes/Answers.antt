use Rattle.mt_values.specs.Cells.{value_of}
use Rattle.skip_index.specs.Blocks.{greater, lesser}
use Rattle.skip_index.proofs.Extremes.{fold_more}
use Rattle.skip_index.proofs.building.extremes.Goals as goal

pub loop-place-preserved : goal.loop-place-preserved
loop-place-preserved c = record {
  least = fold_more lesser (value_of c.args.first) c.args.cells.now.values c.args.places.now c.loop-place.place-index (value_of c.at-cell.result) _ _ c.loop-place-test.true c.at-cell.ensures c.loop-place.invariant.least c.lesser-least.ensures;
  greatest = fold_more greater (value_of c.args.first) c.args.cells.now.values c.args.places.now c.loop-place.place-index (value_of c.at-cell.result) _ _ c.loop-place-test.true c.at-cell.ensures c.loop-place.invariant.greatest c.greater-greatest.ensures;
}
