use Rattle.std.proofs.Common.{◌+◌, ◌∙◌, ap}
use Rattle.mt_values.specs.Cells.{value_of}
use Rattle.column_file.proofs.Ahead.{looked_more}
use Rattle.column_file.proofs.encoding.cells_at.Goals as goal

pub loop-place-preserved : goal.loop-place-preserved
loop-place-preserved c = record {
  values = looked_more value_of c.args.cells.now.values c.args.places.now c.loop-place.place-index c.loop-place.ahead.items _ c.at.result c.loop-place-test.true c.at.ensures c.loop-place.invariant.values c.push_reserved.ensures.items;
  count = c.push_reserved.ensures.len ∙ ap (λ n. n + 1) c.loop-place.invariant.count;
  room = c.push_reserved.ensures.capacity ∙ c.loop-place.invariant.room;
}
