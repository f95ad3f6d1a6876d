-- each of the values gone over is seen once
use Rattle.std.proofs.Common.{◌≡◌, map, take}
use Rattle.mt_values.specs.Cells.{value_of}
use Rattle.skip_index.specs.Blocks.{distinct_of}
use Rattle.skip_index.proofs.building.seen_of.Given as goal

abbrev pub invariant-loop-value : goal.invariant-loop-value
invariant-loop-value l = map value_of l.seen.keys ≡ distinct_of (take l.value-index l.values)
