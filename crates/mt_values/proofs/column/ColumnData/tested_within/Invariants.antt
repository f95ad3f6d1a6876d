-- the literals gone over were asked of every value of the run
use Rattle.std.proofs.Common.{◌≡◌, map, take}
use Rattle.mt_values.specs.Lists.{run_of}
use Rattle.mt_values.proofs.Masks.{any_of}
use Rattle.mt_values.proofs.column.ColumnData.tested_within.Given as goal

abbrev pub invariant-loop-literal : goal.invariant-loop-literal
invariant-loop-literal l =
    l.mask.items ≡ map (any_of l.test.comparison (take l.literal-index l.literal-items)) (run_of l.from l.count l.self.values)
