-- the rows so far
use Rattle.std.proofs.Common.{◌≡◌, map, take}
use Rattle.mt_values.specs.Order.{key_of}
use Rattle.mt_plain.proofs.keys.picked_rows.Given as goal

abbrev pub invariant-loop-row : goal.invariant-loop-row
invariant-loop-row l = l.picked.items ≡ map (key_of l.columns) (take l.row-index l.rows)
