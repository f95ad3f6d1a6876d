-- the joints that are left come from the masks on the stack to that of the whole, and each mask has an answer for each row
use Rattle.std.proofs.Common.{drop, map}
use Rattle.mt_values.specs.Grid.{rows_within}
use Rattle.mt_values.specs.Polish.{ComesTo}
use Rattle.mt_values.specs.Tests.{eval}
use Rattle.predicate.specs.Masks.{AreMasks, by_rows}
use Rattle.predicate.proofs.masks.mask_within.Given as goal

abbrev pub invariant-loop-joint : goal.invariant-loop-joint
invariant-loop-joint l = record {
  left : ComesTo (by_rows (rows_within l.columns l.from l.rows)) (map (eval l.condition) (rows_within l.columns l.from l.rows)) l.tests l.masks (drop l.joint-index l.joint-items);
  full : AreMasks (rows_within l.columns l.from l.rows) l.masks;
}
