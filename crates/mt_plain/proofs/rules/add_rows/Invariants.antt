-- the rows so far
use Rattle.std.proofs.Common.{◌≡◌, ◌++◌, take}
use Rattle.mt_plain.proofs.rules.add_rows.Given as goal

abbrev pub invariant-loop-row : goal.invariant-loop-row
invariant-loop-row l = l.own ≡ l.fn.own ++ take l.row-index l.rows
