-- a line for each row so far
use Rattle.std.proofs.Common.{◌≡◌, map, take}
use Rattle.mt_values.specs.Printing.{line}
use Rattle.mt_plain.proofs.printing.all_lines.Given as goal

abbrev pub invariant-loop-row : goal.invariant-loop-row
invariant-loop-row l = l.lines.items ≡ map line (take l.row-index l.rows)
