use Rattle.std.proofs.Common.{◌≡◌, ◌≤◌, ◌-◌, length, take, drop}
use Rattle.mt_values.specs.Script.{data_ended, data_of}
use Rattle.data_lines.proofs.DataLines.{with_lines}
use Rattle.data_lines.proofs.lines.data_extent.Given as goal

abbrev pub invariant-lines : goal.invariant-lines
invariant-lines l =
    (with_lines (take l.lines l.text) (data_of (drop l.lines l.text)) ≡ data_of l.text) × (data_ended (drop l.lines l.text) ≡ data_ended l.text) × (l.lines ≤ length l.text)

abbrev pub decreases-lines : goal.decreases-lines
decreases-lines l = length l.text - l.lines
