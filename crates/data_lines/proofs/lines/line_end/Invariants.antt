use Rattle.std.proofs.Common.{◌≡◌, ◌-◌, length, false}
use Rattle.mt_values.specs.Script.{line_from}
use Rattle.data_lines.proofs.LineRuns.{line_to}
use Rattle.data_lines.proofs.lines.line_end.Given as goal

abbrev pub invariant-marks : goal.invariant-marks
invariant-marks l = line_to l.text l.at ≡ line_from false l.text

abbrev pub decreases-marks : goal.decreases-marks
decreases-marks l = length l.text - l.at
