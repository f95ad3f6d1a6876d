use Rattle.std.proofs.Common.{◌≡◌, ◌≤◌, ◌-◌, length, drop, false}
use Rattle.mt_values.specs.Tokens.{behind}
use Rattle.sql_read.specs.Blanks.{is_skipped}
use Rattle.sql_read.proofs.blanks.skipped_len.Given as goal

abbrev pub invariant-skip : goal.invariant-skip
invariant-skip l = (behind (is_skipped l.skipped) l.comment (drop l.at l.text) ≡ behind (is_skipped l.skipped) false l.text) × (l.at ≤ length l.text)

abbrev pub decreases-skip : goal.decreases-skip
decreases-skip l = length l.text - l.at
