-- those of the rows so far that are left
use Rattle.mt_plain.specs.Outcomes.{AreExactly}
use Rattle.mt_plain.proofs.Newest.{IsAmong}
use Rattle.mt_plain.proofs.replacing.newest_left.Given as goal

abbrev pub invariant-loop-place : goal.invariant-loop-place
invariant-loop-place l = AreExactly l.outs.items (IsAmong l.version l.rows l.place)
