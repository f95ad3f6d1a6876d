use Rattle.std.proofs.Common.{length}
use Rattle.mt_plain.proofs.collapsing.+sublists.Given as goal

abbrev pub decreases-sublists : goal.decreases-sublists
decreases-sublists l = length l.rows.now
