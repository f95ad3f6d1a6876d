use Rattle.std.proofs.Common.{length}
use Rattle.mt_plain.proofs.merges.+merges_of.Given as goal

abbrev pub decreases-merges_of : goal.decreases-merges_of
decreases-merges_of l = length l.rows.now
