use Rattle.std.proofs.Common.{length}
use Rattle.mt_plain.proofs.lefts.+all_seen.Given as goal

abbrev pub decreases-all_seen : goal.decreases-all_seen
decreases-all_seen l = length l.rows.now
