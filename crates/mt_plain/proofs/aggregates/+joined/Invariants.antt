use Rattle.std.proofs.Common.{◌+◌}
use Rattle.mt_plain.proofs.aggregates.+joined.Given as goal

abbrev pub decreases-joined : goal.decreases-joined
decreases-joined l = l.m + l.n
