-- the rows of the parts gone over
use Rattle.std.proofs.Common.{◌≡◌, take}
use Rattle.final_fold.specs.Scans.{rows_kept}
use Rattle.final_fold.proofs.counts.count_rows.Given as goal

abbrev pub invariant-loop-kept : goal.invariant-loop-kept
invariant-loop-kept g l = l.rows ≡ rows_kept (take l.kept-index l.parts)
