-- the parts gone over have no more rows
use Rattle.std.proofs.Common.{◌≤◌, All, take}
use Rattle.row_merge.proofs.streams.most_rows.Given as goal

abbrev pub invariant-loop-kept : goal.invariant-loop-kept
invariant-loop-kept g l = All (λ k. k.part.loaded.manifest.rows ≤ l.most) (take l.kept-index l.parts)
