-- the state holds the first row and the others so far
use Rattle.std.proofs.Common.{◌∷◌, All, take}
use Rattle.row_merge.specs.Merged.{rows_of}
use Rattle.row_merge.proofs.folding.fold_key.Given as goal

abbrev pub invariant-loop-row : goal.invariant-loop-row
invariant-loop-row g l = All (g.Q.RowRule.takes l.rule) (l.first ∷ rows_of l.others) → g.Q.RowRule.holds l.rule l.state (l.first ∷ rows_of (take l.row-index l.others))
