-- the columns gone over got their values, and the others are as they were
use Rattle.std.proofs.Common.{◌≡◌, ◌∷◌, [], ℕ, ◌≤◌, get_or, take}
use Rattle.mt_values.specs.Grid.{Cells}
use Rattle.row_merge.specs.part_reader.Columns.{AreEach}
use Rattle.final_fold.proofs.Gains.{GainsRows}
use Rattle.final_fold.proofs.found.add_row.Given as goal

abbrev pub invariant-loop-number : goal.invariant-loop-number
invariant-loop-number l = record {
  gained : AreEach (GainsRows (λ rows. rows ≡ l.row ∷ []) 1) (take l.number l.places) (take l.number l.initial.columns) (take l.number l.columns);
  rest : (k : ℕ) (d : Cells) → l.number ≤ k → get_or l.columns k d ≡ get_or l.initial.columns k d;
}
