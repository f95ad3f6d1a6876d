-- Replies that need no store (docs/replies.md).
use Rattle.std.specs.Prelude.{◌≡◌, ℕ, List, ◌++◌, length, flat_map}
use Rattle.mt_values.specs.Grid.{AreRowsOf, Grid, IsOrderBy, picked}
use Rattle.mt_values.specs.Order.{key_of}
use Rattle.mt_values.specs.Printing.{line}
use Rattle.mt_outside.specs.declared.disk.DiskError.{DiskError}
use Rattle.mt_outside.specs.declared.disk.DiskError.TheVariants as failure
use Rattle.mt_model.specs.declared.refusal.Refusal.TheVariants as refusal
use Rattle.mt_model.specs.Refusals.{refusal_line}
use Rattle.mt_model.specs.Reply.{rows_line}

-- the reply where parts were not read, or a stage was not sealed; there is none where memory ran out
abbrev pub IsLineOfStage : DiskError → List ℕ → Type 0
IsLineOfStage failure.NoMemory line = ⊥
IsLineOfStage failure.Fault line = line ≡ refusal_line refusal.Failed

-- the lines of the rows of a block, of each the values of the columns at these positions, sorted by them from left to right, after the number of
-- the rows and the length of the history
pub record Printed (block : Grid) (shown : List ℕ) (place : ℕ) (reply : List ℕ) : Type 0 where
  pub order : List ℕ
  pub by : IsOrderBy shown block.rows order
  pub typed : AreRowsOf block.types block.rows
  pub reply_is : reply ≡ rows_line (length block.rows) place ++ flat_map (λ row. line (key_of shown row)) (picked block.rows order)
