-- The rows that FINAL sees and that meet the condition, as they are found (docs/architecture.md, "The way of a SELECT").
use Rattle.std.specs.Prelude.{◌≡◌, ◌<◌, ◌^◌, ◌+◌, ◌++◌, ℕ, List, [], All, length, map}
use Rattle.mt_values.specs.Grid.{Cells}
use Rattle.mt_values.specs.Values.{Row}
use Rattle.row_merge.specs.part_reader.Parts.{with_columns}
use Rattle.row_merge.specs.mt_model.Partial.{MergesAll}
use Rattle.final_fold.specs.declared.asking.Wanted.{Wanted}
use Rattle.final_fold.specs.declared.found.Found.{Found}
use Rattle.final_fold.specs.Asked.{IsWanted}
use Rattle.final_fold.specs.Matches.{matching}
use Rattle.final_fold.specs.Scans.{HaveTypes, values_at}

-- what is wanted is of the table, there is a column for each wanted place, and 32 bits count what was found
pub record IsFound (f : Found) : Type 0 where
  pub wanted : IsWanted f.wanted
  pub columns : HaveTypes f.wanted.schema.now f.wanted.places.now f.columns.items
  pub few : f.count < 2 ^ 32

-- nothing was found yet
pub record HasNone (f : Found) : Type 0 where
  pub values : map (λ (c : Cells). c.values) f.columns.items ≡ values_at [] f.wanted.places.now
  pub counted : f.count ≡ 0

-- the matches among these rows were found since the columns were these, and as many were counted
pub record HasFound (rows : List Row) (base : List Cells) (before : ℕ) (f : Found) : Type 0 where
  pub values : f.columns.items ≡ with_columns (matching f.wanted.condition.now rows) f.wanted.places.now base
  pub counted : f.count ≡ before + length (matching f.wanted.condition.now rows)

-- the matches among rows were found, after those that were found before
pub record GetsMatches (old : Found) (rows : List Row) (new : Found) : Type 0 where
  pub wanted_is : new.wanted ≡ old.wanted
  pub has : (done : List Row) (base : List Cells) (before : ℕ) → HasFound done base before old → HasFound (done ++ rows) base before new
  pub even : (n : ℕ) → All (λ (c : Cells). length c.values ≡ n + old.count) old.columns.items → All (λ (c : Cells). length c.values ≡ n + new.count) new.columns.items
  pub found : IsFound new

-- of what a merge of all these rows leaves the matches were found
pub record AddsFold (w : Wanted) (rows : List Row) (old new : Found) : Type 0 where
  pub out : List Row
  pub merges : MergesAll w.schema.now rows out
  pub values : new.columns.items ≡ with_columns (matching w.condition.now out) w.places.now old.columns.items
  pub counted : new.count ≡ old.count + length (matching w.condition.now out)
