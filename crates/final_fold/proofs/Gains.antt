-- What each of some columns gets of rows.
use Rattle.std.proofs.Common.{◌≡◌, ℕ, ◌+◌, List, [], ◌∷◌, refl, ap₂, length}
use Rattle.mt_values.specs.Grid.{Cells, column_of}
use Rattle.mt_values.specs.Values.{Row}
use Rattle.row_merge.specs.part_reader.Columns.{AreEach}
use Rattle.row_merge.specs.part_reader.Parts.{with_columns}
use Rattle.row_merge.specs.column_file.Spellings.{with_values}

-- a column got values: as many for each, and where the rows are known those at its place
pub record GainsRows (IsRead : List Row → Type 0) (count place : ℕ) (old new : Cells) : Type 0 where
  pub col_type : new.col_type ≡ old.col_type
  pub even : length new.values ≡ length old.values + count
  pub values : (rows : List Row) → IsRead rows → new ≡ with_values old (column_of place rows)

module _ (IsRead : List Row → Type 0) (count : ℕ) where
  pub gained_rows : (rows : List Row) (places : List ℕ) (olds news : List Cells) → IsRead rows → AreEach (GainsRows IsRead count) places olds news → news ≡ with_columns rows places olds
  gained_rows rows [] [] [] is gained = refl
  gained_rows rows [] [] (n ∷ news) is gained = absurd gained
  gained_rows rows [] (o ∷ olds) [] is gained = absurd gained
  gained_rows rows [] (o ∷ olds) (n ∷ news) is gained = absurd gained
  gained_rows rows (p ∷ places) [] [] is gained = absurd gained
  gained_rows rows (p ∷ places) [] (n ∷ news) is gained = absurd gained
  gained_rows rows (p ∷ places) (o ∷ olds) [] is gained = absurd gained
  gained_rows rows (p ∷ places) (o ∷ olds) (n ∷ news) is gained =
      ap₂ (λ (c : Cells) (cs : List Cells). c ∷ cs) (gained.0.values rows is) (gained_rows rows places olds news is gained.1)
