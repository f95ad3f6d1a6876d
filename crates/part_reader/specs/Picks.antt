-- What a column gets of the wanted rows of a part (docs/formats.md, "Parts").
use Rattle.std.specs.Prelude.{◌≡◌, ◌+◌, Bool, List, length}
use Rattle.mt_values.specs.declared.value.Value.{Value}
use Rattle.mt_values.specs.Grid.{Cells}
use Rattle.mt_values.specs.Lists.{where_true}
use Rattle.part_damage.specs.column_file.Spellings.{with_values}
use Rattle.part_reader.specs.Granules.{HoldsValues, PartColumn, chosen_of}

-- a column got a value for each row of the chosen granules at which their mask is true: those of the column that is read, where it holds
-- some
pub record GainsPicked (c : PartColumn) (chosen mask : List Bool) (old new : Cells) : Type 0 where
  pub col_type : new.col_type ≡ old.col_type
  pub even : length new.values ≡ length old.values + length (where_true mask mask)
  pub values : (values : List Value) → HoldsValues c old.col_type values → new ≡ with_values old (where_true mask (chosen_of c.loaded.schema.granularity chosen values))
