-- Of columns of a part that hold rows nothing is damaged, whichever granules are read.
use Rattle.std.proofs.Common.{◌≡◌, ℕ, ◌+◌, ◌<◌, ◌≤◌, Bool, List, [], ◌∷◌, Option, Some, refl, sym, ap, length, map, slice_get, filter_map, arith}
use Rattle.mt_base.specs.declared.name.FileId.TheVariants as file
use Rattle.mt_values.specs.declared.schema.Schema.{Schema}
use Rattle.mt_values.specs.declared.value.ColType.{ColType}
use Rattle.mt_values.specs.Grid.{Cells}
use Rattle.mt_values.specs.Schemas.{column_types}
use Rattle.mt_values.specs.Values.{Row}
use Rattle.mt_outside.specs.Files.{Files}
use Rattle.part_damage.specs.column_file.Marks.{granules}
use Rattle.part_damage.specs.part_writer.declared.loaded.Loaded.{Loaded}
use Rattle.part_reader.specs.declared.reading.Part.{Part}
use Rattle.part_reader.specs.declared.reading.PartFault.{PartFault}
use Rattle.part_reader.specs.declared.reading.PartFault.TheVariants.{Fault, NoMemory, Damaged}
use Rattle.part_reader.specs.declared.runs.Run.{Run}
use Rattle.part_reader.specs.Faults.{ExplainsAt, ExplainsEach, IsNoDamage}
use Rattle.part_reader.specs.Granules.{ExplainsChosen, ExplainsRun, column_in, rows_in}
use Rattle.part_reader.specs.Parts.{HoldsAt}
use Rattle.part_reader.specs.Readings.{ExplainsLeft, lone}
use Rattle.part_reader.proofs.ChosenColumns.{run_sound}
use Rattle.part_reader.proofs.CutRows.{explained_at}
use Rattle.part_reader.proofs.Holding.{columns_within}
use Rattle.part_reader.proofs.LeftGranules.{rows_within}

module _ {F : Type 0} (files_of : F → Option Files) (schema : Schema) (part : Part F) (places : List ℕ) (rows : List Row) (h : HoldsAt files_of schema part (map file.Column places) rows) where
  -- the part has as many granules as the rows
  same_granules : granules schema.granularity (length rows) ≡ granules part.loaded.schema.granularity part.loaded.manifest.rows
  same_granules = sym (ap (λ (l : Loaded). granules l.schema.granularity l.manifest.rows) h.loaded_is)

  -- of a run of granules
  pub run_at : (run : Run) (fault : PartFault) → run.first + run.count ≤ granules schema.granularity (length rows) → ExplainsAt (λ number t. ExplainsRun (column_in files_of part number) run t) (column_types schema) places fault → IsNoDamage fault
  run_at run Fault within why = tt
  run_at run NoMemory within why = tt
  run_at run (Damaged f place wanted found) within why =
      run_sound files_of schema part places rows h why.at why.number why.col_type run (Damaged f place wanted found) why.number_is why.type_is (omega (arith, within, same_granules)) why.explained

  -- of a granule that has a row
  pub granule_at : (granule : ℕ) (fault : PartFault) → 0 < rows_in part.loaded (lone granule) → ExplainsAt (λ number t. ExplainsRun (column_in files_of part number) (lone granule) t) (column_types schema) places fault → IsNoDamage fault
  granule_at granule fault some why = run_at (lone granule) fault (omega (arith, rows_within part.loaded granule some, same_granules)) why

  -- of the first granule that is left
  pub left_at : (left : List Bool) (fault : PartFault) → ExplainsAt (λ number t. ExplainsLeft (column_in files_of part number) left t) (column_types schema) places fault → IsNoDamage fault
  left_at left Fault why = tt
  left_at left NoMemory why = tt
  left_at left (Damaged f place wanted found) why =
      granule_at why.explained.granule (Damaged f place wanted found) why.explained.first.some
      (record { at = why.at; number = why.number; col_type = why.col_type; number_is = why.number_is; type_is = why.type_is; explained = why.explained.explained })

  module _ (chosen : List Bool) (said : length chosen ≡ granules schema.granularity (length rows)) where
    -- of chosen granules
    pub chosen_at : (fault : PartFault) → ExplainsAt (λ number t. ExplainsChosen (column_in files_of part number) chosen t) (column_types schema) places fault → IsNoDamage fault
    chosen_at Fault why = tt
    chosen_at NoMemory why = tt
    chosen_at (Damaged f place wanted found) why =
        run_sound files_of schema part places rows h why.at why.number why.col_type why.explained.run (Damaged f place wanted found) why.number_is why.type_is (omega (arith, why.explained.run_is.within, said, same_granules)) why.explained.explained

    pub chosen_each : (columns : List Cells) (fault : PartFault) → map (λ (c : Cells). c.col_type) columns ≡ filter_map (slice_get (column_types schema)) places → ExplainsEach (λ number t. ExplainsChosen (column_in files_of part number) chosen t) places columns fault → IsNoDamage fault
    chosen_each columns fault typed why =
        chosen_at fault (explained_at (λ number t. ExplainsChosen (column_in files_of part number) chosen t) (column_types schema) places columns fault (columns_within files_of schema part places rows h) typed why)

-- of chosen granules of one column
pub chosen_of_one : {F : Type 0} (files_of : F → Option Files) (schema : Schema) (part : Part F) (number : ℕ) (rows : List Row) → HoldsAt files_of schema part (file.Column number ∷ []) rows → (t : ColType) → slice_get (column_types schema) number ≡ Some t
    → (chosen : List Bool) → length chosen ≡ granules schema.granularity (length rows) → (fault : PartFault) → ExplainsChosen (column_in files_of part number) chosen t fault → IsNoDamage fault
chosen_of_one files_of schema part number rows h t type_is chosen said fault why =
    run_sound files_of schema part (number ∷ []) rows h 0 number t why.run fault refl type_is (omega (arith, why.run_is.within, said, same_granules files_of schema part (number ∷ []) rows h)) why.explained
