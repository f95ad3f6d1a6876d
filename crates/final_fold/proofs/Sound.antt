-- What is told of parts that hold rows is no damage.
use Rattle.std.proofs.Common.{◌≡◌, ℕ, Bool, List, Option, sym, length, slice_get, Some}
use Rattle.std.proofs.lemmas.Option.{get_or_from_slice_get, slice_get_within}
use Rattle.mt_values.specs.declared.schema.Schema.{Schema}
use Rattle.mt_values.specs.Schemas.{column_types}
use Rattle.mt_values.specs.Values.{Row}
use Rattle.mt_outside.specs.Files.{Files}
use Rattle.row_merge.specs.column_file.Marks.{granules}
use Rattle.row_merge.specs.part_set.part_name.declared.part.PartName.{PartName}
use Rattle.row_merge.specs.part_reader.declared.reading.Part.{Part}
use Rattle.row_merge.specs.part_reader.declared.reading.PartFault.{PartFault}
use Rattle.row_merge.specs.part_reader.declared.reading.PartFault.TheVariants.{Fault, NoMemory, Damaged}
use Rattle.row_merge.specs.part_reader.Faults.{ExplainsAt, IsNoDamage}
use Rattle.row_merge.specs.part_reader.Granules.{ExplainsChosen, column_in}
use Rattle.row_merge.specs.part_reader.Parts.{PartHolds}
use Rattle.row_merge.specs.part_set.declared.kept.Kept.{Kept}
use Rattle.row_merge.specs.MergedParts.{PartsHold, column_places}
use Rattle.row_merge.proofs.PartReaderHeldColumns.{chosen_of_one}
use Rattle.row_merge.proofs.Sound.{own_held}
use Rattle.final_fold.specs.declared.asking.Wanted.{Wanted}
use Rattle.final_fold.specs.Asked.{named}
use Rattle.final_fold.specs.Folded.{ExplainsFold}
use Rattle.final_fold.specs.Matches.{ExplainsMatches, SayOfEach}
use Rattle.final_fold.proofs.Scanning.{PartAt, part_at, zip_at}

-- ---- a part

module _ {F : Type 0} (files_of : F → Option Files) (schema : Schema) (part : Part F) (rows : List Row) (h : PartHolds files_of schema part rows) where
  -- of columns that were read in chosen granules
  chosen_sound : (places : List ℕ) (chosen : List Bool) (why : PartFault) → length chosen ≡ granules schema.granularity (length rows) → ExplainsAt (λ number t. ExplainsChosen (column_in files_of part number) chosen t) (column_types schema) places why → IsNoDamage why
  chosen_sound places chosen Fault counted e = tt
  chosen_sound places chosen NoMemory counted e = tt
  chosen_sound places chosen (Damaged f place wanted found) counted e =
      chosen_of_one files_of schema part e.number rows (own_held files_of schema part rows h e.number e.col_type e.type_is) e.col_type e.type_is chosen counted (Damaged f place wanted found) e.explained

-- ---- parts

module _ {F : Type 0} (files_of : F → Option Files) (schema : Schema) (parts : List (Kept (Part F))) (rows : List (List Row)) (hold : PartsHold files_of schema parts rows) where
  -- the rows of one of them
  held : (at : ℕ) (k : Kept (Part F)) → slice_get parts at ≡ Some k → PartAt files_of schema k.part at rows
  held at k is = part_at files_of schema parts rows at k hold (slice_get_within parts at k is) (sym (get_or_from_slice_get parts at k k is))

module _ {F : Type 0} (files_of : F → Option Files) (w : Wanted) (parts : List (Kept (Part F))) (chosen : List (List Bool)) (rows : List (List Row)) (hold : PartsHold files_of w.schema.now parts rows) (said : SayOfEach w chosen rows) where
  -- it is said of each granule of one of them whether it is chosen
  counted : (at : ℕ) (own : List Bool) (r : List Row) → slice_get chosen at ≡ Some own → slice_get rows at ≡ Some r → length own ≡ granules w.schema.now.granularity (length r)
  counted at own r own_is r_is = zip_at (λ (c : List Bool) (r : List Row). length c ≡ granules w.schema.now.granularity (length r)) chosen rows at own r said own_is r_is

  pub matches_sound : (e : PartName × PartFault) → ExplainsMatches files_of parts chosen w e → IsNoDamage e.1
  matches_sound e why =
      let own = held files_of w.schema.now parts rows hold why.at why.kept why.kept_is in
      chosen_sound files_of w.schema.now why.kept.part own.rows own.holds (named w) why.own e.1 (counted why.at why.own own.rows why.own_is own.there) why.explained

  pub fold_sound : (e : PartName × PartFault) → ExplainsFold files_of parts chosen w e → IsNoDamage e.1
  fold_sound e why =
      let own = held files_of w.schema.now parts rows hold why.at why.kept why.kept_is in
      chosen_sound files_of w.schema.now why.kept.part own.rows own.holds (column_places w.schema.now) why.own e.1 (counted why.at why.own own.rows why.own_is own.there) why.explained
