-- What is told of parts that hold rows is no damage.
use Rattle.std.proofs.Common.{◌≡◌, ℕ, ◌<◌, inl, inr, List, [], ◌∷◌, Option, refl, sym, length, slice_get, arith, Some}
use Rattle.std.proofs.lemmas.List.{length-map}
use Rattle.std.proofs.lemmas.List.Elements.{All-cons, All-nil}
use Rattle.std.proofs.lemmas.Option.{get_or_from_slice_get, slice_get_within}
use Rattle.mt_base.specs.declared.name.FileId.TheVariants as file
use Rattle.mt_values.specs.declared.schema.Column.{Column}
use Rattle.mt_values.specs.declared.schema.Schema.{Schema}
use Rattle.mt_values.specs.declared.value.ColType.{ColType}
use Rattle.mt_values.specs.Schemas.{column_types}
use Rattle.mt_values.specs.Values.{Row}
use Rattle.mt_outside.specs.Files.{Files}
use Rattle.part_history.specs.part_name.declared.part.PartName.{PartName}
use Rattle.part_reader.specs.declared.reading.Part.{Part}
use Rattle.part_reader.specs.declared.reading.PartFault.{PartFault}
use Rattle.part_reader.specs.declared.reading.PartFault.TheVariants.{Fault, NoMemory, Damaged}
use Rattle.part_reader.specs.Faults.{IsNoDamage}
use Rattle.part_reader.specs.Parts.{HoldsAt, PartHolds}
use Rattle.part_reader.proofs.HeldColumns.{granule_at}
use Rattle.part_reader.proofs.Holding.{holds_at}
use Rattle.part_set.specs.declared.kept.Kept.{Kept}
use Rattle.row_merge.specs.MergedParts.{ExplainsMerge, ExplainsPart, PartsHold}
use Rattle.row_merge.proofs.Readers.{held_shape}
use Rattle.row_merge.proofs.SealedMerges.{part_at}

module _ {F : Type 0} (files_of : F → Option Files) (schema : Schema) (part : Part F) (rows : List Row) (h : PartHolds files_of schema part rows) where
  -- each of its columns is held by itself
  pub own_held : (number : ℕ) (t : ColType) → slice_get (column_types schema) number ≡ Some t → HoldsAt files_of schema part (file.Column number ∷ []) rows
  own_held number t typed =
      let below : number < length schema.columns = omega (arith, slice_get_within (column_types schema) number t typed, length-map schema.columns (λ (c : Column). c.col_type)) in
      holds_at files_of schema part rows (number ∷ []) h (All-cons (λ p. p < length schema.columns) number [] below (All-nil (λ p. p < length schema.columns)))

  -- of granules of its columns that were read one by one
  pub whole_sound : (why : PartFault) → ExplainsPart files_of schema part why → IsNoDamage why
  whole_sound Fault e = tt
  whole_sound NoMemory e = tt
  whole_sound (Damaged f place wanted found) (inl other) = absurd (other.other (held_shape files_of schema part rows h))
  whole_sound (Damaged f place wanted found) (inr e) =
      granule_at files_of schema part (e.number ∷ []) rows (own_held e.number e.col_type e.type_is) e.explained.granule (Damaged f place wanted found) e.explained.some
      (record { at = 0; number = e.number; col_type = e.col_type; number_is = refl; type_is = e.type_is; explained = e.explained.explained })

module _ {F : Type 0} (files_of : F → Option Files) (schema : Schema) (parts : List (Kept (Part F))) (rows : List (List Row)) (hold : PartsHold files_of schema parts rows) where
  pub merge_sound : (e : PartName × PartFault) → ExplainsMerge files_of schema parts e → IsNoDamage e.1
  merge_sound e why =
      let own = part_at files_of schema parts rows why.at why.kept hold (slice_get_within parts why.at why.kept why.kept_is) (sym (get_or_from_slice_get parts why.at why.kept why.kept why.kept_is)) in
      whole_sound files_of schema why.kept.part own.rows own.holds e.1 why.explained
