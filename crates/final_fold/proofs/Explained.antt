-- What a fault says of a part of which rows were asked.
use Rattle.std.proofs.Common.{◌≡◌, ◌⊎◌, inl, inr, ℕ, zero, suc, ◌<◌, Bool, List, [], ◌∷◌, ◌++◌, Option, Some, refl, sym, ap, ◌∙◌, subst, length, get_or, slice_get, All}
use Rattle.std.specs.List.{Contains as HasItem}
use Rattle.std.proofs.lemmas.Option.{get_or_from_slice_get, slice_get-get_or, slice_get_within}
use Rattle.mt_values.specs.declared.value.ColType.{ColType}
use Rattle.mt_values.specs.Schemas.{column_types}
use Rattle.mt_outside.specs.Files.{Files}
use Rattle.row_merge.specs.part_reader.declared.reading.Part.{Part}
use Rattle.row_merge.specs.part_reader.declared.reading.PartFault.{PartFault}
use Rattle.row_merge.specs.part_reader.declared.reading.PartFault.TheVariants.{Fault, NoMemory, Damaged}
use Rattle.row_merge.specs.part_reader.Faults.{ExplainsAt}
use Rattle.row_merge.specs.part_reader.Granules.{ExplainsChosen, column_in}
use Rattle.row_merge.specs.part_set.declared.kept.Kept.{Kept}
use Rattle.final_fold.specs.declared.asking.Wanted.{Wanted}
use Rattle.final_fold.specs.Asked.{named, tested}
use Rattle.final_fold.specs.Matches.{ExplainsAsked, ExplainsMatches}

-- ---- columns that may be read

-- a number is in a list
abbrev Has : List ℕ → ℕ → Type 0
Has xs n = (k : ℕ) × (slice_get xs k ≡ Some n)

has_left : (xs ys : List ℕ) (k n : ℕ) → slice_get xs k ≡ Some n → slice_get (xs ++ ys) k ≡ Some n
has_left [] ys k n here = cc
has_left (x ∷ xs) ys zero n here = here
has_left (x ∷ xs) ys (suc k) n here = has_left xs ys k n here

has_right : (xs ys : List ℕ) (k n : ℕ) → slice_get ys k ≡ Some n → Has (xs ++ ys) n
has_right [] ys k n here = (k, here)
has_right (x ∷ xs) ys k n here = let more = has_right xs ys k n here in (suc more.0, more.1)

has_item : (xs : List ℕ) (n : ℕ) → HasItem xs n → Has xs n
has_item xs n item = (item.0, slice_get-get_or xs item.0 n item.1 ∙ ap Some item.2)

-- damage of a column of one list is damage of one of another list that has it
moved_at : (Explains : ℕ → ColType → PartFault → Type 0) (types : List ColType) (xs ys : List ℕ) (why : PartFault) → ((k n : ℕ) → slice_get xs k ≡ Some n → Has ys n) → ExplainsAt Explains types xs why → ExplainsAt Explains types ys why
moved_at Explains types xs ys Fault has e = tt
moved_at Explains types xs ys NoMemory has e = tt
moved_at Explains types xs ys (Damaged f place wanted found) has e =
    let there = has e.at e.number e.number_is in
    record {
      at = there.0;
      number = e.number;
      col_type = e.col_type;
      number_is = there.1;
      type_is = e.type_is;
      explained = e.explained;
    }

-- ---- a part

module _ {F : Type 0} (files_of : F → Option Files) (part : Part F) (chosen : List Bool) (wanted : Wanted) where
  pub out_of_memory : ExplainsAsked files_of part chosen wanted NoMemory
  out_of_memory = tt

  abbrev Explains : ℕ → ColType → PartFault → Type 0
  Explains number t = ExplainsChosen (column_in files_of part number) chosen t

  -- of columns that are read for the condition
  asked_explained : (asked : List ℕ) (why : PartFault) → All (HasItem (tested wanted.condition.now)) asked → ExplainsAt Explains (column_types wanted.schema.now) asked why → ExplainsAsked files_of part chosen wanted why
  asked_explained asked why are e =
      moved_at Explains (column_types wanted.schema.now) asked (named wanted) why
      (λ k n here.
      let item : HasItem (tested wanted.condition.now) n = subst (HasItem (tested wanted.condition.now)) (get_or_from_slice_get asked k n 0 here) (are k 0 (slice_get_within asked k n here)) in
      let there = has_item (tested wanted.condition.now) n item in
      (there.0, has_left (tested wanted.condition.now) wanted.places.now there.0 n there.1))
      e

  -- of the wanted ones
  wanted_explained : (why : PartFault) → ExplainsAt Explains (column_types wanted.schema.now) wanted.places.now why → ExplainsAsked files_of part chosen wanted why
  wanted_explained why e = moved_at Explains (column_types wanted.schema.now) wanted.places.now (named wanted) why (λ k n here. has_right (tested wanted.condition.now) wanted.places.now k n here) e

  -- of either
  pub part_said : (asked : List ℕ) (why : PartFault) → All (HasItem (tested wanted.condition.now)) asked → (ExplainsAt Explains (column_types wanted.schema.now) asked why ⊎ ExplainsAt Explains (column_types wanted.schema.now) wanted.places.now why) → ExplainsAsked files_of part chosen wanted why
  part_said asked why are (inl own) = asked_explained asked why are own
  part_said asked why are (inr own) = wanted_explained why own

-- ---- parts

-- what is said of a part at its place
pub part_explained : {F : Type 0} (files_of : F → Option Files) (parts : List (Kept (Part F))) (chosen : List (List Bool)) (wanted : Wanted) (at : ℕ) (kept : Kept (Part F)) (own : List Bool) (why : PartFault) → at < length parts → kept ≡ get_or parts at kept → slice_get chosen at ≡ Some own
    → ExplainsAsked files_of kept.part own wanted why → ExplainsMatches files_of parts chosen wanted (kept.name, why)
part_explained files_of parts chosen wanted at kept own why within kept_is own_is e = record {
  at = at;
  kept = kept;
  own = own;
  kept_is = slice_get-get_or parts at kept within ∙ ap Some (sym kept_is);
  own_is = own_is;
  name_is = refl;
  explained = e;
}
