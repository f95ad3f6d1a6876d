-- Rows of a part that meet what is asked, added to columns granule after granule.
use Rattle.std.proofs.Common.{◌≡◌, ℕ, ◌+◌, ◌≤◌, ◌⊎◌, inl, inr, Bool, true, false, List, [], ◌∷◌, ◌++◌, Option, Some, refl, sym, ap, ap₂, ◌∙◌, subst, length, length-append, length-take, length-drop, map, take, drop, slice_get, filter_map, All, arith, append-nil, append_assoc}
use Rattle.mt_base.specs.declared.name.FileId.TheVariants as file
use Rattle.mt_values.specs.Grid.{Cells}
use Rattle.mt_values.specs.Schemas.{column_types}
use Rattle.mt_values.specs.Values.{Row}
use Rattle.mt_outside.specs.Files.{Files}
use Rattle.row_merge.specs.part_reader.declared.reading.PartFault.{PartFault}
use Rattle.row_merge.specs.part_reader.Faults.{ExplainsAt}
use Rattle.row_merge.specs.part_reader.Granules.{ExplainsChosen, chosen_of, column_in}
use Rattle.row_merge.specs.part_reader.Parts.{HoldsAt, with_columns}
use Rattle.row_merge.specs.part_reader.Readings.{count_left, from_granule, past}
use Rattle.row_merge.specs.part_reader.Sieves.{AddsMet, ExplainsSifting, Sifting, met_items, rows_met}
use Rattle.row_merge.proofs.PartReaderLeftGranules.{chosen_explained, from_among}
use Rattle.row_merge.proofs.PartReaderMetLeft.{added_parted, added_within, met_none}
use Rattle.final_fold.proofs.RowValues.{with_more, with_none}

-- at most all items are chosen
pub chosen_few : {X : Type 0} (g : ℕ) (chosen : List Bool) (xs : List X) → length (chosen_of g chosen xs) ≤ length xs
chosen_few g [] xs = omega arith
chosen_few g (true ∷ chosen) xs =
    let rest = chosen_few g chosen (drop g xs) in
    omega (arith, rest, length-append (take g xs) (chosen_of g chosen (drop g xs)), length-take g xs, length-drop g xs)
chosen_few g (false ∷ chosen) xs =
    let rest = chosen_few g chosen (drop g xs) in
    omega (arith, rest, length-drop g xs)

-- of the rows of a part these were added, and the reader has the others still to come
pub record AreDone {F : Type 0} (whole r : Sifting F) (rows : List Row) (olds columns : List Cells) (count : ℕ) : Type 0 where
  pub done : List Row
  pub values : columns ≡ with_columns done whole.reading.places olds
  pub counted : count ≡ length done
  pub rest : done ++ rows_met r rows ≡ rows_met whole rows

-- the reader is one of the same rows, of which some granules are no more to come, and what they have was added
pub record HasAdded {F : Type 0} (files_of : F → Option Files) (whole r : Sifting F) (olds columns : List Cells) (count : ℕ) : Type 0 where
  pub left : List Bool
  pub reader_is : r ≡ record whole { reading = record whole.reading { left = left } }
  pub among : (k : ℕ) → slice_get left k ≡ Some true → slice_get whole.reading.left k ≡ Some true
  pub within : count + count_left r.reading ≤ count_left whole.reading
  pub types : map (λ (c : Cells). c.col_type) columns ≡ map (λ (c : Cells). c.col_type) olds
  pub even : (n : ℕ) → All (λ (c : Cells). length c.values ≡ n) olds → All (λ (c : Cells). length c.values ≡ n + count) columns
  pub rows : (rows : List Row) → HoldsAt files_of whole.reading.schema whole.reading.part (map file.Column whole.asked) rows → HoldsAt files_of whole.reading.schema whole.reading.part (map file.Column whole.reading.places) rows → AreDone whole r rows olds columns count

module _ {F : Type 0} (files_of : F → Option Files) (whole : Sifting F) (olds : List Cells) where
  pub added_none : (r : Sifting F) → r ≡ whole → length olds ≡ length whole.reading.places → HasAdded files_of whole r olds olds 0
  added_none r is many = record {
    left = whole.reading.left;
    reader_is = is;
    among = λ k there. there;
    within = omega (arith, ap (λ (s : Sifting F). count_left s.reading) is);
    types = refl;
    even = λ n even. let same : n ≡ n + 0 = omega arith in subst (λ m. All (λ (c : Cells). length c.values ≡ m) olds) same even;
    rows = λ rows asked wanted. record {
      done = [];
      values = sym (with_none whole.reading.places olds many);
      counted = refl;
      rest = ap (λ (s : Sifting F). rows_met s rows) is;
    };
  }

  module _ (r : Sifting F) (columns : List Cells) (count : ℕ) (has : HasAdded files_of whole r olds columns count) where
    -- the reader's part is the one that holds rows
    asked_held : (rows : List Row) → HoldsAt files_of whole.reading.schema whole.reading.part (map file.Column whole.asked) rows → HoldsAt files_of r.reading.schema r.reading.part (map file.Column r.asked) rows
    asked_held rows held = subst (λ (s : Sifting F). HoldsAt files_of s.reading.schema s.reading.part (map file.Column s.asked) rows) (sym has.reader_is) held

    wanted_held : (rows : List Row) → HoldsAt files_of whole.reading.schema whole.reading.part (map file.Column whole.reading.places) rows → HoldsAt files_of r.reading.schema r.reading.part (map file.Column r.reading.places) rows
    wanted_held rows held = subst (λ (s : Sifting F). HoldsAt files_of s.reading.schema s.reading.part (map file.Column s.reading.places) rows) (sym has.reader_is) held

    -- its columns are of the same places
    pub places_typed : map (λ (c : Cells). c.col_type) olds ≡ filter_map (slice_get (column_types whole.reading.schema)) whole.reading.places → map (λ (c : Cells). c.col_type) columns ≡ filter_map (slice_get (column_types r.reading.schema)) r.reading.places
    places_typed typed = has.types ∙ typed ∙ sym (ap (λ (s : Sifting F). filter_map (slice_get (column_types s.reading.schema)) s.reading.places) has.reader_is)

    -- once one more granule was added
    pub added_more : (new : Sifting F) (news : List Cells) (more sum : ℕ) → AddsMet files_of r new columns news more → sum ≡ count + more → HasAdded files_of whole new olds news sum
    added_more new news more sum adds is = record {
      left = from_granule (adds.granule + 1) has.left;
      reader_is = adds.rest ∙ ap (λ (s : Sifting F). record s { reading = past adds.granule s.reading }) has.reader_is;
      among = λ k there. has.among k (from_among (adds.granule + 1) k has.left there);
      within = omega (arith, is, has.within, added_within files_of r new columns news more adds);
      types = adds.types ∙ has.types;
      even = λ n even.
          let same : n + count + more ≡ n + sum = omega (arith, is) in
          subst (λ m. All (λ (c : Cells). length c.values ≡ m) news) same (adds.even (n + count) (has.even n even));
      rows = λ rows asked wanted.
          let before = has.rows rows asked wanted in
          let own = asked_held rows asked in
          let ours = wanted_held rows wanted in
          let items = met_items r adds.granule rows in
          record {
            done = before.done ++ items;
            values = adds.values rows own ours
                ∙ ap₂ (λ (ps : List ℕ) (cs : List Cells). with_columns items ps cs) (ap (λ (s : Sifting F). s.reading.places) has.reader_is) before.values
                ∙ with_more before.done items whole.reading.places olds;
            counted = is ∙ ap₂ ◌+◌ before.counted (adds.counted rows own ours) ∙ sym (length-append before.done items);
            rest = append_assoc before.done items (rows_met new rows) ∙ ap (λ (l : List Row). before.done ++ l) (sym (added_parted files_of r new columns news more adds rows ours)) ∙ before.rest;
          };
    }

    -- once none is left
    pub added_all : count_left r.reading ≡ 0 → (rows : List Row) → HoldsAt files_of whole.reading.schema whole.reading.part (map file.Column whole.asked) rows → HoldsAt files_of whole.reading.schema whole.reading.part (map file.Column whole.reading.places) rows
        → (columns ≡ with_columns (rows_met whole rows) whole.reading.places olds) × (count ≡ length (rows_met whole rows))
    added_all none rows asked wanted =
        let before = has.rows rows asked wanted in
        let all : before.done ≡ rows_met whole rows =
        sym (append-nil before.done) ∙ ap (λ (l : List Row). before.done ++ l) (sym (met_none files_of r rows (wanted_held rows wanted) none)) ∙ before.rest in
        (before.values ∙ ap (λ rs. with_columns rs whole.reading.places olds) all, before.counted ∙ ap length all)

    -- what a fault says of the granules that are left it says of the chosen ones
    pub added_explained : (why : PartFault) → ExplainsSifting files_of r why
        → ExplainsAt (λ number t. ExplainsChosen (column_in files_of whole.reading.part number) whole.reading.left t) (column_types whole.reading.schema) whole.asked why
        ⊎ ExplainsAt (λ number t. ExplainsChosen (column_in files_of whole.reading.part number) whole.reading.left t) (column_types whole.reading.schema) whole.reading.places why
    added_explained why e = either (subst (λ (s : Sifting F). ExplainsSifting files_of s why) has.reader_is e)
      where
        either : ExplainsSifting files_of (record whole { reading = record whole.reading { left = has.left } }) why
            → ExplainsAt (λ number t. ExplainsChosen (column_in files_of whole.reading.part number) whole.reading.left t) (column_types whole.reading.schema) whole.asked why
            ⊎ ExplainsAt (λ number t. ExplainsChosen (column_in files_of whole.reading.part number) whole.reading.left t) (column_types whole.reading.schema) whole.reading.places why
        either (inl own) = inl (chosen_explained files_of whole.reading.part whole.asked (column_types whole.reading.schema) has.left whole.reading.left why has.among own)
        either (inr own) = inr (chosen_explained files_of whole.reading.part whole.reading.places (column_types whole.reading.schema) has.left whole.reading.left why has.among own)
