-- The readers of parts, and the rows that they have still to give.
use Rattle.std.proofs.Common.{◌≡◌, ℕ, zero, suc, ◌+◌, ◌*◌, ◌<◌, ◌≤◌, true, List, [], ◌∷◌, length, map, replicate, set, get_or, slice_get, filter_map, Option, refl, sym, ap, ◌∙◌, subst, arith}
use Rattle.std.specs.List.{All, AllZip}
use Rattle.std.proofs.lemmas.List.{take_all}
use Rattle.std.proofs.lemmas.List.Elements.{All-head, All-tail}
use Rattle.mt_base.specs.declared.name.FileId.TheVariants as file
use Rattle.mt_values.specs.declared.schema.Schema.{Schema}
use Rattle.mt_values.specs.Grid.{Grid}
use Rattle.mt_values.specs.Printing.{selected}
use Rattle.mt_values.specs.Schemas.{column_types}
use Rattle.mt_values.specs.Values.{Row}
use Rattle.mt_outside.specs.Files.{Files}
use Rattle.part_reader.specs.part_writer.declared.loaded.Loaded.{Loaded}
use Rattle.part_reader.specs.declared.reading.Part.{Part}
use Rattle.part_reader.specs.Granules.{chosen_of}
use Rattle.part_reader.specs.Parts.{HoldsAt, PartHolds}
use Rattle.part_reader.specs.Readings.{GivesGranule, Reading, count_left, rows_left}
use Rattle.part_reader.proofs.ChosenItems.{chosen_all}
use Rattle.part_set.specs.declared.kept.Kept.{Kept}
use Rattle.row_merge.specs.declared.streams.Plan.{Plan}
use Rattle.row_merge.specs.MergedParts.{HasShape, PartsHold, column_places}
use Rattle.row_merge.specs.Streams.{IsReaderOf, count_of_rests, reader_of, rests_of}
use Rattle.row_merge.proofs.SealedMerges.{holds_all, types_at_all, whole_rows}

-- lists that go together have one length
pub zip_long : {X Y : Type 0} (P : X → Y → Type 0) (xs : List X) (ys : List Y) → AllZip P xs ys → length ys ≡ length xs
zip_long P [] [] all = refl
zip_long P [] (y ∷ ys) all = absurd all
zip_long P (x ∷ xs) [] all = absurd all
zip_long P (x ∷ xs) (y ∷ ys) all = ap suc (zip_long P xs ys all.1)

-- ---- the rows that are left

module _ {F : Type 0} where
  -- a reader went on
  pub rests_set : (readers : List (Reading F)) (rows : List (List Row)) (i : ℕ) (r : Reading F) → rests_of (set readers i r) rows ≡ set (rests_of readers rows) i (rows_left r (get_or rows i []))
  rests_set [] rows i r = refl
  rests_set (x ∷ xs) [] zero r = refl
  rests_set (x ∷ xs) [] (suc i) r = refl
  rests_set (x ∷ xs) (own ∷ rows) zero r = refl
  rests_set (x ∷ xs) (own ∷ rows) (suc i) r = ap (λ zs. rows_left x own ∷ zs) (rests_set xs rows i r)

  pub rest_at : (readers : List (Reading F)) (rows : List (List Row)) (i : ℕ) (r : Reading F) → i < length readers → length readers ≡ length rows → r ≡ get_or readers i r
      → get_or (rests_of readers rows) i [] ≡ rows_left r (get_or rows i [])
  rest_at [] rows i r below even is = absurd (omega (arith, below))
  rest_at (x ∷ xs) [] i r below even is = absurd (omega (arith, even))
  rest_at (x ∷ xs) (own ∷ rows) zero r below even is = ap (λ (q : Reading F). rows_left q own) (sym is)
  rest_at (x ∷ xs) (own ∷ rows) (suc i) r below even is = rest_at xs rows i r (omega (arith, below)) (omega (arith, even)) is

  pub rests_long : (readers : List (Reading F)) (rows : List (List Row)) → length readers ≡ length rows → length (rests_of readers rows) ≡ length readers
  rests_long [] rows even = refl
  rests_long (x ∷ xs) [] even = absurd (omega (arith, even))
  rests_long (x ∷ xs) (own ∷ rows) even = ap suc (rests_long xs rows (omega (arith, even)))

  pub count_set : (readers : List (Reading F)) (i : ℕ) (old new : Reading F) → i < length readers → old ≡ get_or readers i old → count_of_rests (set readers i new) + count_left old ≡ count_of_rests readers + count_left new
  count_set [] i old new below is = absurd (omega (arith, below))
  count_set (x ∷ xs) zero old new below is = omega (arith, ap count_left is)
  count_set (x ∷ xs) (suc i) old new below is = omega (arith, count_set xs i old new (omega (arith, below)) is)

-- ---- readers of all columns

module _ {F : Type 0} (files_of : F → Option Files) (schema : Schema) where
  -- a part that holds rows of the table has its columns
  pub held_shape : (part : Part F) (rows : List Row) → PartHolds files_of schema part rows → HasShape schema part.loaded.schema
  held_shape part rows h = record { types = ap (λ (l : Loaded). column_types l.schema) h.loaded_is; granularity = ap (λ (l : Loaded). l.schema.granularity) h.loaded_is }

  own_held : (k : Kept (Part F)) (r : Reading F) (own : List Row) → IsReaderOf schema k r → PartHolds files_of schema k.part own → HoldsAt files_of r.schema r.part (map file.Column r.places) own
  own_held k r own is h =
      subst (λ (t : Schema). HoldsAt files_of t r.part (map file.Column r.places) own) (sym is.schema_is)
      (subst (λ (p : Part F). HoldsAt files_of schema p (map file.Column r.places) own) (sym is.part_is) (holds_all files_of schema k.part own h r.places is.places_are))

  -- the part of a reader holds the rows at its place
  pub reader_held : (parts : List (Kept (Part F))) (readers : List (Reading F)) (rows : List (List Row)) (i : ℕ) (r : Reading F) → AllZip (IsReaderOf schema) parts readers → PartsHold files_of schema parts rows
      → i < length parts → r ≡ get_or readers i r → HoldsAt files_of r.schema r.part (map file.Column r.places) (get_or rows i [])
  reader_held [] readers rows i r are hold below is = absurd (omega (arith, below))
  reader_held (k ∷ ks) [] rows i r are hold below is = absurd are
  reader_held (k ∷ ks) (x ∷ xs) [] i r are hold below is = absurd hold
  reader_held (k ∷ ks) (x ∷ xs) (own ∷ rows) zero r are hold below is =
      subst (λ (q : Reading F). HoldsAt files_of q.schema q.part (map file.Column q.places) own) (sym is) (own_held k x own are.0 hold.0)
  reader_held (k ∷ ks) (x ∷ xs) (own ∷ rows) (suc i) r are hold below is = reader_held ks xs rows i r are.1 hold.1 (omega (arith, below)) is

  -- the reader at a place is that of the part there
  pub reader_is : (parts : List (Kept (Part F))) (readers : List (Reading F)) (i : ℕ) (k : Kept (Part F)) (r : Reading F) → AllZip (IsReaderOf schema) parts readers → i < length parts → k ≡ get_or parts i k → r ≡ get_or readers i r
      → IsReaderOf schema k r
  reader_is [] readers i k r are below kept is = absurd (omega (arith, below))
  reader_is (p ∷ ps) [] i k r are below kept is = absurd are
  reader_is (p ∷ ps) (x ∷ xs) zero k r are below kept is = subst (λ (q : Kept (Part F)). IsReaderOf schema q r) (sym kept) (subst (IsReaderOf schema p) (sym is) are.0)
  reader_is (p ∷ ps) (x ∷ xs) (suc i) k r are below kept is = reader_is ps xs i k r are.1 (omega (arith, below)) kept is

  -- it stays so when the reader goes on
  pub reader_stays : (parts : List (Kept (Part F))) (readers : List (Reading F)) (i : ℕ) (old new : Reading F) → AllZip (IsReaderOf schema) parts readers → old ≡ get_or readers i old → new.schema ≡ old.schema → new.part ≡ old.part → new.places ≡ old.places
      → AllZip (IsReaderOf schema) parts (set readers i new)
  reader_stays [] [] i old new are is table part places = tt
  reader_stays [] (x ∷ xs) i old new are is table part places = absurd are
  reader_stays (k ∷ ks) [] i old new are is table part places = absurd are
  reader_stays (k ∷ ks) (x ∷ xs) zero old new are is table part places = (
    record {
      schema_is = table ∙ ap (λ (q : Reading F). q.schema) is ∙ are.0.schema_is;
      part_is = part ∙ ap (λ (q : Reading F). q.part) is ∙ are.0.part_is;
      places_are = places ∙ ap (λ (q : Reading F). q.places) is ∙ are.0.places_are;
    },
    are.1,
  )
  reader_stays (k ∷ ks) (x ∷ xs) (suc i) old new are is table part places = (are.0, reader_stays ks xs i old new are.1 is table part places)

  -- ---- nothing was read yet

  pub readers_opened : (plan : Plan) (most : ℕ) (parts : List (Kept (Part F))) → plan.columns.items ≡ column_places schema → AllZip (IsReaderOf schema) parts (map (reader_of schema plan most) parts)
  readers_opened plan most [] columns = tt
  readers_opened plan most (k ∷ ks) columns = (record { schema_is = refl; part_is = refl; places_are = columns }, readers_opened plan most ks columns)

  module _ (plan : Plan) (most n : ℕ) (columns : plan.columns.items ≡ column_places schema) (all : plan.chosen.items ≡ replicate n true) where
    -- all rows of a part are still to be given
    whole_left : (k : Kept (Part F)) (own : List Row) → k.part.loaded.manifest.rows ≤ schema.granularity * n → PartHolds files_of schema k.part own → rows_left (reader_of schema plan most k) own ≡ own
    whole_left k own enough h =
        let g : ℕ = k.part.loaded.schema.granularity in
        let shape = held_shape k.part own h in
        let bound : k.part.loaded.manifest.rows ≤ g * n = subst (λ m. k.part.loaded.manifest.rows ≤ m * n) (sym shape.granularity) enough in
        let count : k.part.loaded.manifest.rows ≡ length own = ap (λ (l : Loaded). l.manifest.rows) h.loaded_is in
        ap (map (selected plan.columns.items)) (ap (λ cs. chosen_of g cs own) all ∙ chosen_all g n own ∙ take_all (g * n) own (omega (arith, bound, count)))
        ∙ whole_rows schema plan.columns.items own columns h.typed

    pub opened_rests : (parts : List (Kept (Part F))) (rows : List (List Row)) → All (λ (k : Kept (Part F)). k.part.loaded.manifest.rows ≤ schema.granularity * n) parts → PartsHold files_of schema parts rows
        → rests_of (map (reader_of schema plan most) parts) rows ≡ rows
    opened_rests [] [] enough hold = refl
    opened_rests [] (own ∷ rows) enough hold = absurd hold
    opened_rests (k ∷ ks) [] enough hold = absurd hold
    opened_rests (k ∷ ks) (own ∷ rows) enough hold =
        let room = All-head (λ (q : Kept (Part F)). q.part.loaded.manifest.rows ≤ schema.granularity * n) k ks enough in
        ap (λ (z : List Row). z ∷ rests_of (map (reader_of schema plan most) ks) rows) (whole_left k own room hold.0)
        ∙ ap (λ (zs : List (List Row)). own ∷ zs) (opened_rests ks rows (All-tail (λ (q : Kept (Part F)). q.part.loaded.manifest.rows ≤ schema.granularity * n) k ks enough) hold.1)

  -- ---- what a reader gives

  module _ (k : Kept (Part F)) (r : Reading F) (is : IsReaderOf schema k r) (new : Reading F) (given : Grid) (gives : GivesGranule files_of r new given) where
    pub given_types : given.types ≡ column_types schema
    given_types = gives.types ∙ ap (λ (t : Schema). filter_map (slice_get (column_types t)) r.places) is.schema_is ∙ types_at_all schema r.places is.places_are

    pub given_few : HasShape schema k.part.loaded.schema → length given.rows ≤ schema.granularity
    given_few shape = omega (arith, gives.count, ap (λ (p : Part F). p.loaded.schema.granularity) is.part_is, shape.granularity)

    pub given_some : 0 < length given.rows
    given_some = omega (arith, gives.count, gives.first.some)
