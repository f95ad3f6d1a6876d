-- Readers that go on, and why one of them failed.
use Rattle.std.proofs.Common.{◌≡◌, ℕ, zero, suc, ◌<◌, inr, List, [], ◌∷◌, arith, length, get_or, set, slice_get, Option, Some, refl, sym, ap, ◌∙◌, subst}
use Rattle.std.specs.List.{AllZip}
use Rattle.std.proofs.lemmas.Option.{slice_get_read}
use Rattle.mt_values.specs.declared.schema.Schema.{Schema}
use Rattle.mt_values.specs.declared.value.ColType.{ColType}
use Rattle.mt_values.specs.Grid.{Grid}
use Rattle.mt_values.specs.Schemas.{column_types}
use Rattle.mt_outside.specs.Files.{Files}
use Rattle.part_history.specs.part_name.declared.part.PartName.{PartName}
use Rattle.part_reader.specs.declared.reading.Part.{Part}
use Rattle.part_reader.specs.declared.reading.PartFault.{PartFault}
use Rattle.part_reader.specs.declared.reading.PartFault.TheVariants.{Fault, NoMemory, Damaged}
use Rattle.part_reader.specs.Faults.{ExplainsAt, IsNoDamage}
use Rattle.part_reader.specs.Granules.{column_in}
use Rattle.part_reader.specs.Readings.{ExplainsLeft, GivesGranule, Reading}
use Rattle.part_reader.proofs.LeftGranules.{given_among}
use Rattle.part_set.specs.declared.kept.Kept.{Kept}
use Rattle.row_merge.specs.declared.streams.Inputs.{Inputs}
use Rattle.row_merge.specs.MergedParts.{ExplainsGranule, ExplainsMerge, ExplainsPart}
use Rattle.row_merge.specs.Streams.{AreLater, ExplainsAmong, ExplainsStream, IsLater, IsReaderOf}

-- ---- readers go on

module _ {F : Type 0} where
  later_same : (r : Reading F) → IsLater r r
  later_same r = record { schema_is = refl; part_is = refl; places_are = refl; among = λ k there. there }

  later_then : (a b c : Reading F) → IsLater a b → IsLater b c → IsLater a c
  later_then a b c one two = record {
    schema_is = two.schema_is ∙ one.schema_is;
    part_is = two.part_is ∙ one.part_is;
    places_are = two.places_are ∙ one.places_are;
    among = λ k there. one.among k (two.among k there);
  }

  -- none of them goes on
  pub all_stay : (rs : List (Reading F)) → AreLater rs rs
  all_stay [] = tt
  all_stay (r ∷ rs) = (later_same r, all_stay rs)

  -- they go on twice
  pub all_later : (ones twos threes : List (Reading F)) → AreLater ones twos → AreLater twos threes → AreLater ones threes
  all_later [] [] [] first second = tt
  all_later [] [] (c ∷ cs) first second = absurd second
  all_later [] (b ∷ bs) cs first second = absurd first
  all_later (a ∷ more) [] cs first second = absurd first
  all_later (a ∷ more) (b ∷ bs) [] first second = absurd second
  all_later (a ∷ more) (b ∷ bs) (c ∷ cs) first second = (later_then a b c first.0 second.0, all_later more bs cs first.1 second.1)

  -- one of them goes on
  pub one_later : (rs : List (Reading F)) (i : ℕ) (old new : Reading F) → old ≡ get_or rs i old → IsLater old new → AreLater rs (set rs i new)
  one_later [] i old new is later = tt
  one_later (r ∷ rs) zero old new is later = (subst (λ (q : Reading F). IsLater q new) is later, all_stay rs)
  one_later (r ∷ rs) (suc i) old new is later = (later_same r, one_later rs i old new is later)

  pub same_later : (old new : Reading F) → new ≡ old → IsLater old new
  same_later old new is = subst (IsLater old) (sym is) (later_same old)

  -- the reader at a place, as it was before
  record WasBefore (olds : List (Reading F)) (at : ℕ) (new : Reading F) : Type 0 where
    reader : Reading F
    there : slice_get olds at ≡ Some reader
    later : IsLater reader new

  before_at : (olds news : List (Reading F)) (at : ℕ) (new : Reading F) → AreLater olds news → slice_get news at ≡ Some new → WasBefore olds at new
  before_at [] [] at new all there = cc
  before_at [] (n ∷ news) at new all there = absurd all
  before_at (o ∷ olds) [] at new all there = absurd all
  before_at (o ∷ olds) (n ∷ news) zero new all there = record { reader = o; there = refl; later = subst (IsLater o) (inside n new there) all.0 }
    where
      inside : (x y : Reading F) → Some x ≡ Some y → x ≡ y
      inside x y e = cc
  before_at (o ∷ olds) (n ∷ news) (suc at) new all there =
      let b = before_at olds news at new all.1 there in
      record { reader = b.reader; there = b.there; later = b.later }

-- ---- why one of them failed

module _ {F : Type 0} (files_of : F → Option Files) where
  -- a reader that gave a block goes on
  pub given_later : (old new : Reading F) (given : Grid) → GivesGranule files_of old new given → IsLater old new
  given_later old new given gives = record {
    schema_is = ap (λ (q : Reading F). q.schema) gives.rest;
    part_is = ap (λ (q : Reading F). q.part) gives.rest;
    places_are = ap (λ (q : Reading F). q.places) gives.rest;
    among = given_among files_of old new given old.left gives (λ k there. there);
  }

  -- what a fault says of the first granule that is left, it says of one of those that are left
  pub left_among : (r : Reading F) (why : PartFault) → ExplainsAt (λ number t. ExplainsLeft (column_in files_of r.part number) r.left t) (column_types r.schema) r.places why
      → ExplainsAt (λ number t. ExplainsAmong (column_in files_of r.part number) r.left t) (column_types r.schema) r.places why
  left_among r Fault e = tt
  left_among r NoMemory e = tt
  left_among r (Damaged f place wanted found) e = record {
    at = e.at;
    number = e.number;
    col_type = e.col_type;
    number_is = e.number_is;
    type_is = e.type_is;
    explained = record { granule = e.explained.granule; there = e.explained.first.there; some = e.explained.first.some; explained = e.explained.explained };
  }

  -- and of those that were left before
  among_before : (old new : Reading F) (why : PartFault) → IsLater old new → ExplainsAt (λ number t. ExplainsAmong (column_in files_of new.part number) new.left t) (column_types new.schema) new.places why
      → ExplainsAt (λ number t. ExplainsAmong (column_in files_of old.part number) old.left t) (column_types old.schema) old.places why
  among_before old new Fault later e = tt
  among_before old new NoMemory later e = tt
  among_before old new (Damaged f place wanted found) later e = record {
    at = e.at;
    number = e.number;
    col_type = e.col_type;
    number_is = ap (λ (ps : List ℕ). slice_get ps e.at) (sym later.places_are) ∙ e.number_is;
    type_is = ap (λ (s : Schema). slice_get (column_types s) e.number) (sym later.schema_is) ∙ e.type_is;
    explained = subst (λ (p : Part F). ExplainsAmong (column_in files_of p e.number) old.left e.col_type (Damaged f place wanted found)) later.part_is
        (record { granule = e.explained.granule; there = later.among e.explained.granule e.explained.there; some = e.explained.some; explained = e.explained.explained });
  }

  -- or of some granule of the part
  among_says : (schema : Schema) (k : Kept (Part F)) (r : Reading F) (why : PartFault) → IsReaderOf schema k r
      → ExplainsAt (λ number t. ExplainsAmong (column_in files_of r.part number) r.left t) (column_types r.schema) r.places why → ExplainsPart files_of schema k.part why
  among_says schema k r Fault is e = tt
  among_says schema k r NoMemory is e = tt
  among_says schema k r (Damaged f place wanted found) is e =
      inr (record {
        at = e.at;
        number = e.number;
        col_type = e.col_type;
        number_is = ap (λ (ps : List ℕ). slice_get ps e.at) (sym is.places_are) ∙ e.number_is;
        type_is = ap (λ (s : Schema). slice_get (column_types s) e.number) (sym is.schema_is) ∙ e.type_is;
        explained = subst (λ (p : Part F). ExplainsGranule (column_in files_of p e.number) e.col_type (Damaged f place wanted found)) is.part_is
            (record { granule = e.explained.granule; some = e.explained.some; explained = e.explained.explained });
      })

  reader_there : (schema : Schema) (ks : List (Kept (Part F))) (rs : List (Reading F)) (at : ℕ) (k : Kept (Part F)) (r : Reading F) → AllZip (IsReaderOf schema) ks rs → slice_get ks at ≡ Some k → slice_get rs at ≡ Some r → IsReaderOf schema k r
  reader_there schema [] rs at k r are kept is = cc
  reader_there schema (q ∷ ks) [] at k r are kept is = absurd are
  reader_there schema (q ∷ ks) (x ∷ rs) zero k r are kept is = subst (λ (y : Kept (Part F)). IsReaderOf schema y r) (kept_inside q k kept) (subst (IsReaderOf schema q) (reader_inside x r is) are.0)
    where
      kept_inside : (x y : Kept (Part F)) → Some x ≡ Some y → x ≡ y
      kept_inside x y e = cc

      reader_inside : (x y : Reading F) → Some x ≡ Some y → x ≡ y
      reader_inside x y e = cc
  reader_there schema (q ∷ ks) (x ∷ rs) (suc at) k r are kept is = reader_there schema ks rs at k r are.1 kept is

  -- what is no damage says nothing of bytes
  none_said : (E : ℕ → ColType → PartFault → Type 0) (types : List ColType) (places : List ℕ) (why : PartFault) → IsNoDamage why → ExplainsAt E types places why
  none_said E types places Fault none = tt
  none_said E types places NoMemory none = tt
  none_said E types places (Damaged f place wanted found) none = absurd none

  -- the first part is named, and what is said is a fault, or that an allocation failed
  module _ (i : Inputs F) (readers : List (Reading F)) (are : AllZip (IsReaderOf i.schema.now) i.parts.now readers) (k : Kept (Part F)) (some : 0 < length i.parts.now) (is : k ≡ get_or i.parts.now 0 k) where
    first_reader : (ks : List (Kept (Part F))) (rs : List (Reading F)) → AllZip (IsReaderOf i.schema.now) ks rs → 0 < length ks → (r : Reading F) × (slice_get rs 0 ≡ Some r)
    first_reader [] rs all there = absurd (omega (arith, there))
    first_reader (q ∷ ks) [] all there = absurd all
    first_reader (q ∷ ks) (r ∷ rs) all there = (r, refl)

    pub first_fails : (why : PartFault) → IsNoDamage why → ExplainsStream files_of i readers ((get_or i.parts.now 0 k).name, why)
    first_fails why none =
        let r = first_reader i.parts.now readers are some in
        record {
          at = 0;
          kept = k;
          reader = r.0;
          kept_is = slice_get_read i.parts.now (length i.parts.now) 0 k refl some is;
          reader_is = r.1;
          name_is = ap (λ (q : Kept (Part F)). q.name) (sym is);
          explained = none_said (λ number t. ExplainsAmong (column_in files_of r.0.part number) r.0.left t) (column_types r.0.schema) r.0.places why none;
        }

  module _ (i : Inputs F) (e : PartName × PartFault) where
    -- what is said of readers is said of them as they were before
    pub explained_before : (olds news : List (Reading F)) → AreLater olds news → ExplainsStream files_of i news e → ExplainsStream files_of i olds e
    explained_before olds news later x =
        let b = before_at olds news x.at x.reader later x.reader_is in
        record {
          at = x.at;
          kept = x.kept;
          reader = b.reader;
          kept_is = x.kept_is;
          reader_is = b.there;
          name_is = x.name_is;
          explained = among_before b.reader x.reader e.1 b.later x.explained;
        }

    -- and of their parts
    pub stream_says : (readers : List (Reading F)) → AllZip (IsReaderOf i.schema.now) i.parts.now readers → ExplainsStream files_of i readers e → ExplainsMerge files_of i.schema.now i.parts.now e
    stream_says readers are x = record {
      at = x.at;
      kept = x.kept;
      kept_is = x.kept_is;
      name_is = x.name_is;
      explained = among_says i.schema.now x.kept x.reader e.1 (reader_there i.schema.now i.parts.now readers x.at x.kept x.reader are x.kept_is x.reader_is) x.explained;
    }
