-- Parts of which chosen granules are read: the rows that their readers have to give, and why one of them failed.
use Rattle.std.proofs.Common.{◌≡◌, ℕ, zero, suc, ◌+◌, Bool, List, [], ◌∷◌, ◌++◌, IfErr, Option, Result, Some, length, map, take, slice_get, refl, sym, ap, ap₂, ◌∙◌, subst, arith}
use Rattle.std.specs.List.{AllZip}
use Rattle.std.proofs.lemmas.Option.{same_Some}
use Rattle.std.proofs.lemmas.Result.{IfErr-weaker}
use Rattle.mt_values.specs.declared.schema.Schema.{Schema}
use Rattle.mt_values.specs.Printing.{selected}
use Rattle.mt_values.specs.Schemas.{column_types}
use Rattle.mt_values.specs.Values.{Row, types_of}
use Rattle.mt_outside.specs.Files.{Files}
use Rattle.part_history.specs.part_name.declared.part.PartName.{PartName}
use Rattle.part_reader.specs.part_writer.declared.loaded.Loaded.{Loaded}
use Rattle.part_reader.specs.declared.reading.Part.{Part}
use Rattle.part_reader.specs.declared.reading.PartFault.{PartFault}
use Rattle.part_reader.specs.declared.reading.PartFault.TheVariants.{Fault, NoMemory, Damaged}
use Rattle.part_reader.specs.Faults.{ExplainsAt}
use Rattle.part_reader.specs.Granules.{chosen_of, column_in}
use Rattle.part_reader.specs.Readings.{Reading, lone}
use Rattle.part_reader.proofs.CutRows.{chosen_every}
use Rattle.part_reader.proofs.LeftGranules.{lone_run}
use Rattle.part_set.specs.declared.kept.Kept.{Kept}
use Rattle.row_merge.specs.declared.streams.Inputs.{Inputs}
use Rattle.row_merge.specs.MergedParts.{ExplainsWhole, ExplainsWholes, PartsHold, chosen_inputs, column_places}
use Rattle.row_merge.specs.Streams.{ExplainsAmong, ExplainsStream, IsReaderOf, chosen_readers, rests_of}
use Rattle.row_merge.proofs.SealedMerges.{whole_rows}

-- ---- readers, one after another

-- a reader of these columns of the chosen granules of a part
abbrev pub reader_for : {F : Type 0} → Schema → List ℕ → Kept (Part F) → List Bool → ℕ → Reading F
reader_for schema columns k own most = record { schema = schema; part = k.part; places = columns; left = own; most = most }

module _ {F : Type 0} (schema : Schema) (columns : List ℕ) (most : ℕ) where
  -- the next of them
  pub readers_next : (parts : List (Kept (Part F))) (chosen : List (List Bool)) (at : ℕ) (k : Kept (Part F)) (own : List Bool) → slice_get parts at ≡ Some k → slice_get chosen at ≡ Some own
      → take (at + 1) (chosen_readers schema columns most parts chosen) ≡ take at (chosen_readers schema columns most parts chosen) ++ record { schema = schema; part = k.part; places = columns; left = own; most = most } ∷ []
  readers_next [] chosen at k own k_is own_is = cc
  readers_next (p ∷ parts) [] at k own k_is own_is = cc
  readers_next (p ∷ parts) (c ∷ chosen) zero k own k_is own_is =
      ap₂ (λ (x : Kept (Part F)) (y : List Bool). reader_for schema columns x y most ∷ []) (same_Some p k k_is) (same_Some c own own_is)
  readers_next (p ∷ parts) (c ∷ chosen) (suc at) k own k_is own_is =
      let one : suc at + 1 ≡ suc (at + 1) = omega arith in
      ap (λ n. take n (reader_for schema columns p c most ∷ chosen_readers schema columns most parts chosen)) one ∙ ap (λ (rs : List (Reading F)). reader_for schema columns p c most ∷ rs) (readers_next parts chosen at k own k_is own_is)

  -- how many there are
  pub readers_many : (parts : List (Kept (Part F))) (chosen : List (List Bool)) → length chosen ≡ length parts → length (chosen_readers schema columns most parts chosen) ≡ length parts
  readers_many [] chosen same = refl
  readers_many (p ∷ parts) [] same = absurd (omega (arith, same))
  readers_many (p ∷ parts) (c ∷ chosen) same = ap suc (readers_many parts chosen (omega (arith, same)))

  -- each is of all columns of its part
  pub chosen_opened : (parts : List (Kept (Part F))) (chosen : List (List Bool)) → columns ≡ column_places schema → length chosen ≡ length parts → AllZip (IsReaderOf schema) parts (chosen_readers schema columns most parts chosen)
  chosen_opened [] chosen are same = tt
  chosen_opened (p ∷ parts) [] are same = absurd (omega (arith, same))
  chosen_opened (p ∷ parts) (c ∷ chosen) are same = (record { schema_is = refl; part_is = refl; places_are = are }, chosen_opened parts chosen are (omega (arith, same)))

  -- the one at a place
  pub record IsAt (parts : List (Kept (Part F))) (chosen : List (List Bool)) (at : ℕ) (k : Kept (Part F)) (r : Reading F) : Type 0 where
    pub own : List Bool
    pub own_is : slice_get chosen at ≡ Some own
    pub reader_is : r ≡ record { schema = schema; part = k.part; places = columns; left = own; most = most }

  pub reader_at : (parts : List (Kept (Part F))) (chosen : List (List Bool)) (at : ℕ) (k : Kept (Part F)) (r : Reading F) → slice_get parts at ≡ Some k → slice_get (chosen_readers schema columns most parts chosen) at ≡ Some r → IsAt parts chosen at k r
  reader_at [] chosen at k r k_is r_is = cc
  reader_at (p ∷ parts) [] at k r k_is r_is = cc
  reader_at (p ∷ parts) (c ∷ chosen) zero k r k_is r_is = record {
    own = c;
    own_is = refl;
    reader_is = sym (same_Some (reader_for schema columns p c most) r r_is) ∙ ap (λ (x : Kept (Part F)). reader_for schema columns x c most) (same_Some p k k_is);
  }
  reader_at (p ∷ parts) (c ∷ chosen) (suc at) k r k_is r_is =
      let there = reader_at parts chosen at k r k_is r_is in
      record { own = there.own; own_is = there.own_is; reader_is = there.reader_is }

-- ---- what they have to give

module _ {F : Type 0} (files_of : F → Option Files) (schema : Schema) (columns : List ℕ) (most : ℕ) where
  pub chosen_rests : (parts : List (Kept (Part F))) (chosen : List (List Bool)) (rows : List (List Row)) → columns ≡ column_places schema → PartsHold files_of schema parts rows → length chosen ≡ length parts
      → rests_of (chosen_readers schema columns most parts chosen) rows ≡ chosen_inputs schema.granularity chosen rows
  chosen_rests [] [] [] are hold same = refl
  chosen_rests [] [] (r ∷ rows) are hold same = absurd hold
  chosen_rests [] (c ∷ chosen) rows are hold same = absurd (omega (arith, same))
  chosen_rests (k ∷ parts) [] rows are hold same = absurd (omega (arith, same))
  chosen_rests (k ∷ parts) (c ∷ chosen) [] are hold same = absurd hold
  chosen_rests (k ∷ parts) (c ∷ chosen) (r ∷ rows) are hold same =
      let size : k.part.loaded.schema.granularity ≡ schema.granularity = ap (λ (l : Loaded). l.schema.granularity) hold.0.loaded_is in
      let typed = chosen_every (λ (row : Row). types_of row ≡ column_types schema) schema.granularity c r hold.0.typed in
      let first = ap (λ g. map (selected columns) (chosen_of g c r)) size ∙ whole_rows schema columns (chosen_of schema.granularity c r) are typed in
      ap₂ (λ (own : List Row) (rest : List (List Row)). own ∷ rest) first (chosen_rests parts chosen rows are hold.1 (omega (arith, same)))

-- ---- why one of them failed

module _ {F : Type 0} (files_of : F → Option Files) where
  -- what a fault says of granules that are left, it says of chosen ones
  whole_says : (schema : Schema) (k : Kept (Part F)) (columns : List ℕ) (own : List Bool) (why : PartFault) → columns ≡ column_places schema
      → ExplainsAt (λ number t. ExplainsAmong (column_in files_of k.part number) own t) (column_types schema) columns why → ExplainsWhole files_of schema k.part own why
  whole_says schema k columns own Fault are e = tt
  whole_says schema k columns own NoMemory are e = tt
  whole_says schema k columns own (Damaged f place wanted found) are e = record {
    at = e.at;
    number = e.number;
    col_type = e.col_type;
    number_is = ap (λ (ps : List ℕ). slice_get ps e.at) (sym are) ∙ e.number_is;
    type_is = e.type_is;
    explained = record { run = lone e.explained.granule; run_is = lone_run own e.explained.granule e.explained.there; explained = e.explained.explained };
  }

  chosen_says : (i : Inputs F) (columns : List ℕ) (most : ℕ) (chosen : List (List Bool)) → columns ≡ column_places i.schema.now → length chosen ≡ length i.parts.now → (e : PartName × PartFault)
      → ExplainsStream files_of i (chosen_readers i.schema.now columns most i.parts.now chosen) e → ExplainsWholes files_of i.schema.now i.parts.now chosen e
  chosen_says i columns most chosen are same e x =
      let there = reader_at i.schema.now columns most i.parts.now chosen x.at x.kept x.reader x.kept_is x.reader_is in
      record {
        at = x.at;
        kept = x.kept;
        own = there.own;
        kept_is = x.kept_is;
        own_is = there.own_is;
        name_is = x.name_is;
        explained = whole_says i.schema.now x.kept columns there.own e.1 are
            (subst (λ (r : Reading F). ExplainsAt (λ number t. ExplainsAmong (column_in files_of r.part number) r.left t) (column_types r.schema) r.places e.1) there.reader_is x.explained);
      }

  -- the same where parts were read
  pub chosen_told : {A : Type 0} (result : Result A (PartName × PartFault)) (i : Inputs F) (readers : List (Reading F)) → IfErr result (ExplainsStream files_of i readers) → (columns : List ℕ) (most : ℕ) (chosen : List (List Bool))
      → readers ≡ chosen_readers i.schema.now columns most i.parts.now chosen → columns ≡ column_places i.schema.now → length chosen ≡ length i.parts.now → IfErr result (ExplainsWholes files_of i.schema.now i.parts.now chosen)
  chosen_told result i readers said columns most chosen is are same =
      IfErr-weaker result (ExplainsStream files_of i readers) (ExplainsWholes files_of i.schema.now i.parts.now chosen)
      (λ e x. chosen_says i columns most chosen are same e (subst (λ (rs : List (Reading F)). ExplainsStream files_of i rs e) is x)) said
