-- The rows of parts at all columns, and why a merge of them failed.
use Rattle.std.proofs.Common.{◌≡◌, ℕ, zero, suc, ◌<◌, List, [], ◌∷◌, All, length, get_or, map, slice_get, filter_map, Option, refl, sym, ap, ap₂, ◌∙◌, subst, arith}
use Rattle.std.specs.List.{range_with_len}
use Rattle.std.proofs.lemmas.List.{length-map}
use Rattle.std.proofs.lemmas.List.Elements.{All-head, All-tail}
use Rattle.mt_base.specs.declared.name.FileId.TheVariants as file
use Rattle.mt_values.specs.declared.schema.Column.{Column}
use Rattle.mt_values.specs.declared.schema.Schema.{Schema}
use Rattle.mt_values.specs.Grid.{AreRowsOf}
use Rattle.mt_values.specs.Printing.{selected}
use Rattle.mt_values.specs.Schemas.{column_types}
use Rattle.mt_values.specs.Values.{Row, type_of, types_of}
use Rattle.mt_values.proofs.Grids.{All-range, items_at_all}
use Rattle.mt_outside.specs.Files.{Files}
use Rattle.mt_outside.specs.declared.disk.DiskError.{DiskError}
use Rattle.mt_outside.specs.declared.disk.DiskError.TheVariants as disk
use Rattle.part_reader.specs.declared.reading.Part.{Part}
use Rattle.part_reader.specs.declared.reading.PartFault.{PartFault}
use Rattle.part_reader.specs.Faults.{FaultOf, IsNoDamage}
use Rattle.part_reader.specs.Parts.{HoldsAt, PartHolds}
use Rattle.part_reader.proofs.Holding.{holds_at}
use Rattle.part_set.specs.declared.kept.Kept.{Kept}
use Rattle.row_merge.specs.MergedParts.{ExplainsPart, PartsHold, column_places}

-- ---- all columns

types_length : (schema : Schema) → length (column_types schema) ≡ length schema.columns
types_length schema = length-map schema.columns (λ (c : Column). c.col_type)

pub places_within : (schema : Schema) (places : List ℕ) → places ≡ column_places schema → All (λ place. place < length schema.columns) places
places_within schema places is =
    subst (All (λ place. place < length schema.columns)) (sym is) (All-range (λ place. place < length schema.columns) (length schema.columns) (λ k below. below))

-- the types at all places are the table's
pub types_at_all : (schema : Schema) (places : List ℕ) → places ≡ column_places schema → filter_map (slice_get (column_types schema)) places ≡ column_types schema
types_at_all schema places is =
    ap (filter_map (slice_get (column_types schema))) (is ∙ ap (range_with_len 0) (sym (types_length schema))) ∙ items_at_all (column_types schema)

-- a row's values at all places are the row
whole_row : (schema : Schema) (places : List ℕ) (row : Row) → places ≡ column_places schema → types_of row ≡ column_types schema → selected places row ≡ row
whole_row schema places row is typed =
    let count : length schema.columns ≡ length row = sym (types_length schema) ∙ sym (ap length typed) ∙ length-map row type_of in
    ap (filter_map (slice_get row)) (is ∙ ap (range_with_len 0) count) ∙ items_at_all row

pub whole_rows : (schema : Schema) (places : List ℕ) (rows : List Row) → places ≡ column_places schema → AreRowsOf (column_types schema) rows → map (selected places) rows ≡ rows
whole_rows schema places [] is typed = refl
whole_rows schema places (row ∷ rows) is typed =
    ap₂ (λ r rs. r ∷ rs) (whole_row schema places row is (All-head (λ r. types_of r ≡ column_types schema) row rows typed))
    (whole_rows schema places rows is (All-tail (λ r. types_of r ≡ column_types schema) row rows typed))

-- ---- one part

module _ {F : Type 0} (files_of : F → Option Files) (schema : Schema) (part : Part F) (rows : List Row) (h : PartHolds files_of schema part rows) (places : List ℕ) (places_are : places ≡ column_places schema) where
  -- it holds its rows at all columns
  pub holds_all : HoldsAt files_of schema part (map file.Column places) rows
  holds_all = holds_at files_of schema part rows places h (places_within schema places places_are)

-- ---- several parts

-- the rows that a part holds
pub record PartAt {F : Type 0} (files_of : F → Option Files) (schema : Schema) (part : Part F) : Type 0 where
  pub rows : List Row
  pub holds : PartHolds files_of schema part rows

module _ {F : Type 0} (files_of : F → Option Files) (schema : Schema) where
  pub part_at : (parts : List (Kept (Part F))) (lists : List (List Row)) (at : ℕ) (part : Kept (Part F)) → PartsHold files_of schema parts lists → at < length parts → part ≡ get_or parts at part → PartAt files_of schema part.part
  part_at [] lists at part h below is = absurd (omega arith)
  part_at (p ∷ ps) [] at part h below is = absurd h
  part_at (p ∷ ps) (r ∷ rs) zero part h below is = record { rows = r; holds = subst (λ (q : Kept (Part F)). PartHolds files_of schema q.part r) (sym is) h.0 }
  part_at (p ∷ ps) (r ∷ rs) (suc at) part h below is = part_at ps rs at part h.1 (omega arith) is

-- ---- why nothing was sealed

-- it says nothing of the files of parts
pub explains_any : {F : Type 0} (files_of : F → Option Files) (schema : Schema) (part : Part F) (error : DiskError) (fault : PartFault) → FaultOf error fault → ExplainsPart files_of schema part fault
explains_any files_of schema part disk.Fault e is = subst (ExplainsPart files_of schema part) (sym is) tt
explains_any files_of schema part disk.NoMemory e is = subst (ExplainsPart files_of schema part) (sym is) tt

-- nor is it damage
pub no_damage : (error : DiskError) (fault : PartFault) → FaultOf error fault → IsNoDamage fault
no_damage disk.Fault e is = subst IsNoDamage (sym is) tt
no_damage disk.NoMemory e is = subst IsNoDamage (sym is) tt

-- the first part's name, as it was read
pub same_name : {F : Type 0} (read kept : Kept (Part F)) → read ≡ kept → kept.name ≡ read.name
same_name {F} read kept is = ap (λ (k : Kept (Part F)). k.name) (sym is)
