-- What a merge leaves of rows of a table are rows of it, of the partition of the others.
use Rattle.std.proofs.Common.{◌≡◌, ℕ, ◌<◌, false, cond, List, [], ◌∷◌, length, slice_get, Option, None, Some, refl, sym, ◌∙◌, subst, arith}
use Rattle.std.specs.List.{All}
use Rattle.std.proofs.lemmas.List.{length-map}
use Rattle.std.proofs.lemmas.List.Elements.{All-cons, All-head, All-nil, All-same, All-weaker}
use Rattle.mt_base.specs.declared.partition.Partition.{Partition}
use Rattle.mt_base.specs.declared.partition.Partition.TheVariants.{Number}
use Rattle.mt_values.specs.declared.engine.Aggregate.{Aggregate}
use Rattle.mt_values.specs.declared.engine.Engine.{Engine}
use Rattle.mt_values.specs.declared.engine.Engine.TheVariants as engine
use Rattle.mt_values.specs.declared.schema.Column.{Column}
use Rattle.mt_values.specs.declared.schema.Schema.{Schema}
use Rattle.mt_values.specs.declared.value.ColType.{ColType}
use Rattle.mt_values.specs.declared.value.Value.{Value}
use Rattle.mt_values.specs.Schemas.{column_types}
use Rattle.mt_values.specs.Tables.{number_at, partition_by_column, partition_of}
use Rattle.mt_values.specs.Values.{FitsType, Row, types_of}
use Rattle.mt_model.specs.Partial.{TableRun, functions_of}
use Rattle.mt_model.specs.Rules.{LeavesAggregates, LeavesSums, Run, are_zero, is_one_of, with_sums}
use Rattle.rule_law.specs.TableRows.{IsRowOf, IsTableRow}
use Rattle.rule_law.proofs.Aggregated.{first_kept, left_types}
use Rattle.rule_law.proofs.Kept.{collapsing_keeps, plain_keeps, replacing_keeps, versioned_keeps}
use Rattle.rule_law.proofs.OneSum.{all_one, carried_one, left_all}
use Rattle.rule_law.proofs.Ranges.{aggregates_fit, sums_fit}
use Rattle.rule_law.proofs.Summed.{sums_apart, sums_type}

-- the engine's rule leaves a column as it is (docs/engines.md, "Columns")
abbrev pub IsApart : Engine → List (Option Aggregate) → ℕ → Type 0
IsApart (engine.Summing places) functions place = is_one_of places place ≡ false
IsApart engine.Aggregating functions place = slice_get functions place ≡ Some None
IsApart e functions place = Unit {0}

-- ---- sums

module _ (places : List ℕ) (P : Row → Type 0) (made : (rows : List Row) (row : Row) → P row → P (with_sums places rows row)) where
  -- what holds of a row with any sums in it holds of what is left
  sums_left : (rows out : List Row) → All P rows → LeavesSums places rows out → All P out
  sums_left rows out all h =
      All-same P out (cond (are_zero places (with_sums places rows h.carried)) [] (with_sums places rows h.carried ∷ [])) h.out_is
      (left_all P (are_zero places (with_sums places rows h.carried)) (with_sums places rows h.carried)
      (made rows h.carried (all_one P rows h.carried (carried_one places rows out h) all)))

sums_row : (places : List ℕ) (types : List ColType) (rows : List Row) (row : Row) → IsRowOf (engine.Summing places) types row → IsRowOf (engine.Summing places) types (with_sums places rows row)
sums_row places types rows row own =
    record { typed = sums_type places 0 rows row ∙ own.typed; fits = sums_fit 0 places rows row own.fits; signed = refl }

-- ---- all engines

module _ (functions : List (Option Aggregate)) (types : List ColType) (even : length functions ≡ length types) where
  types_all : (e : Engine) (rows : List Row) → All (IsRowOf e types) rows → All (λ row. types_of row ≡ types) rows
  types_all e rows all = All-weaker (IsRowOf e types) (λ row. types_of row ≡ types) (λ row own. own.typed) rows all

  fits_all : (e : Engine) (rows : List Row) → All (IsRowOf e types) rows → All (λ (row : Row). All FitsType row) rows
  fits_all e rows all = All-weaker (IsRowOf e types) (λ (row : Row). All FitsType row) (λ row own. own.fits) rows all

  aggregates_row : (rows : List Row) (out : List Row) → All (IsRowOf engine.Aggregating types) rows → (h : LeavesAggregates functions rows out) → IsRowOf engine.Aggregating types h.row
  aggregates_row rows out all h = record {
    typed = left_types types functions even rows h.row (types_all engine.Aggregating rows all) h.aggregates;
    fits = aggregates_fit 0 functions rows h.row (fits_all engine.Aggregating rows all) h.aggregates;
    signed = refl;
  }

  pub run_rows : (e : Engine) (rows out : List Row) → All (IsRowOf e types) rows → Run e functions rows out → All (IsRowOf e types) out
  run_rows engine.Plain rows out all h = plain_keeps (IsRowOf engine.Plain types) rows out all h
  run_rows (engine.Replacing None) rows out all h = replacing_keeps (IsRowOf (engine.Replacing None) types) None rows out all h
  run_rows (engine.Replacing (Some version)) rows out all h = replacing_keeps (IsRowOf (engine.Replacing (Some version)) types) (Some version) rows out all h
  run_rows (engine.Summing places) rows out all h = sums_left places (IsRowOf (engine.Summing places) types) (sums_row places types) rows out all h
  run_rows (engine.Collapsing sign) rows out all h = collapsing_keeps (IsRowOf (engine.Collapsing sign) types) sign rows out all h
  run_rows (engine.Versioned sign version) rows out all h = versioned_keeps (IsRowOf (engine.Versioned sign version) types) sign version rows out all h
  run_rows engine.Aggregating rows out all h =
      All-same (IsRowOf engine.Aggregating types) out (h.row ∷ []) h.out_is
      (All-cons (IsRowOf engine.Aggregating types) h.row [] (aggregates_row rows out all h) (All-nil (IsRowOf engine.Aggregating types)))

  -- ---- a column that is left as it is

  module _ (place : ℕ) (P : Option Value → Type 0) where
    abbrev At : Row → Type 0
    At row = P (slice_get row place)

    aggregates_at : (rows out : List Row) → 0 < length rows → slice_get functions place ≡ Some None → All (IsRowOf engine.Aggregating types) rows → All At rows → LeavesAggregates functions rows out → All At out
    aggregates_at [] out some none own all h = absurd (omega arith)
    aggregates_at (first ∷ rows) out some none own all h =
        let typed = (All-head (IsRowOf engine.Aggregating types) first rows own).typed in
        All-same At out (h.row ∷ []) h.out_is
        (All-cons At h.row [] (subst P (sym (first_kept types functions even first typed rows h.row h.aggregates place none)) (All-head At first rows all)) (All-nil At))

    pub run_apart : (e : Engine) (rows out : List Row) → 0 < length rows → IsApart e functions place → All (IsRowOf e types) rows → All At rows → Run e functions rows out → All At out
    run_apart engine.Plain rows out some left own all h = plain_keeps At rows out all h
    run_apart (engine.Replacing None) rows out some left own all h = replacing_keeps At None rows out all h
    run_apart (engine.Replacing (Some version)) rows out some left own all h = replacing_keeps At (Some version) rows out all h
    run_apart (engine.Summing places) rows out some left own all h = sums_left places At (λ rows row at. subst P (sym (sums_apart places rows row place left)) at) rows out all h
    run_apart (engine.Collapsing sign) rows out some left own all h = collapsing_keeps At sign rows out all h
    run_apart (engine.Versioned sign version) rows out some left own all h = versioned_keeps At sign version rows out all h
    run_apart engine.Aggregating rows out some left own all h = aggregates_at rows out some left own all h

-- ---- tables

pub even_columns : (schema : Schema) → length (functions_of schema) ≡ length (column_types schema)
even_columns schema = length-map schema.columns (λ (c : Column). c.function) ∙ sym (length-map schema.columns (λ (c : Column). c.col_type))

-- what one merge leaves of rows of the table are such rows
pub run_table : (schema : Schema) (rows out : List Row) → All (IsTableRow schema) rows → TableRun schema rows out → All (IsTableRow schema) out
run_table schema rows out all h = run_rows (functions_of schema) (column_types schema) (even_columns schema) schema.engine rows out all h

-- and of the partition of the others, where the rule leaves its column as it is
pub run_partition : (schema : Schema) (partition : Partition) (rows out : List Row) → ((place : ℕ) → schema.partition ≡ Some place → IsApart schema.engine (functions_of schema) place)
    → 0 < length rows → All (IsTableRow schema) rows → All (λ row. partition_of schema row ≡ partition) rows → TableRun schema rows out → All (λ row. partition_of schema row ≡ partition) out
run_partition schema partition rows out apart some own all h = by schema.partition refl all
  where
    by : (o : Option ℕ) → schema.partition ≡ o → All (λ row. partition_by_column o row ≡ partition) rows → All (λ row. partition_by_column o row ≡ partition) out
    by None is same = λ k d below. same 0 d some
    by (Some place) is same =
        run_apart (functions_of schema) (column_types schema) (even_columns schema) place (λ found. Number (number_at found) ≡ partition) schema.engine rows out some (apart place is) own same h
