-- Merges at any times, and then one of all rows, leave what FINAL may leave of the live rows.
use Rattle.std.proofs.Common.{◌≡◌, zero, suc, ◌<◌, List, [], ◌∷◌, ◌++◌, All, length, length-append, sym, ap, arith, Option, None, Some}
use Rattle.std.proofs.lemmas.List.Elements.{All-filter, All-weaker}
use Rattle.mt_values.specs.declared.engine.Aggregate.{Aggregate}
use Rattle.mt_values.specs.declared.engine.Engine.{Engine}
use Rattle.mt_values.specs.declared.engine.Engine.TheVariants as engine
use Rattle.mt_values.specs.declared.schema.Schema.{Schema}
use Rattle.mt_values.specs.declared.value.ColType.{ColType}
use Rattle.mt_values.specs.Schemas.{column_types}
use Rattle.mt_values.specs.Values.{Row, types_of}
use Rattle.row_merge.specs.mt_model.Folding.{ComesFrom, Leaves, Merges}
use Rattle.row_merge.specs.mt_model.Live.{of_key}
use Rattle.row_merge.specs.mt_model.Partial.{MergesAll, Partly, TableRun, functions_of}
use Rattle.row_merge.specs.mt_model.Rules.{Folds, Run}
use Rattle.row_merge.specs.rule_law.TableRows.{IsRowOf, IsTableRow}
use Rattle.row_merge.proofs.RuleLawAggregated.{TakesRow, aggregating_law}
use Rattle.row_merge.proofs.RuleLawAllRows.{plain_law}
use Rattle.row_merge.proofs.RuleLawAlternating.{collapsing_law}
use Rattle.row_merge.proofs.RuleLawOneRow.{replacing_law}
use Rattle.row_merge.proofs.RuleLawOneSign.{versioned_law}
use Rattle.row_merge.proofs.RuleLawOneSum.{summing_law}
use Rattle.row_merge.proofs.RuleLawTableRows.{even_columns}
use Rattle.row_merge.specs.mt_model.Final.{FoldsAll, TableFolds}
use Rattle.final_fold.specs.Keys.{is_of_key}
use Rattle.final_fold.proofs.KeyTests.{none_left}

module _ (functions : List (Option Aggregate)) (types : List ColType) (even : length functions ≡ length types) where
  -- the law of each engine's rule, of rows of the engine's tables
  engine_law : (e : Engine) (rows x out : List Row) → 0 < length rows → All (IsRowOf e types) rows → ComesFrom (Run e functions) rows x → Leaves (Run e functions) x out → Folds e functions rows out
  engine_law engine.Plain rows x out some own comes leaves = plain_law rows x out some comes leaves
  engine_law (engine.Replacing None) rows x out some own comes leaves = replacing_law None rows x out some comes leaves
  engine_law (engine.Replacing (Some version)) rows x out some own comes leaves = replacing_law (Some version) rows x out some comes leaves
  engine_law (engine.Summing places) rows x out some own comes leaves =
      summing_law places types rows x out some (All-weaker (IsRowOf (engine.Summing places) types) (λ r. types_of r ≡ types) (λ r is. is.typed) rows own) comes leaves
  engine_law (engine.Collapsing sign) rows x out some own comes leaves = collapsing_law sign rows x out some comes leaves
  engine_law (engine.Versioned sign version) rows x out some own comes leaves = versioned_law sign version rows x out some comes leaves
  engine_law engine.Aggregating rows x out some own comes leaves =
      aggregating_law types functions rows x out some (All-weaker (IsRowOf engine.Aggregating types) (TakesRow types functions) (λ r is. (is.typed, even)) rows own) comes leaves

-- of no rows merges leave none
nothing_comes : (run : List Row → List Row → Type 0) (x : List Row) → ComesFrom run [] x → x ≡ []
nothing_comes run x (zero, same) = sym same
nothing_comes run x (suc n, more) =
    let m : Merges run [] more.0 = more.1 in
    absurd (omega (arith, ap length m.before_is, length-append m.front (m.rows ++ m.back), length-append m.rows m.back, m.some))

module _ (schema : Schema) where
  folds_key : (rows x out : List Row) → All (IsTableRow schema) rows → ComesFrom (TableRun schema) rows x → Leaves (TableRun schema) x out → Leaves (TableFolds schema) rows out
  folds_key [] x out own comes leaves = none_left (TableRun schema) x out (nothing_comes (TableRun schema) x comes) leaves
  folds_key (row ∷ rows) x out own comes leaves =
      engine_law (functions_of schema) (column_types schema) (even_columns schema) schema.engine (row ∷ rows) x out (omega arith) own comes leaves

  pub partly_folds : (live x out : List Row) → All (IsTableRow schema) live → Partly schema live x → MergesAll schema x out → FoldsAll schema live out
  partly_folds live x out own partly merges = λ partition row.
      folds_key (of_key schema partition row live) (of_key schema partition row x) (of_key schema partition row out)
      (All-filter (is_of_key schema partition row) (IsTableRow schema) live own) (partly partition row) (merges partition row)
