-- What one merge of all rows of a table's visible parts leaves, after events of the core.
use Rattle.std.proofs.Common.{◌≡◌, ℕ, List, [], Some, None, All, sym, subst, arith}
use Rattle.std.specs.List.Sorted.{IsPermutation}
use Rattle.std.proofs.lemmas.List.Elements.{All-nil}
use Rattle.mt_values.specs.declared.command.Command.TheVariants as command
use Rattle.mt_values.specs.declared.schema.Schema.{Schema}
use Rattle.mt_values.specs.Values.{Row}
use Rattle.table_core.specs.mt_model.Final.{FoldsAll, KeysFoldOnce}
use Rattle.table_core.specs.mt_model.History.{History, schema_of}
use Rattle.table_core.specs.mt_model.Live.{live}
use Rattle.table_core.specs.mt_model.Numbers.{mutations_in}
use Rattle.table_core.specs.mt_model.Partial.{Partly}
use Rattle.table_core.specs.part_history.declared.part.CorePart.{CorePart}
use Rattle.table_core.specs.part_history.Parts.{AreInBlockOrder, PartStands, TableStands, core_parts_of, rows_seen_of}
use Rattle.table_core.proofs.PartHistoryJoined.{parts_joined}
use Rattle.table_core.proofs.PartHistoryNumbered.{legal_schema}
use Rattle.table_core.specs.declared.event.Event.{Event}
use Rattle.table_core.specs.Core.{Core, IsCore, IsSnapshot, empty_core}
use Rattle.table_core.proofs.Telling.{run_core}
use Rattle.final_fold.specs.rule_law.TableRows.{IsTableRow}
use Rattle.final_fold.proofs.RowMergeHistoryRows.{table_rows}
use Rattle.final_fold.proofs.RuleLawPartlyRows.{partly_table}
use Rattle.final_events.specs.Cores.{LeadTo, MergesVisible}
use Rattle.final_fold.proofs.FoldedAll.{partly_folds}
use Rattle.final_fold.proofs.FoldedOnce.{rows_once}
use Rattle.final_fold.proofs.MergedRows.{merges_exist}

-- ---- the core at the start

none_stand : (table : List ℕ) → TableStands table [] []
none_stand table = record {
  own = All-nil (λ (p : CorePart). p.table ≡ table);
  each = All-nil (PartStands []);
  once = λ partition n is. let bad : None ≡ Some (command.Insert is.insert) = is.there in cc;
}

none_in_order : AreInBlockOrder []
none_in_order = λ k d low lt. absurd (omega (arith, lt))

begun : IsCore empty_core
begun = record { legal = tt; parts = none_stand; order = λ table. none_in_order; snapshots = All-nil (IsSnapshot []) }

-- ---- rows of visible parts

led_core : (events : List Event) (core : Core) → LeadTo events core → IsCore core
led_core events core leads = run_core events leads.1.0 empty_core core begun leads.0 leads.1.1

module _ (core : Core) (is : IsCore core) (table : List ℕ) (schema : Schema) (there : schema_of table core.history ≡ Some schema) where
  own : All (IsTableRow schema) (live table schema core.history)
  own = table_rows core.history is.legal table schema there

  partly : Partly schema (live table schema core.history) (rows_seen_of (mutations_in table core.history) (core_parts_of table core.parts))
  partly = parts_joined core.history table schema is.legal there (core_parts_of table core.parts) (is.parts table) (is.order table)

  core_merges : (out : List Row) × MergesVisible schema table core out
  core_merges =
      let visible = rows_seen_of (mutations_in table core.history) (core_parts_of table core.parts) in
      merges_exist schema (legal_schema table core.history schema is.legal there) visible (partly_table schema (live table schema core.history) visible own partly)

  core_folds : (out : List Row) → MergesVisible schema table core out → FoldsAll schema (live table schema core.history) out
  core_folds out merges = partly_folds schema (live table schema core.history) (rows_seen_of (mutations_in table core.history) (core_parts_of table core.parts)) out own partly merges

-- ---- after events

pub events_merge : (events : List Event) (core : Core) (table : List ℕ) (schema : Schema) → LeadTo events core → schema_of table core.history ≡ Some schema → (out : List Row) × MergesVisible schema table core out
events_merge events core table schema leads there = core_merges core (led_core events core leads) table schema there

pub events_fold : (events : List Event) (core : Core) (table : List ℕ) (schema : Schema) (out : List Row) → LeadTo events core → schema_of table core.history ≡ Some schema → MergesVisible schema table core out
    → FoldsAll schema (live table schema core.history) out
events_fold events core table schema out leads there merges = core_folds core (led_core events core leads) table schema there out merges

pub same_rows : (events others : List Event) (one two : Core) (table : List ℕ) (schema : Schema) (a b : List Row) → LeadTo events one → LeadTo others two → one.history ≡ two.history → schema_of table one.history ≡ Some schema
    → KeysFoldOnce schema (live table schema one.history) → MergesVisible schema table one a → MergesVisible schema table two b → IsPermutation a b
same_rows events others one two table schema a b first second same there once p q =
    let there_too : schema_of table two.history ≡ Some schema = subst (λ (h : History). schema_of table h ≡ Some schema) same there in
    let folds : FoldsAll schema (live table schema one.history) b = subst (λ (h : History). FoldsAll schema (live table schema h) b) (sym same) (events_fold others two table schema b second there_too q) in
    rows_once schema (live table schema one.history) a b once (events_fold events one table schema a first there p) folds
