-- What a SELECT reads and what it tells of damage.
use Rattle.std.specs.Prelude.{◌≡◌, ◌⊎◌, ◌<◌, ◌^◌, ℕ, [], ◌++◌, Bool, true, false, List, All, Ok, Option, length, map}
use Rattle.std.specs.List.{Contains as HasItem, concat}
use Rattle.mt_base.specs.declared.name.FileId.{FileId}
use Rattle.mt_base.specs.Files.{file_name}
use Rattle.mt_values.specs.declared.manifest.FileMark.{FileMark}
use Rattle.mt_values.specs.declared.schema.Schema.{Schema}
use Rattle.mt_values.specs.declared.statement.SelectText.{SelectText}
use Rattle.mt_values.specs.Grid.{Cells}
use Rattle.mt_values.specs.Order.{key_of}
use Rattle.mt_values.specs.Schemas.{column_types}
use Rattle.mt_values.specs.Values.{Row, types_of}
use Rattle.mt_outside.specs.Files.{Files}
use Rattle.replies.specs.mt_model.declared.query.Query.{Query}
use Rattle.replies.specs.mt_model.declared.refusal.Refusal.TheVariants as refusal
use Rattle.replies.specs.mt_model.Answer.{Prints}
use Rattle.replies.specs.mt_model.Explain.{explain_line}
use Rattle.replies.specs.mt_model.Final.{Sees}
use Rattle.replies.specs.mt_model.History.{History, IsTableSchema}
use Rattle.replies.specs.mt_model.Live.{live}
use Rattle.replies.specs.mt_model.Queries.{query_of}
use Rattle.replies.specs.mt_model.Refusals.{refusal_line}
use Rattle.replies.specs.mt_model.Reply.{rows_line}
use Rattle.replies.specs.Foreseen.{Selected}
use Rattle.merge_workers.specs.shared_store.part_name.declared.part.PartName.{PartName}
use Rattle.merge_workers.specs.shared_store.part_name.PartNames.{part_text}
use Rattle.merge_workers.specs.shared_store.part_reader.declared.reading.Part.{Part}
use Rattle.merge_workers.specs.shared_store.part_reader.declared.reading.PartFault.{PartFault}
use Rattle.merge_workers.specs.shared_store.part_reader.declared.reading.PartFault.TheVariants as fault
use Rattle.merge_workers.specs.shared_store.part_set.declared.kept.Kept.{Kept}
use Rattle.merge_workers.specs.shared_store.part_set.declared.kept.Snap.{Snap}
use Rattle.merge_workers.specs.shared_store.root_store.declared.store.CoreStore.{CoreStore}
use Rattle.merge_workers.specs.shared_store.root_store.Stores.{CoreStands}
use Rattle.merge_workers.specs.shared_store.Engines.{IsSnapOf}
use Rattle.final_fold.specs.declared.asking.Wanted.{Wanted}
use Rattle.final_fold.specs.Asked.{IsWanted}
use Rattle.final_fold.specs.Folded.{ExplainsFold}
use Rattle.final_fold.specs.Matches.{ExplainsMatches, matching}
use Rattle.final_fold.specs.row_merge.MergedParts.{PartsHold}
use Rattle.final_fold.specs.Scans.{joined_rows, values_at}
use Rattle.final_fold.specs.select_plan.declared.counting.Plan.{Plan}
use Rattle.final_fold.specs.select_plan.Plans.{counts_over, planned}
use Rattle.session.specs.Merges.{IsRefusal}

-- what is read is what a query asks of a pinned table: its condition, and columns that it selects (docs/architecture.md, "The way of a SELECT")
pub record IsAskedOf {F : Type 0} (snap : Snap (Part F)) (query : Query) (wanted : Wanted) : Type 0 where
  pub schema : wanted.schema.now ≡ snap.schema
  pub condition : wanted.condition.now ≡ query.condition
  pub places : All (HasItem query.places) wanted.places.now

-- the rows are those that parts hold, one part after another
pub record AreHeld {F : Type 0} (files_of : F → Option Files) (schema : Schema) (parts : List (Kept (Part F))) (rows : List Row) : Type 0 where
  pub held : List (List Row)
  pub hold : PartsHold files_of schema parts held
  pub joined : rows ≡ joined_rows held

-- Columns have the values at the wanted places of what a SELECT sees of live rows and meets its condition, rows of the table, and these are counted.
-- Without FINAL it sees what the parts hold (docs/architecture.md, "The way of a SELECT").
pub record IsSeen {F : Type 0} (files_of : F → Option Files) (parts : List (Kept (Part F))) (w : Wanted) (is_final : Bool) (live : List Row) (columns : List Cells) (count : ℕ) : Type 0 where
  pub rows : List Row
  pub seen : Sees w.schema.now is_final live rows
  pub plain : is_final ≡ false → AreHeld files_of w.schema.now parts rows
  pub typed : All (λ (row : Row). types_of row ≡ column_types w.schema.now) rows
  pub values : map (λ (c : Cells). c.values) columns ≡ values_at (matching w.condition.now rows) w.places.now
  pub counted : count ≡ length (matching w.condition.now rows)

-- what is wanted is of a pinned table (docs/architecture.md, "The way of a SELECT")
pub record IsWantedOf {F : Type 0} (snap : Snap (Part F)) (w : Wanted) : Type 0 where
  pub schema : snap.schema ≡ w.schema.now
  pub table : IsTableSchema w.schema.now
  pub wanted : IsWanted w

-- which granules are read is what the plan says (docs/architecture.md, "The way of a SELECT")
abbrev pub IsPlanFor : {F : Type 0} → Plan → Snap (Part F) → Bool → Wanted → Type 0
IsPlanFor plan snap is_final w = plan.parts.items ≡ planned snap is_final w.condition.now

-- What a SELECT sees is added to columns: of a table that stands for a history, where they were empty, the values of what it sees. They have as
-- many values as rows were added, and 32 bits count these (docs/architecture.md, "The way of a SELECT").
pub record AddsSeen {F : Type 0} (files_of : F → Option Files) (snap : Snap (Part F)) (is_final : Bool) (w : Wanted) (old new : List Cells) (count : ℕ) : Type 0 where
  pub values : (h : History) (store : CoreStore F) (table : List ℕ) → CoreStands files_of h store → IsSnapOf store table snap
      → map (λ (c : Cells). c.values) old ≡ values_at [] w.places.now → IsSeen files_of snap.parts.items w is_final (live table w.schema.now h) new count
  pub even : All (λ (c : Cells). length c.values ≡ 0) old → All (λ (c : Cells). length c.values ≡ count) new
  pub types : map (λ (c : Cells). c.col_type) new ≡ map (λ (c : Cells). c.col_type) old
  pub few : count < 2 ^ 32

-- what a fault says of one of the parts, by its name: with FINAL all columns are read, without it those that the SELECT names (docs/architecture.md, "The way of a SELECT")
abbrev pub ExplainsRead : {F : Type 0} → (F → Option Files) → Bool → List (Kept (Part F)) → List (List Bool) → Wanted → PartName × PartFault → Type 0
ExplainsRead files_of true parts chosen w e = ExplainsFold files_of parts chosen w e
ExplainsRead files_of false parts chosen w e = ExplainsMatches files_of parts chosen w e

-- the same of a pinned table's parts, of which a plan chooses granules (docs/architecture.md, "The way of a SELECT")
abbrev pub SaysRead : {F : Type 0} → (F → Option Files) → Snap (Part F) → Bool → Wanted → PartName × PartFault → Type 0
SaysRead files_of snap is_final w e = ExplainsRead files_of is_final snap.parts.items (planned snap is_final w.condition.now) w e

-- The reply tells of damage: of a part of the table, and of a file of it. What was read there of a column, with FINAL of any and without it of one that the SELECT
-- names, in granules that its plan chooses, is no spelling of a value of the column's type for each of their rows, or no such granules are kept (docs/replies.md, "Faults").
pub record TellsOfDamage {F : Type 0} (files_of : F → Option Files) (snap : Snap (Part F)) (text : SelectText) (reply : List ℕ) : Type 0 where
  pub table : IsTableSchema snap.schema
  pub query : Query
  pub asked : query_of snap.schema.columns text ≡ Ok query
  pub read : Wanted
  pub read_is : IsAskedOf snap query read
  pub name : PartName
  pub file : FileId
  pub place : ℕ
  pub wanted : FileMark
  pub found : FileMark
  pub part : ExplainsRead files_of text.is_final snap.parts.items (planned snap text.is_final query.condition) read (name, fault.Damaged file place wanted found)
  pub reply_is : reply ≡ refusal_line (refusal.Damaged text.table (part_text name) (file_name file))

-- The reply has a line for each of the rows that a pinned table's parts hold and that meet the condition: of the selected columns, sorted by these
-- (docs/replies.md, "SELECT").
pub record ReadsParts {F : Type 0} (files_of : F → Option Files) (snap : Snap (Part F)) (text : SelectText) (reply : List ℕ) : Type 0 where
  pub query : Query
  pub asked : query_of snap.schema.columns text ≡ Ok query
  pub rows : List Row
  pub are : AreHeld files_of snap.schema snap.parts.items rows
  pub lines : List (List ℕ)
  pub prints : Prints (map (key_of query.places) (matching query.condition rows)) lines
  pub reply_is : reply ≡ rows_line (length lines) snap.length ++ concat lines

-- without FINAL a SELECT of a table that a store keeps has the rows of the parts as they are, unless it is refused (docs/replies.md, "SELECT")
abbrev pub ReadsPlain : {F : Type 0} → (F → Option Files) → CoreStore F → SelectText → List ℕ → Type 0
ReadsPlain {F} files_of store text reply = text.is_final ≡ false → IsRefusal reply ⊎ ((snap : Snap (Part F)) × IsSnapOf store text.table snap × ReadsParts files_of snap text reply)

-- A SELECT of a table that a store keeps is answered so: with a reply that any session's may have at the end of the history, whatever the outside comes to, and
-- without FINAL by the rows of the parts as they are (docs/definitions.md, "SELECT").
pub record SelectsFrom {F : Type 0} (files_of : F → Option Files) (store : CoreStore F) (h : History) (text : SelectText) (arm : ℕ) (reply : List ℕ) : Type 0 where
  pub takes : Selected h text arm reply
  pub plain : ReadsPlain files_of store text reply

-- The reply to an EXPLAIN has the numbers of the plan of its SELECT over a pinned table, and the length of its history (docs/definitions-of-runs.md,
-- "Explained reads").
pub record CountsPlan {F : Type 0} (snap : Snap (Part F)) (text : SelectText) (reply : List ℕ) : Type 0 where
  pub query : Query
  pub asked : query_of snap.schema.columns text ≡ Ok query
  pub reply_is : reply ≡ explain_line (counts_over (planned snap text.is_final query.condition)) snap.length
