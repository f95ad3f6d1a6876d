-- The partitions that an OPTIMIZE with FINAL goes through, and what is replied where a merge is refused (docs/definitions-of-runs.md, "Statements taken").
use Rattle.std.specs.Prelude.{◌≡◌, ◌<◌, ◌↔◌, ℕ, List, map, Option}
use Rattle.std.specs.List.{AllPairs, Contains as HasItem}
use Rattle.mt_base.specs.declared.name.FileId.{FileId}
use Rattle.mt_base.specs.declared.partition.Partition.{Partition}
use Rattle.mt_base.specs.Files.{file_name}
use Rattle.mt_values.specs.declared.manifest.FileMark.{FileMark}
use Rattle.mt_values.specs.declared.schema.Schema.{Schema}
use Rattle.mt_outside.specs.Files.{Files}
use Rattle.replies.specs.mt_model.declared.refusal.Refusal.{Refusal}
use Rattle.replies.specs.mt_model.declared.refusal.Refusal.TheVariants as refusal
use Rattle.replies.specs.mt_model.Refusals.{refusal_line}
use Rattle.merge_workers.specs.shared_store.part_name.declared.part.PartName.{PartName}
use Rattle.merge_workers.specs.shared_store.part_name.PartNames.{part_text}
use Rattle.merge_workers.specs.shared_store.part_reader.declared.reading.Part.{Part}
use Rattle.merge_workers.specs.shared_store.part_reader.declared.reading.PartFault.{PartFault}
use Rattle.merge_workers.specs.shared_store.part_reader.declared.reading.PartFault.TheVariants as fault
use Rattle.merge_workers.specs.shared_store.part_set.declared.kept.Kept.{Kept}
use Rattle.merge_workers.specs.shared_store.part_set.Parts.{partition_rank}
use Rattle.final_fold.specs.row_merge.MergedParts.{ExplainsPart}

-- ---- the partitions of a table

-- the partitions of parts
abbrev pub partitions_in : {P : Type 0} → List (Kept P) → List Partition
partitions_in {P = P} parts = map (λ (k : Kept P). k.name.partition) parts

-- these are the partitions of the parts, each once, ascending (docs/definitions.md, "Partitions")
pub record ArePartitionsOf {P : Type 0} (parts : List (Kept P)) (found : List Partition) : Type 0 where
  pub each : (partition : Partition) → HasItem found partition ↔ HasItem (partitions_in parts) partition
  pub ascend : AllPairs (λ a b. partition_rank a < partition_rank b) found

-- ---- refusals

-- the reply says why a statement was refused (docs/replies.md, "Refusals")
abbrev pub IsRefusal : List ℕ → Type 0
IsRefusal reply = (why : Refusal) × (reply ≡ refusal_line why)

-- ---- damage

-- The reply tells of damage: of one of these parts of a table, and of a file of it. What was read there of a granule of a column is no spelling of a value of
-- the column's type for each of its rows; or what is kept of the part has other columns than the table (docs/replies.md, "Faults").
pub record TellsOfPart {F : Type 0} (files_of : F → Option Files) (table : List ℕ) (schema : Schema) (parts : List (Kept (Part F))) (reply : List ℕ) : Type 0 where
  pub kept : Kept (Part F)
  pub here : HasItem parts kept
  pub file : FileId
  pub place : ℕ
  pub wanted : FileMark
  pub found : FileMark
  pub explained : ExplainsPart files_of schema kept.part (fault.Damaged file place wanted found)
  pub reply_is : reply ≡ refusal_line (refusal.Damaged table (part_text kept.name) (file_name file))

-- ---- what a work comes to

-- the reply where a part of a table was not read, or what parts became was not sealed; there is none where memory ran out (docs/replies.md, "Faults")
abbrev pub IsUnreadLine : List ℕ → PartName → PartFault → List ℕ → Type 0
IsUnreadLine table part fault.NoMemory line = ⊥
IsUnreadLine table part fault.Fault line = line ≡ refusal_line refusal.Failed
IsUnreadLine table part (fault.Damaged file place wanted found) line = line ≡ refusal_line (refusal.Damaged table (part_text part) (file_name file))
