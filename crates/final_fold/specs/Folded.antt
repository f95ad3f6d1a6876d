-- What FINAL sees of the parts of a table of which some granules are not read (docs/engines.md, "FINAL"; docs/architecture.md, "The way of a SELECT").
use Rattle.std.specs.Prelude.{◌≡◌, ◌<◌, ◌≤◌, ◌^◌, ℕ, Bool, true, false, not, List, length, map, All, Option}
use Rattle.std.specs.List.{AllPairs, AllZip, take_while}
use Rattle.mt_base.specs.declared.partition.Partition.{Partition}
use Rattle.mt_values.specs.declared.schema.Schema.{Schema}
use Rattle.mt_values.specs.Grid.{Cells}
use Rattle.mt_values.specs.Schemas.{column_types}
use Rattle.mt_values.specs.Tables.{partition_of, same_partition}
use Rattle.mt_values.specs.Tests.{eval}
use Rattle.mt_values.specs.Values.{Row, types_of}
use Rattle.mt_outside.specs.Files.{Files}
use Rattle.row_merge.specs.column_file.Marks.{granules}
use Rattle.row_merge.specs.mt_model.Partial.{MergesAll}
use Rattle.row_merge.specs.part_set.part_name.declared.part.PartName.{PartName}
use Rattle.row_merge.specs.part_reader.declared.reading.Part.{Part}
use Rattle.row_merge.specs.part_reader.declared.reading.PartFault.{PartFault}
use Rattle.row_merge.specs.part_reader.Granules.{chosen_of}
use Rattle.row_merge.specs.part_set.Parts.{partition_rank}
use Rattle.row_merge.specs.part_set.declared.kept.Kept.{Kept}
use Rattle.row_merge.specs.Merged.{ArePartRows}
use Rattle.row_merge.specs.MergedParts.{ExplainsWholes}
pub use Rattle.row_merge.specs.MergedParts.{chosen_inputs}
use Rattle.final_fold.specs.declared.asking.Wanted.{Wanted}
use Rattle.final_fold.specs.Keys.{is_of_key}
use Rattle.final_fold.specs.Matches.{matching}
use Rattle.final_fold.specs.Scans.{values_at}

-- ---- what is read

-- parts stand partition by partition: the whole first, then by the partitions' numbers
abbrev pub StandByPartition : {F : Type 0} → List (Kept (Part F)) → Type 0
StandByPartition {F} parts = AllPairs (λ (a b : Kept (Part F)). partition_rank a.name.partition ≤ partition_rank b.name.partition) parts

-- how many parts from the first on are of a partition
abbrev pub count_in : {F : Type 0} → Partition → List (Kept (Part F)) → ℕ
count_in {F} partition parts = length (take_while (λ (k : Kept (Part F)). same_partition k.name.partition partition) parts)

-- the rows of a part are as a part of its partition has them (docs/definitions.md, "Order")
abbrev pub AreOfPartitions : {F : Type 0} → Schema → List (Kept (Part F)) → List (List Row) → Type 0
AreOfPartitions {F} schema parts rows = AllZip (λ (k : Kept (Part F)) (r : List Row). ArePartRows schema k.name.partition r) parts rows

-- ---- what is not read

-- no row of the table that has a row's partition and key meets the condition, whatever its other columns
abbrev pub HidesNoMatch : Wanted → Row → Type 0
HidesNoMatch w row =
    (other : Row) → types_of other ≡ column_types w.schema.now → is_of_key w.schema.now (partition_of w.schema.now row) row other ≡ true → eval w.condition.now other ≡ false

-- the rows of the granules that are not chosen
abbrev pub skipped_of : ℕ → List Bool → List Row → List Row
skipped_of g chosen rows = chosen_of g (map not chosen) rows

-- it is said of each granule whether it is chosen, and no row of a key that has a row in one that is not meets the condition
pub record SkipsNoFold (w : Wanted) (chosen : List Bool) (rows : List Row) : Type 0 where
  pub said : length chosen ≡ granules w.schema.now.granularity (length rows)
  pub hides : All (HidesNoMatch w) (skipped_of w.schema.now.granularity chosen rows)

-- the same of each part
abbrev pub SkipNoFold : Wanted → List (List Bool) → List (List Row) → Type 0
SkipNoFold w chosen rows = AllZip (SkipsNoFold w) chosen rows

-- ---- what is added

-- columns without values got this many each, and kept their types; 32 bits count them
pub record AreAdded (olds news : List Cells) (count : ℕ) : Type 0 where
  pub even : All (λ (c : Cells). length c.values ≡ 0) olds → All (λ (c : Cells). length c.values ≡ count) news
  pub types : map (λ (c : Cells). c.col_type) news ≡ map (λ (c : Cells). c.col_type) olds
  pub few : count < 2 ^ 32

-- columns have the values at the wanted places of the matches among what a merge of all these rows leaves, and these are counted (docs/engines.md, "FINAL")
pub record IsFolded (w : Wanted) (rows : List Row) (columns : List Cells) (count : ℕ) : Type 0 where
  pub out : List Row
  pub merges : MergesAll w.schema.now rows out
  pub values : map (λ (c : Cells). c.values) columns ≡ values_at (matching w.condition.now out) w.places.now
  pub counted : count ≡ length (matching w.condition.now out)

-- ---- damage

-- what a fault says of one of the parts, of which all columns are read in the chosen granules
abbrev pub ExplainsFold : {F : Type 0} → (F → Option Files) → List (Kept (Part F)) → List (List Bool) → Wanted → PartName × PartFault → Type 0
ExplainsFold files_of parts chosen w e = ExplainsWholes files_of w.schema.now parts chosen e
