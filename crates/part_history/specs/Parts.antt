-- Parts that stand for a history (docs/definitions.md, "The core").
use Rattle.std.specs.Prelude.{◌≡◌, ◌&&◌, ℕ, Bool, List, All, Option, Some, None, filter}
use Rattle.std.specs.List.{count_by, flat_map}
use Rattle.std.specs.List.Sorted.{IsSorted}
use Rattle.std.specs.Ordering.{nat_cmp, ordering_then}
use Rattle.std.specs.declared.cmp.Ordering.{Ordering}
use Rattle.std.specs.declared.cmp.Ordering.TheVariants.{Less, Equal, Greater}
use Rattle.mt_base.specs.declared.partition.Partition.{Partition}
use Rattle.mt_base.specs.declared.partition.Partition.TheVariants.{Whole, Number}
use Rattle.mt_values.specs.declared.mutation.Mutation.{Mutation}
use Rattle.mt_values.specs.declared.schema.Schema.{Schema}
use Rattle.mt_values.specs.Changes.{mutated}
use Rattle.mt_values.specs.Grammar.{same_bytes}
use Rattle.mt_values.specs.Tables.{same_partition}
use Rattle.mt_values.specs.Values.{Row}
use Rattle.rule_law.specs.mt_model.Explain.{Portion}
use Rattle.rule_law.specs.mt_model.History.{History, schema_of}
use Rattle.rule_law.specs.mt_model.Numbers.{IsNumberOfInsert, IsNumberOfMutation, Reach, lies_within}
use Rattle.rule_law.specs.mt_model.Reaches.{ReachStands}
use Rattle.part_name.specs.Pending.{pending_for}
use Rattle.part_name.specs.declared.part.PartName.{PartName}
use Rattle.part_name.specs.PartNames.{data_version}
use Rattle.part_history.specs.declared.part.CorePart.{CorePart}

-- the parts of a table, in their order (docs/definitions.md, "The core")
abbrev pub core_parts_of : List ℕ → List CorePart → List CorePart
core_parts_of table parts = filter (λ (p : CorePart). same_bytes p.table table) parts

-- the parts of one partition, in their order (docs/definitions.md, "The core")
abbrev pub parts_in : Partition → List CorePart → List CorePart
parts_in partition parts = filter (λ (p : CorePart). same_partition p.name.partition partition) parts

-- the rows of parts, one part after another (docs/definitions.md, "The core")
abbrev pub rows_of_parts : List CorePart → List Row
rows_of_parts parts = flat_map (λ (p : CorePart). p.rows) parts

-- the rows of a part after the mutations for which it waits (docs/definitions.md, "The core")
abbrev pub rows_seen : List Mutation → CorePart → List Row
rows_seen mutations part = mutated (pending_for mutations part.name) part.rows

-- those of parts, one part after another (docs/definitions.md, "The core")
abbrev pub rows_seen_of : List Mutation → List CorePart → List Row
rows_seen_of mutations parts = flat_map (rows_seen mutations) parts

-- whether a part is of the partition, and the number lies within its blocks (docs/definitions.md, "The core")
abbrev pub has_block : Partition → ℕ → CorePart → Bool
has_block partition n part = same_partition part.name.partition partition && lies_within part.name.min_block part.name.max_block n

-- what the name of a table's part reaches: the INSERTs of its blocks, with mutations up to its data version (docs/definitions.md, "The core")
abbrev pub reach_of : List ℕ → PartName → Reach
reach_of table name = record {
  table = table;
  partition = name.partition;
  least = name.min_block;
  greatest = name.max_block;
  version = data_version name;
}

-- what a part reaches (docs/definitions.md, "The core")
abbrev pub reach_of_part : CorePart → Reach
reach_of_part part = reach_of part.table part.name

-- the mutation that a part's name has, where it has one, is the number of one of its table (docs/definitions.md, "The core")
abbrev pub WasMutated : List ℕ → Option ℕ → History → Type 0
WasMutated table None h = Unit {0}
WasMutated table (Some n) h = IsNumberOfMutation table n h

-- a part stands for the INSERTs into its table and partition whose numbers lie within its blocks, of which there is one at least, after the mutations up to its data version (docs/definitions.md, "The core")
pub record PartStands (h : History) (part : CorePart) : Type 0 where
  pub schema : Schema
  pub there : schema_of part.table h ≡ Some schema
  pub mutated : WasMutated part.table part.name.mutation h
  pub stands : ReachStands h schema (reach_of_part part) part.rows

-- parts of one table stand for its commands: each number of an INSERT is in the blocks of exactly one of its partition (docs/definitions.md, "The core")
pub record TableStands (table : List ℕ) (parts : List CorePart) (h : History) : Type 0 where
  pub own : All (λ (p : CorePart). p.table ≡ table) parts
  pub each : All (PartStands h) parts
  pub once : (partition : Partition) (n : ℕ) → IsNumberOfInsert table partition n h → count_by (has_block partition n) parts ≡ 1

-- the parts stand for the history: those of every table do (docs/definitions.md, "The core")
abbrev pub PartsStand : List CorePart → History → Type 0
PartsStand parts h = (table : List ℕ) → TableStands table (core_parts_of table parts) h

-- the whole comes before the partitions that have numbers, and these by their numbers
abbrev pub partition_cmp : Partition → Partition → Ordering
partition_cmp Whole Whole = Equal
partition_cmp Whole (Number n) = Less
partition_cmp (Number m) Whole = Greater
partition_cmp (Number m) (Number n) = nat_cmp m n

-- block order: by the partition, then by the least block (docs/definitions.md, "The core")
abbrev pub block_cmp : CorePart → CorePart → Ordering
block_cmp a b = ordering_then (partition_cmp a.name.partition b.name.partition) (nat_cmp a.name.min_block b.name.min_block)

abbrev pub AreInBlockOrder : List CorePart → Type 0
AreInBlockOrder parts = IsSorted block_cmp parts

-- the rows that a part keeps together, without its name (docs/definitions-of-runs.md, "Explained reads")
abbrev pub portion_of : CorePart → Portion
portion_of p = record {
  partition = p.name.partition;
  least = p.name.min_block;
  greatest = p.name.max_block;
  version = data_version p.name;
  rows = p.rows;
}
