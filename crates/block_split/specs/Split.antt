-- Rows split by partition.
use Rattle.std.specs.Prelude.{◌≡◌, ℕ, List, All, map}
use Rattle.mt_base.specs.declared.partition.Partition.{Partition}
use Rattle.mt_values.specs.declared.command.Command.{Command}
use Rattle.mt_values.specs.declared.command.Command.TheVariants as command
use Rattle.mt_values.specs.declared.command.Insert.{Insert}
use Rattle.mt_values.specs.declared.schema.Schema.{Schema}
use Rattle.mt_values.specs.Grid.{Grid}
use Rattle.mt_values.specs.Schemas.{column_types}
use Rattle.mt_values.specs.Values.{Row}
use Rattle.mt_model.specs.Commands.{partitions_of, rows_in}
use Rattle.block_split.specs.declared.blocks.PartitionBlock.{PartitionBlock}

-- each partition with its rows, in the order in which the partitions first occur (docs/definitions-of-runs.md, "Commands of statements")
abbrev pub split_rows : Schema → List Row → List (Partition × List Row)
split_rows schema rows = map (λ (p : Partition). (p, rows_in schema p rows)) (partitions_of schema rows)

-- a block's partition and rows (docs/definitions.md, "Partitions")
abbrev pub partition_rows : PartitionBlock → Partition × List Row
partition_rows b = (b.partition, b.block.rows)

-- the command that adds the rows of one partition (docs/definitions-of-runs.md, "Commands of statements")
abbrev pub command_of : Schema → List ℕ → Partition × List Row → Command
command_of schema table part = command.Insert (record { table = table; partition = part.0; block = record { types = column_types schema; rows = part.1 } })

-- what adds a partition's block to a table (docs/definitions-of-runs.md, "Commands of statements")
abbrev pub insert_of : List ℕ → PartitionBlock → Insert
insert_of table b = record { table = table; partition = b.partition; block = b.block }

-- the blocks have each partition's rows, in columns of the block's types (docs/definitions-of-runs.md, "Commands of statements")
pub record IsSplit (schema : Schema) (block : Grid) (blocks : List PartitionBlock) : Type 0 where
  pub rows : map partition_rows blocks ≡ split_rows schema block.rows
  pub types : All (λ (b : PartitionBlock). b.block.types ≡ block.types) blocks
