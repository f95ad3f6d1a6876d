-- Partitions that a table may have.
use Rattle.std.proofs.Common.{ℕ, ◌≤◌, ◌^◌, Option, Some, None, List, arith, slice_get}
use Rattle.mt_base.specs.declared.partition.Partition.{Partition}
use Rattle.mt_base.specs.declared.partition.Partition.TheVariants.{Whole, Number}
use Rattle.mt_values.specs.declared.schema.Column.{Column}
use Rattle.mt_values.specs.declared.schema.Schema.{Schema}
use Rattle.mt_values.specs.declared.value.ColType.{ColType}
use Rattle.mt_values.specs.declared.value.ColType.TheVariants as type
use Rattle.mt_values.specs.Grid.{Grid}
use Rattle.mt_values.specs.Tables.{IsPartitionBy, MayHavePartition, numbers_of, numbers_of_column}
use Rattle.root_store.specs.mt_model.History.{IsInsertInto, IsTableSchema}
use Rattle.root_store.proofs.MtModelCommands.{own_partition}
use Rattle.root_store.specs.part_name.PartNames.{IsPartition}
use Rattle.root_commits.specs.Commits.{insert_into, partition_of_block}

-- each type has numbers of 64 bits alone
type_few : (t : ColType) → numbers_of t ≤ 2 ^ 64
type_few type.UInt8 = omega arith
type_few type.UInt16 = omega arith
type_few type.UInt32 = omega arith
type_few type.UInt64 = omega arith
type_few type.Int8 = omega arith
type_few type.Int16 = omega arith
type_few type.Int32 = omega arith
type_few type.Int64 = omega arith
type_few type.Text = omega arith

column_few : (o : Option Column) → numbers_of_column o ≤ 2 ^ 64
column_few None = omega arith
column_few (Some column) = type_few column.col_type

-- names can spell them
pub may_spell : (schema : Schema) (partition : Partition) → MayHavePartition schema partition → IsPartition partition
may_spell schema Whole may = tt
may_spell schema (Number n) may = by schema.partition may
  where
    by : (o : Option ℕ) → IsPartitionBy schema.columns o (Number n) → n ≤ 18446744073709551615
    by None may = absurd may
    by (Some place) may = let few = column_few (slice_get schema.columns place) in omega (arith, may, few)

-- that of a block whose rows the table may get is one
module _ (table : List ℕ) (schema : Schema) (block : Grid) (fits : IsTableSchema schema) (rows : IsInsertInto schema (insert_into table (partition_of_block schema block) block)) where
  pub block_may : MayHavePartition schema (partition_of_block schema block)
  block_may = own_partition schema (insert_into table (partition_of_block schema block) block) fits rows

  pub block_spells : IsPartition (partition_of_block schema block)
  block_spells = may_spell schema (partition_of_block schema block) block_may
