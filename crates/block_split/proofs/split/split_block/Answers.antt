use Rattle.std.proofs.Common.{◌≡◌, All, Vec, Global, map}
use Rattle.std.proofs.lemmas.Result.{IfOk-weaker}
use Rattle.mt_model.specs.History.{IsInsertInto}
use Rattle.block_split.specs.declared.blocks.PartitionBlock.{PartitionBlock}
use Rattle.block_split.specs.Split.{IsSplit, insert_of, partition_rows, split_rows}
use Rattle.block_split.proofs.Inserting.{are_inserts, column_within}
use Rattle.block_split.proofs.split.split_block.Goals as goal

pub split_by-requires : goal.split_by-requires
split_by-requires c = column_within c.args.schema.now c.args.block.types c.in-Some.column c.requires.schema c.requires.types c.in-Some.is

pub returns-in-None-clause-blocks : goal.returns-in-None-clause-blocks
returns-in-None-clause-blocks c =
    IfOk-weaker c.split_whole.result
    (λ (v : Vec PartitionBlock Global). IsSplit c.args.schema.now c.args.block v.items)
    (λ (v : Vec PartitionBlock Global). map partition_rows v.items ≡ split_rows c.args.schema.now c.args.block.rows)
    (λ v is. is.rows)
    (c.split_whole.ensures c.args.schema.now c.in-None.is)

pub returns-in-None-clause-types : goal.returns-in-None-clause-types
returns-in-None-clause-types c =
    IfOk-weaker c.split_whole.result
    (λ (v : Vec PartitionBlock Global). IsSplit c.args.schema.now c.args.block v.items)
    (λ (v : Vec PartitionBlock Global). All (λ (b : PartitionBlock). b.block.types ≡ c.args.block.types) v.items)
    (λ v is. is.types)
    (c.split_whole.ensures c.args.schema.now c.in-None.is)

pub returns-in-None-clause-inserts : goal.returns-in-None-clause-inserts
returns-in-None-clause-inserts c = λ table values signed.
    IfOk-weaker c.split_whole.result
    (λ (v : Vec PartitionBlock Global). IsSplit c.args.schema.now c.args.block v.items)
    (λ (v : Vec PartitionBlock Global). All (λ (b : PartitionBlock). IsInsertInto c.args.schema.now (insert_of table b)) v.items)
    (λ v is. are_inserts c.args.schema.now table c.args.block v.items c.requires.types c.len-rows.ensures.typed values signed is)
    (c.split_whole.ensures c.args.schema.now c.in-None.is)

pub returns-in-Some-clause-blocks : goal.returns-in-Some-clause-blocks
returns-in-Some-clause-blocks c =
    IfOk-weaker c.split_by.result
    (λ (v : Vec PartitionBlock Global). IsSplit c.args.schema.now c.args.block v.items)
    (λ (v : Vec PartitionBlock Global). map partition_rows v.items ≡ split_rows c.args.schema.now c.args.block.rows)
    (λ v is. is.rows)
    (c.split_by.ensures c.args.schema.now c.in-Some.is)

pub returns-in-Some-clause-types : goal.returns-in-Some-clause-types
returns-in-Some-clause-types c =
    IfOk-weaker c.split_by.result
    (λ (v : Vec PartitionBlock Global). IsSplit c.args.schema.now c.args.block v.items)
    (λ (v : Vec PartitionBlock Global). All (λ (b : PartitionBlock). b.block.types ≡ c.args.block.types) v.items)
    (λ v is. is.types)
    (c.split_by.ensures c.args.schema.now c.in-Some.is)

pub returns-in-Some-clause-inserts : goal.returns-in-Some-clause-inserts
returns-in-Some-clause-inserts c = λ table values signed.
    IfOk-weaker c.split_by.result
    (λ (v : Vec PartitionBlock Global). IsSplit c.args.schema.now c.args.block v.items)
    (λ (v : Vec PartitionBlock Global). All (λ (b : PartitionBlock). IsInsertInto c.args.schema.now (insert_of table b)) v.items)
    (λ v is. are_inserts c.args.schema.now table c.args.block v.items c.requires.types c.len-rows.ensures.typed values signed is)
    (c.split_by.ensures c.args.schema.now c.in-Some.is)
