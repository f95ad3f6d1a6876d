use Rattle.std.proofs.Common.{◌≡◌, ◌∷◌, [], All, Vec, Global, length, map, ap, ◌∙◌, arith}
use Rattle.std.proofs.lemmas.Result.{IfOk-weaker}
use Rattle.mt_base.specs.declared.partition.Partition.TheVariants.{Number}
use Rattle.block_split.specs.declared.blocks.PartitionBlock.{PartitionBlock}
use Rattle.block_split.specs.Groups.{group_rows}
use Rattle.block_split.specs.Split.{IsSplit, partition_rows}
use Rattle.block_split.proofs.Inserting.{if_ok_both, one_group}
use Rattle.block_split.proofs.split.split_by.Goals as goal

pub returns-then-len-eq1 : goal.returns-then-len-eq1
returns-then-len-eq1 c = λ schema is.
    let gs = c.in_ok-groups.groups.items in
    let group = c.index.result.now in
    let one : length gs ≡ 1 = omega (arith, c.len.ensures, c.if-len-eq1.true, c.in_ok-groups.groups.ok.0) in
    IfOk-weaker c.only_block.result
    (λ (v : Vec PartitionBlock Global). v.items ≡ record { partition = Number group.number; block = c.args.block } ∷ [])
    (λ (v : Vec PartitionBlock Global). IsSplit schema c.args.block v.items)
    (λ v made. one_group schema c.args.block gs group v.items (c.in_ok-groups.ensures.rows schema is) one c.index.ensures made)
    c.only_block.ensures

pub returns : goal.returns
returns c = λ schema is.
    let block = c.args.block in
    let all = ap (map (group_rows block.rows)) c.deref.ensures.value ∙ c.in_ok-groups.ensures.rows schema is in
    if_ok_both c.grouped_blocks.result
    (λ (v : Vec PartitionBlock Global). map partition_rows v.items ≡ map (group_rows block.rows) c.deref.result.now)
    (λ (v : Vec PartitionBlock Global). All (λ (b : PartitionBlock). b.block.types ≡ block.types) v.items)
    (λ (v : Vec PartitionBlock Global). IsSplit schema block v.items)
    (λ v rows types. record { rows = rows ∙ all; types = types })
    c.grouped_blocks.ensures.rows
    c.grouped_blocks.ensures.types
