use Rattle.std.proofs.Common.{◌≡◌, ◌∷◌, [], true, Vec, Global}
use Rattle.std.proofs.lemmas.Result.{IfOk-weaker}
use Rattle.mt_base.specs.declared.partition.Partition.TheVariants.{Whole}
use Rattle.block_split.specs.declared.blocks.PartitionBlock.{PartitionBlock}
use Rattle.block_split.specs.Split.{IsSplit}
use Rattle.block_split.proofs.Inserting.{whole_block}
use Rattle.block_split.proofs.split.split_whole.Goals as goal

some : (c : goal.After-only_block) → c.args.block.rows ≡ [] → ⊥
some c e =
    let empty : c.is_empty.result ≡ true = c.is_empty.ensures.1 e in
    let is = c.if-is_empty.false in
    cc

pub returns : goal.returns
returns c = λ schema none.
    IfOk-weaker c.only_block.result
    (λ (v : Vec PartitionBlock Global). v.items ≡ record { partition = Whole; block = c.args.block } ∷ [])
    (λ (v : Vec PartitionBlock Global). IsSplit schema c.args.block v.items)
    (λ v made. whole_block schema c.args.block v.items none (some c) made)
    c.only_block.ensures
