-- The names of parts (docs/formats.md, "Names of parts").
use Rattle.std.specs.Prelude.{◌≡◌, ℕ, ◌<◌, ◌≤◌, List, ◌∷◌, ◌++◌, Option, Some, None, codes, unwrap_or}
use Rattle.std.specs.Fmt.{decimal}
use Rattle.mt_base.specs.declared.partition.Partition.{Partition}
use Rattle.mt_base.specs.declared.partition.Partition.TheVariants.{Whole, Number}
use Rattle.part_name.specs.declared.part.PartName.{PartName}

-- two texts with an underscore between
abbrev pub joined : List ℕ → List ℕ → List ℕ
joined front rest = front ++ 95 ∷ rest

-- a partition as it is spelled
abbrev pub partition_text : Partition → List ℕ
partition_text Whole = codes "all"
partition_text (Number n) = decimal n

-- the level, and the mutation after it where there is one
abbrev pub last_text : ℕ → Option ℕ → List ℕ
last_text level None = decimal level
last_text level (Some mutation) = joined (decimal level) (decimal mutation)

-- a name as it is spelled, each number without leading zeros
abbrev pub part_text : PartName → List ℕ
part_text p = joined (partition_text p.partition) (joined (decimal p.min_block) (joined (decimal p.max_block) (last_text p.level p.mutation)))

-- a partition's number is one of 64 bits
abbrev pub IsPartition : Partition → Type 0
IsPartition Whole = Unit {0}
IsPartition (Number n) = n ≤ 18446744073709551615

-- the number of a block or of a mutation
abbrev pub IsBlock : ℕ → Type 0
IsBlock n = (1 ≤ n) × (n ≤ 4294967295)

-- the number of a mutation, where there is one
abbrev pub IsMutation : Option ℕ → Type 0
IsMutation None = Unit {0}
IsMutation (Some n) = IsBlock n

-- the ranges of a name's numbers
pub record IsPartName (p : PartName) : Type 0 where
  pub partition : IsPartition p.partition
  pub min_block : IsBlock p.min_block
  pub max_block : IsBlock p.max_block
  pub order : p.min_block ≤ p.max_block
  pub level : p.level ≤ 4294967295
  pub mutation : IsMutation p.mutation

-- the last mutation that was applied, 0 for none
abbrev pub mutation_number : PartName → ℕ
mutation_number p = unwrap_or p.mutation 0

-- the first part has all blocks of the second in one partition, and as much was done to them at least
pub record Contains (a b : PartName) : Type 0 where
  pub partition : a.partition ≡ b.partition
  pub min_block : a.min_block ≤ b.min_block
  pub max_block : b.max_block ≤ a.max_block
  pub level : b.level ≤ a.level
  pub mutation : mutation_number b ≤ mutation_number a

-- in one partition, each block of the first part stands below each of the second
pub record Before (a b : PartName) : Type 0 where
  pub partition : a.partition ≡ b.partition
  pub blocks : a.max_block < b.min_block

-- one partition, and a block in common
pub record Meet (a b : PartName) : Type 0 where
  pub partition : a.partition ≡ b.partition
  pub low : a.min_block ≤ b.max_block
  pub high : b.min_block ≤ a.max_block

-- the mutations above this number are still to be applied
abbrev pub data_version : PartName → ℕ
data_version p = unwrap_or p.mutation p.min_block
