-- What is asked of the pairs of all tables, and of one.
use Rattle.std.specs.Prelude.{ℕ, ◌<◌, List}
use Rattle.mt_base.specs.declared.partition.Partition.{Partition}
use Rattle.mt_values.specs.declared.mutation.Mutation.{Mutation}
use Rattle.mutation_queue.specs.Queue.{mutations_of}
use Rattle.mutation_queue.specs.part_set.declared.kept.Kept.{Kept}
use Rattle.mutation_queue.specs.part_set.Parts.{kept_in, partition_rank}
use Rattle.merge_select.specs.declared.pairs.Wish.{Wish}
use Rattle.merge_select.specs.declared.picking.Choosing.{Choosing}
use Rattle.merge_select.specs.Picks.{Choice, Chooses, MayTake}

-- what is chosen from, by how many rows each part has
abbrev pub choice_of : {P : Type 0} → (P → ℕ) → Choosing P → Choice P
choice_of count choosing = record { set = choosing.set.now; queue = choosing.queue.now; count = count; policy = choosing.policy }

-- the mutations of the table
abbrev pub wished_of : Wish → List Mutation
wished_of wish = mutations_of wish.queue.now wish.table.now

-- the pair at the place may be taken
abbrev pub TakesAt : {P : Type 0} → (P → ℕ) → Wish → List (Kept P) → ℕ → Type 0
TakesAt count wish parts place = MayTake count (wished_of wish) wish.policy parts place

-- it is the one that is taken
abbrev pub ChoosesAt : {P : Type 0} → (P → ℕ) → Wish → List (Kept P) → ℕ → Type 0
ChoosesAt count wish parts place = Chooses count (wished_of wish) wish.policy parts place

-- the pair that is taken in the partition, where no partition of the table before it has any
pub record IsFirstOfTable {P : Type 0} (count : P → ℕ) (wish : Wish) (parts : List (Kept P)) (partition : Partition) (place : ℕ) : Type 0 where
  pub chooses : ChoosesAt count wish (kept_in partition parts) place
  pub first : (p : Partition) → partition_rank p < partition_rank partition → (k : ℕ) → TakesAt count wish (kept_in p parts) k → ⊥
