-- The blocks of a part.
use Rattle.std.proofs.Common.{◌≡◌, ℕ, ◌≤◌, Bool, true, false, ◌&&◌, refl, nat_le}
use Rattle.std.proofs.lemmas.Bool.{leb-true}
use Rattle.mt_base.specs.declared.partition.Partition.{Partition}
use Rattle.table_core.specs.part_set.part_name.declared.part.PartName.{PartName}
use Rattle.table_core.specs.part_history.declared.part.CorePart.{CorePart}
use Rattle.mt_values.specs.Tables.{same_partition}
use Rattle.table_core.specs.mt_model.Numbers.{lies_within}
use Rattle.table_core.proofs.MtModelCommands.{partition_is}
use Rattle.table_core.specs.part_history.Parts.{has_block}

both : (a b : Bool) → a && b ≡ true → (a ≡ true) × (b ≡ true)
both true b is = (refl, is)
both false b is = cc

pub record HasBlock (partition : Partition) (n : ℕ) (name : PartName) : Type 0 where
  pub same : name.partition ≡ partition
  pub low : name.min_block ≤ n
  pub high : n ≤ name.max_block

pub blocks : (partition : Partition) (n : ℕ) (part : CorePart) → has_block partition n part ≡ true → HasBlock partition n part.name
blocks partition n part passes =
    let parts = both (same_partition part.name.partition partition) (lies_within part.name.min_block part.name.max_block n) passes in
    let bounds = both (nat_le part.name.min_block n) (nat_le n part.name.max_block) parts.1 in
    record { same = partition_is part.name.partition partition parts.0; low = leb-true part.name.min_block n bounds.0; high = leb-true n part.name.max_block bounds.1 }
