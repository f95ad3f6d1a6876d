-- Partitions, each of which stands once.
use Rattle.std.specs.Prelude.{Bool, List, [], ◌∷◌, ◌++◌, if◌then◌else◌}
use Rattle.std.specs.List.{list_any}
use Rattle.mt_base.specs.declared.partition.Partition.{Partition}
use Rattle.mt_values.specs.Tables.{same_partition}

-- whether a partition is one of these
abbrev pub among : Partition → List Partition → Bool
among p ps = list_any (λ (q : Partition). same_partition q p) ps

-- these partitions with one more at their end, unless it is one of them
abbrev pub once_more : Partition → List Partition → List Partition
once_more p ps = if among p ps then ps else ps ++ p ∷ []
