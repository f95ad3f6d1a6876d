-- Where parts are looked for, and in which order (docs/engines.md, "Which parts are merged").
use Rattle.std.specs.Prelude.{◌≡◌, ◌⊎◌, ℕ, ◌<◌, List}
use Rattle.std.specs.Cmp.Lexicographic.{slice_cmp}
use Rattle.std.specs.Ordering.{nat_cmp}
use Rattle.std.specs.declared.cmp.Ordering.TheVariants.{Less}
use Rattle.mt_base.specs.declared.partition.Partition.{Partition}
use Rattle.part_set.specs.Parts.{partition_rank}
use Rattle.mutation_queue.specs.declared.scope.Scope.{Scope}
use Rattle.mutation_queue.specs.declared.scope.Scope.TheVariants as scopes

-- the partition of a table lies in the scope
abbrev pub InScope : Scope → List ℕ → Partition → Type 0
InScope scopes.All t p = Unit {0}
InScope (scopes.Table table) t p = t ≡ table.now
InScope (scopes.Partition table partition) t p = (t ≡ table.now) × (p ≡ partition)

-- tables come by their names in byte order, and the partitions of a table ascending
abbrev pub ComesBefore : List ℕ → Partition → List ℕ → Partition → Type 0
ComesBefore t p table partition = (slice_cmp nat_cmp t table ≡ Less) ⊎ ((t ≡ table) × (partition_rank p < partition_rank partition))
