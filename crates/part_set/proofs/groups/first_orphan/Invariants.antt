-- no name gone over is an orphan
use Rattle.std.proofs.Common.{◌≡◌, false}
use Rattle.std.specs.List.{AllWithin}
use Rattle.part_set.specs.Groups.{has_table, orphan_by}
use Rattle.part_set.proofs.groups.first_orphan.Given as goal

abbrev pub invariant-loop-place : goal.invariant-loop-place
invariant-loop-place l = AllWithin (λ name. orphan_by (has_table l.names) name ≡ false) l.names 0 l.place
