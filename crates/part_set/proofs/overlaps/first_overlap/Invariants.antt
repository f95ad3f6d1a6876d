-- with no name gone over another one overlaps
use Rattle.std.specs.List.{AllWithin}
use Rattle.part_set.proofs.Pairs.{IsFirstOf}
use Rattle.part_set.proofs.overlaps.first_overlap.Given as goal

abbrev pub invariant-loop-place : goal.invariant-loop-place
invariant-loop-place l = AllWithin (λ name. IsFirstOf l.names name → ⊥) l.names 0 l.place
