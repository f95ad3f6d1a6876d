-- no name gone over overlaps
use Rattle.std.specs.List.{AllWithin}
use Rattle.part_set.specs.Visible.{Overlapping}
use Rattle.part_set.proofs.overlaps.overlapping.Given as goal

abbrev pub invariant-loop-place : goal.invariant-loop-place
invariant-loop-place l = AllWithin (λ other. Overlapping l.names l.name other → ⊥) l.names 0 l.place
