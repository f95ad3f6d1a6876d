-- none of the parts gone over has the name
use Rattle.std.proofs.Common.{◌≡◌, drop}
use Rattle.std.specs.List.{AllWithin}
use Rattle.part_set.proofs.shelf.has_name.Given as goal

abbrev pub invariant-loop-kept : goal.invariant-loop-kept
invariant-loop-kept g l = AllWithin (λ kept. kept.name ≡ l.name → ⊥) (drop l.start l.parts) 0 l.kept-index
