-- the copies so far, and then the parts of the shelves that are left
use Rattle.std.proofs.Common.{◌≡◌, ◌++◌, flat_map}
use Rattle.part_set.specs.Shelf.{Shelf, all_parts}
use Rattle.part_set.proofs.tables.TableParts.twins.Given as goal

abbrev pub invariant-loop-parts : goal.invariant-loop-parts
invariant-loop-parts g l = l.copies.items ++ flat_map (λ (s : Shelf g.row.P.Denot). s.parts) l.parts-iterator ≡ all_parts l.self
