use Rattle.std.proofs.Common.{◌∙◌, ◌++◌, ℕ, List, ap, flat_map, subst, sym, rules}
use Rattle.std.proofs.lemmas.List.Folds.{flat_map-map}
use Rattle.part_set.specs.declared.kept.Kept.{Kept}
use Rattle.part_set.specs.Parts.{IsInBlockOrder}
use Rattle.part_set.specs.Shelf.{Shelf, all_parts}
use Rattle.part_set.proofs.Shelving.{filed_ordered}
use Rattle.part_set.proofs.tables.TableParts.twins.Goals as goal

pub loop-parts-init : goal.loop-parts-init
loop-parts-init g c =
    ap (λ (l : List (Kept g.row.P.Denot)). l ++ flat_map (λ (s : Shelf g.row.P.Denot). s.parts) c.into_iter-parts-iterator.result) c.new-copies.ensures.items
    ∙ (ap (λ (shelves : List (Shelf g.row.P.Denot)). flat_map (λ s. s.parts) shelves) (c.into_iter-parts-iterator.ensures.into_iter_gives ∙ c.values-parts-items.ensures.rest)
    ∙ (flat_map-map (λ (s : Shelf g.row.P.Denot). s.parts) (λ (e : ℕ × Shelf g.row.P.Denot). e.1) c.self.inside.partitions.entries ∙ ap all_parts c.self.view_is))

-- the copies are all parts
pub returns-clause-parts : goal.returns-clause-parts
returns-clause-parts g c = search rules

pub returns-clause-ordered : goal.returns-clause-ordered
returns-clause-ordered g c =
    subst (λ (parts : List (Kept g.row.P.Denot)). IsInBlockOrder parts) (sym (returns-clause-parts g c ∙ sym (ap all_parts c.self.view_is))) (filed_ordered c.self.inside.partitions.entries c.self.invariant)
