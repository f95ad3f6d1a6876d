use Rattle.std.proofs.Common.{rules, ◌∙◌, ap, sym, subst}
use Rattle.std.proofs.lemmas.Map.Made.{map_same_pairs}
use Rattle.part_set.specs.Shelf.{AreFiled, freed_shelf, freed_shelves}
use Rattle.part_set.proofs.Freeing.{freed_filed}
use Rattle.part_set.proofs.tables.TableParts.clear_all.Goals as goal

-- each shelf is freed
pub invariant_of-self : goal.invariant_of-self
invariant_of-self g c =
    let es = c.self.inside.partitions.entries in
    let now = map_same_pairs _ freed_shelf _ (λ k v b w f t. search rules) es c.retain.new.self.entries c.retain.ensures.filtered in
    subst AreFiled (sym now) (freed_filed es c.self.invariant)

pub returns : goal.returns
returns g c =
    let es = c.self.inside.partitions.entries in
    map_same_pairs _ freed_shelf _ (λ k v b w f t. search rules) es c.retain.new.self.entries c.retain.ensures.filtered ∙ ap freed_shelves c.self.view_is
