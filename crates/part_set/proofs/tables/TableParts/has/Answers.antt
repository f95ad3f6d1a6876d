use Rattle.part_set.specs.Shelf.{all_parts}
use Rattle.part_set.proofs.Shelving.{name_mine, name_within}
use Rattle.part_set.proofs.tables.TableParts.has.Goals as goal

pub returns : goal.returns
returns g c =
    let parts = all_parts c.args.self.now in
    let name = c.args.name.now in
    let told = rw c.parts_in.ensures.parts at c.has_name.ensures in
    (λ yes. name_within name.partition parts name (told.0 yes), λ has. told.1 (name_mine parts name has))
