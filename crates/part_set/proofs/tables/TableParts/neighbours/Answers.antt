use Rattle.part_set.specs.Shelf.{all_parts}
use Rattle.part_set.proofs.Shelving.{near_all, near_mine}
use Rattle.part_set.proofs.tables.TableParts.neighbours.Goals as goal

pub returns : goal.returns
returns g c =
    let parts = all_parts c.args.self.now in
    let told = rw c.parts_in.ensures.parts at c.are_neighbours.ensures in
    (λ yes. near_all parts c.args.a.now c.args.b.now (told.0 yes), λ near. told.1 (near_mine parts c.args.a.now c.args.b.now near))
