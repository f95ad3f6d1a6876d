use Rattle.std.proofs.Common.{rules}
use Rattle.part_set.proofs.Maps.{all_room, here_ordered, other_parts, room_same}
use Rattle.part_set.proofs.set.PartSet.swap.Goals as goal

pub returns-clause-others : goal.returns-clause-others
returns-clause-others g c =
    let updates = (c.get_mut.follows.holds c.swap.new.self).3 (search rules) in
    other_parts c.args.self.now.tables (c.get_mut.follows.lender c.swap.new.self) c.args.table.now _ updates

pub returns-clause-ordered : goal.returns-clause-ordered
returns-clause-ordered g c =
    let updates = (c.get_mut.follows.holds c.swap.new.self).3 (search rules) in
    here_ordered c.args.self.now.tables (c.get_mut.follows.lender c.swap.new.self) c.args.table.now _ updates c.swap.ensures.ordered

pub returns-clause-rooms : goal.returns-clause-rooms
returns-clause-rooms g c =
    let updates = (c.get_mut.follows.holds c.swap.new.self).3 (search rules) in
    λ t p. all_room c.args.self.now.tables (c.get_mut.follows.lender c.swap.new.self) c.args.table.now _ updates p (λ room. c.swap.ensures.rooms p (room_same p _ _ c.in-Some.ensures.value room)) t
