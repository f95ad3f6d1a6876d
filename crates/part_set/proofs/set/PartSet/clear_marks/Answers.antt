use Rattle.std.proofs.Common.{rules}
use Rattle.part_set.proofs.Maps.{all_room, other_parts, room_same}
use Rattle.part_set.proofs.set.PartSet.clear_marks.Goals as goal

pub returns-clause-others : goal.returns-clause-others
returns-clause-others g c =
    let updates = (c.get_mut.follows.holds c.clear_marks.new.self).3 (search rules) in
    other_parts c.args.self.now.tables (c.get_mut.follows.lender c.clear_marks.new.self) c.args.table.now _ updates

pub returns-clause-rooms : goal.returns-clause-rooms
returns-clause-rooms g c =
    let updates = (c.get_mut.follows.holds c.clear_marks.new.self).3 (search rules) in
    λ t p. all_room c.args.self.now.tables (c.get_mut.follows.lender c.clear_marks.new.self) c.args.table.now _ updates p (λ room. c.clear_marks.ensures.rooms p (room_same p _ _ c.in-Some.ensures.value room)) t
