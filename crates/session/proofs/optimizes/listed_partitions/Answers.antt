use Rattle.std.proofs.Common.{List, is_some, ap, sym, subst}
use Rattle.merge_workers.specs.shared_store.part_reader.declared.reading.Part.{Part}
use Rattle.merge_workers.specs.shared_store.part_set.declared.kept.Kept.{Kept}
use Rattle.merge_workers.specs.shared_store.part_set.Parts.{IsInBlockOrder}
use Rattle.merge_workers.specs.shared_store.Handed.{Pins}
use Rattle.session.specs.Merges.{ArePartitionsOf}
use Rattle.session.proofs.optimizes.listed_partitions.Goals as goal

-- there is no such table
pub returns-in_default-clause-there : goal.returns-in_default-clause-there
returns-in_default-clause-there g c =
    let pins = subst (Pins g.F.Dir.files g.B.Names.given g.B.Room.before g.B.Names.opening c.snapshot.new.seat.list c.args.table.now) c.in_default.is c.in_ok-snap.ensures.snap in
    (pins.0, ap is_some pins.1)

-- there is
pub partitions_of-found-requires-after_bounds : goal.partitions_of-found-requires-after_bounds
partitions_of-found-requires-after_bounds g c κs within =
    let pins = subst (Pins g.F.Dir.files g.B.Names.given g.B.Room.before g.B.Names.opening c.snapshot.new.seat.list c.args.table.now) c.in-Some.is c.in_ok-snap.ensures.snap in
    subst (λ (ps : List (Kept (Part _))). IsInBlockOrder ps) (sym c.as_slice.ensures.value) pins.1.ordered

pub returns-clause-there : goal.returns-clause-there
returns-clause-there g c =
    let pins = subst (Pins g.F.Dir.files g.B.Names.given g.B.Room.before g.B.Names.opening c.snapshot.new.seat.list c.args.table.now) c.in-Some.is c.in_ok-snap.ensures.snap in
    (pins.0, ap is_some pins.1.there)

pub returns-clause-are : goal.returns-clause-are
returns-clause-are g c =
    let now = c.snapshot.new.seat.list in
    let pins = subst (Pins g.F.Dir.files g.B.Names.given g.B.Room.before g.B.Names.opening now c.args.table.now) c.in-Some.is c.in_ok-snap.ensures.snap in
    record {
      list = now;
      snap = c.in-Some.snap;
      pinned = pins.1;
      are = subst (λ (ps : List (Kept (Part _))). ArePartitionsOf ps c.in_ok-found.field-0.items) c.as_slice.ensures.value c.in_ok-found.ensures;
    }
