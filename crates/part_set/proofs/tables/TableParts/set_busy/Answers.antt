use Rattle.std.proofs.Common.{List, length, ap, arith, subst, sym}
use Rattle.part_set.specs.declared.kept.Kept.{Kept}
use Rattle.part_set.specs.Runs.{IsRun}
use Rattle.part_set.specs.Shelf.{all_parts}
use Rattle.part_set.proofs.Filed.{found_filed, found_parts, no_parts}
use Rattle.part_set.proofs.Shelving.{filed_ordered, now_filed, now_written}
use Rattle.part_set.proofs.Swaps.{marked_filed, written_marked}
use Rattle.part_set.proofs.tables.TableParts.set_busy.Goals as goal

pub unreachable-requires : goal.unreachable-requires
unreachable-requires g c =
    let none = no_parts c.args.partition c.partition_rank-place.result c.self.inside.partitions.entries c.args.self.now c.self.invariant c.self.view_is c.partition_rank-place.ensures c.in_default.ensures.value in
    omega (arith, ap length none, c.requires.some, c.requires.within)

pub set_busy-requires : goal.set_busy-requires
set_busy-requires g c =
    let found = found_parts c.args.partition c.partition_rank-place.result c.self.inside.partitions.entries c.args.self.now c.self.invariant c.self.view_is c.partition_rank-place.ensures c.in-Some.parts.now c.in-Some.ensures.value in
    subst (λ (xs : List (Kept g.row.P.Denot)). IsRun c.args.run xs) (sym found) c.requires

pub invariant_of-self : goal.invariant_of-self
invariant_of-self g c =
    let n = c.partition_rank-place.result in
    let es = c.self.inside.partitions.entries in
    let written = c.get_mut.follows.holds c.set_busy.new.self in
    now_filed c.args.partition n es c.args.self.now c.self.invariant c.self.view_is c.partition_rank-place.ensures c.in-Some.parts.now c.in-Some.ensures.value c.set_busy.new.self (c.get_mut.follows.lender c.set_busy.new.self).entries written.0 written.4
    (marked_filed n c.args.run c.args.busy c.in-Some.parts.now c.set_busy.new.self (found_filed n c.in-Some.parts.now es (sym c.in-Some.ensures.value) c.self.invariant.filed) c.set_busy.ensures.parts c.set_busy.ensures.ordered)

pub returns-clause-marked : goal.returns-clause-marked
returns-clause-marked g c =
    let n = c.partition_rank-place.result in
    let es = c.self.inside.partitions.entries in
    let fs = (c.get_mut.follows.lender c.set_busy.new.self).entries in
    let written = c.get_mut.follows.holds c.set_busy.new.self in
    let found = found_parts c.args.partition n es c.args.self.now c.self.invariant c.self.view_is c.partition_rank-place.ensures c.in-Some.parts.now c.in-Some.ensures.value in
    written_marked c.args.partition c.args.run c.in-Some.parts.now c.set_busy.new.self (all_parts c.args.self.now) (all_parts fs)
    (now_written c.args.partition n es c.args.self.now c.self.invariant c.self.view_is c.partition_rank-place.ensures c.in-Some.parts.now c.in-Some.ensures.value c.set_busy.new.self fs written.0) found
    c.args.busy c.set_busy.ensures.parts

pub returns-clause-ordered : goal.returns-clause-ordered
returns-clause-ordered g c =
    let n = c.partition_rank-place.result in
    let es = c.self.inside.partitions.entries in
    let written = c.get_mut.follows.holds c.set_busy.new.self in
    filed_ordered (c.get_mut.follows.lender c.set_busy.new.self).entries
    (now_filed c.args.partition n es c.args.self.now c.self.invariant c.self.view_is c.partition_rank-place.ensures c.in-Some.parts.now c.in-Some.ensures.value c.set_busy.new.self (c.get_mut.follows.lender c.set_busy.new.self).entries written.0 written.4
    (marked_filed n c.args.run c.args.busy c.in-Some.parts.now c.set_busy.new.self (found_filed n c.in-Some.parts.now es (sym c.in-Some.ensures.value) c.self.invariant.filed) c.set_busy.ensures.parts c.set_busy.ensures.ordered))
