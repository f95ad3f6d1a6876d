use Rattle.std.proofs.Common.{false, List, length, ap, arith, subst, sym}
use Rattle.std.proofs.lemmas.List.Elements.{All-filter}
use Rattle.std.specs.List.{All}
use Rattle.mt_values.specs.Tables.{same_partition}
use Rattle.part_set.specs.declared.kept.Kept.{Kept}
use Rattle.part_set.specs.Runs.{EndsInOrder, IsRun, Spans, parts_of_run}
use Rattle.part_set.specs.Shelf.{all_parts}
use Rattle.part_set.proofs.Filed.{found_filed, found_parts, no_parts}
use Rattle.part_set.proofs.Shelving.{filed_ordered, now_filed, now_written}
use Rattle.part_set.proofs.Swaps.{swapped_filed, written_swapped}
use Rattle.part_set.proofs.tables.TableParts.swap.Goals as goal

pub unreachable-requires : goal.unreachable-requires
unreachable-requires g c =
    let none = no_parts c.args.partition c.partition_rank-place.result c.self.inside.partitions.entries c.args.self.now c.self.invariant c.self.view_is c.partition_rank-place.ensures c.in_default.ensures.value in
    omega (arith, ap length none, c.requires.run.some, c.requires.run.within)

pub swap-requires : goal.swap-requires
swap-requires g c =
    let found = found_parts c.args.partition c.partition_rank-place.result c.self.inside.partitions.entries c.args.self.now c.self.invariant c.self.view_is c.partition_rank-place.ensures c.in-Some.parts.now c.in-Some.ensures.value in
    record {
      run = subst (λ (xs : List (Kept g.row.P.Denot)). IsRun c.args.run xs) (sym found) c.requires.run;
      spans = subst (λ (xs : List (Kept g.row.P.Denot)). Spans c.args.name (parts_of_run c.args.run xs)) (sym found) c.requires.spans;
      named = subst (All EndsInOrder) (sym found) (All-filter (λ (x : Kept g.row.P.Denot). same_partition x.name.partition c.args.partition) EndsInOrder (all_parts c.args.self.now) c.requires.named);
    }

pub invariant_of-self : goal.invariant_of-self
invariant_of-self g c =
    let n = c.partition_rank-place.result in
    let es = c.self.inside.partitions.entries in
    let written = c.get_mut.follows.holds c.swap.new.self in
    let found = found_parts c.args.partition n es c.args.self.now c.self.invariant c.self.view_is c.partition_rank-place.ensures c.in-Some.parts.now c.in-Some.ensures.value in
    let spans = subst (λ (xs : List (Kept g.row.P.Denot)). Spans c.args.name (parts_of_run c.args.run xs)) (sym found) c.requires.spans in
    now_filed c.args.partition n es c.args.self.now c.self.invariant c.self.view_is c.partition_rank-place.ensures c.in-Some.parts.now c.in-Some.ensures.value c.swap.new.self (c.get_mut.follows.lender c.swap.new.self).entries written.0 written.4
    (swapped_filed n c.args.run c.in-Some.parts.now c.swap.new.self (record { name = c.args.name; part = c.args.part; busy = false }) (found_filed n c.in-Some.parts.now es (sym c.in-Some.ensures.value) c.self.invariant.filed) spans c.swap.ensures.parts c.swap.ensures.ordered)

pub returns-clause-swapped : goal.returns-clause-swapped
returns-clause-swapped g c =
    let n = c.partition_rank-place.result in
    let es = c.self.inside.partitions.entries in
    let fs = (c.get_mut.follows.lender c.swap.new.self).entries in
    let written = c.get_mut.follows.holds c.swap.new.self in
    let found = found_parts c.args.partition n es c.args.self.now c.self.invariant c.self.view_is c.partition_rank-place.ensures c.in-Some.parts.now c.in-Some.ensures.value in
    written_swapped c.args.partition c.args.run c.in-Some.parts.now c.swap.new.self (all_parts c.args.self.now) (all_parts fs)
    (now_written c.args.partition n es c.args.self.now c.self.invariant c.self.view_is c.partition_rank-place.ensures c.in-Some.parts.now c.in-Some.ensures.value c.swap.new.self fs written.0) found
    (record { name = c.args.name; part = c.args.part; busy = false }) c.swap.ensures.parts

pub returns-clause-ordered : goal.returns-clause-ordered
returns-clause-ordered g c =
    let n = c.partition_rank-place.result in
    let es = c.self.inside.partitions.entries in
    let written = c.get_mut.follows.holds c.swap.new.self in
    let found = found_parts c.args.partition n es c.args.self.now c.self.invariant c.self.view_is c.partition_rank-place.ensures c.in-Some.parts.now c.in-Some.ensures.value in
    let spans = subst (λ (xs : List (Kept g.row.P.Denot)). Spans c.args.name (parts_of_run c.args.run xs)) (sym found) c.requires.spans in
    filed_ordered (c.get_mut.follows.lender c.swap.new.self).entries
    (now_filed c.args.partition n es c.args.self.now c.self.invariant c.self.view_is c.partition_rank-place.ensures c.in-Some.parts.now c.in-Some.ensures.value c.swap.new.self (c.get_mut.follows.lender c.swap.new.self).entries written.0 written.4
    (swapped_filed n c.args.run c.in-Some.parts.now c.swap.new.self (record { name = c.args.name; part = c.args.part; busy = false }) (found_filed n c.in-Some.parts.now es (sym c.in-Some.ensures.value) c.self.invariant.filed) spans c.swap.ensures.parts c.swap.ensures.ordered))
