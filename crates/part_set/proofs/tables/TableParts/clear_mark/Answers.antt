use Rattle.std.proofs.Common.{ℕ, ◌∙◌, ◌∷◌, [], ap, sym}
use Rattle.std.specs.BTreeMap.{BTreeMap}
use Rattle.part_set.specs.Shelf.{Shelf, all_parts}
use Rattle.part_set.proofs.Clearing.{clear_foreign, cleared_filed, written_cleared}
use Rattle.part_set.proofs.Filed.{found_filed, found_parts, no_parts}
use Rattle.part_set.proofs.Shelving.{now_filed, now_written}
use Rattle.part_set.proofs.tables.TableParts.clear_mark.Goals as goal

-- no part is of the name's partition
pub returns-in_default-clause-cleared : goal.returns-in_default-clause-cleared
returns-in_default-clause-cleared g c =
    let none = no_parts c.args.name.now.partition c.partition_rank-place.result c.self.inside.partitions.entries c.args.self.now c.self.invariant c.self.view_is c.partition_rank-place.ensures c.in_default.ensures.value in
    let same = ap (λ (m : BTreeMap ℕ (Shelf g.row.P.Denot)). all_parts m.entries) c.get_mut.follows.holds-at-none ∙ ap all_parts c.self.view_is in
    same ∙ sym (clear_foreign c.args.name.now (all_parts c.args.self.now) (sym none))

pub invariant_of-self-2 : goal.invariant_of-self-2
invariant_of-self-2 g c =
    let n = c.partition_rank-place.result in
    let es = c.self.inside.partitions.entries in
    let written = c.get_mut.follows.holds c.clear_mark.new.self in
    now_filed c.args.name.now.partition n es c.args.self.now c.self.invariant c.self.view_is c.partition_rank-place.ensures c.in-Some.parts.now c.in-Some.ensures.value c.clear_mark.new.self (c.get_mut.follows.lender c.clear_mark.new.self).entries written.0 written.4
    (cleared_filed n (c.args.name.now ∷ []) c.in-Some.parts.now c.clear_mark.new.self (found_filed n c.in-Some.parts.now es (sym c.in-Some.ensures.value) c.self.invariant.filed) c.clear_mark.ensures.parts)

pub returns-clause-cleared : goal.returns-clause-cleared
returns-clause-cleared g c =
    let n = c.partition_rank-place.result in
    let es = c.self.inside.partitions.entries in
    let fs = (c.get_mut.follows.lender c.clear_mark.new.self).entries in
    let written = c.get_mut.follows.holds c.clear_mark.new.self in
    let found = found_parts c.args.name.now.partition n es c.args.self.now c.self.invariant c.self.view_is c.partition_rank-place.ensures c.in-Some.parts.now c.in-Some.ensures.value in
    written_cleared c.args.name.now c.in-Some.parts.now c.clear_mark.new.self (all_parts c.args.self.now) (all_parts fs)
    (now_written c.args.name.now.partition n es c.args.self.now c.self.invariant c.self.view_is c.partition_rank-place.ensures c.in-Some.parts.now c.in-Some.ensures.value c.clear_mark.new.self fs written.0) found c.clear_mark.ensures.parts
