use Rattle.std.proofs.Common.{◌≡◌, ◌∙◌, ℕ, subst}
use Rattle.std.specs.BTreeMap.{BTreeMap, insert_entry}
use Rattle.std.specs.Ordering.{nat_cmp}
use Rattle.part_set.specs.Shelf.{Shelf}
use Rattle.part_set.proofs.Shelving.{empty_filed, empty_same, kept_filed, same_parts}
use Rattle.part_set.proofs.tables.TableParts.reserve.Goals as goal

pub invariant_of-self : goal.invariant_of-self
invariant_of-self g c =
    let n = c.partition_rank-place.result in
    let es = c.self.inside.partitions.entries in
    let written = c.get_mut.follows.holds c.reserve.new.self in
    kept_filed c.args.partition n es c.args.self.now c.self.invariant c.self.view_is c.partition_rank-place.ensures c.in-Some.parts.now c.in-Some.ensures.value c.reserve.new.self (c.get_mut.follows.lender c.reserve.new.self).entries written.0 written.4 c.reserve.ensures.parts

pub returns-in-Some-clause-parts : goal.returns-in-Some-clause-parts
returns-in-Some-clause-parts g c =
    let n = c.partition_rank-place.result in
    let es = c.self.inside.partitions.entries in
    let written = c.get_mut.follows.holds c.reserve.new.self in
    same_parts c.args.partition n es c.args.self.now c.self.invariant c.self.view_is c.partition_rank-place.ensures c.in-Some.parts.now c.in-Some.ensures.value c.reserve.new.self (c.get_mut.follows.lender c.reserve.new.self).entries written.0 c.reserve.ensures.parts

pub invariant_of-self-2 : goal.invariant_of-self-2
invariant_of-self-2 g c =
    let n = c.partition_rank-place.result in
    let es = c.self.inside.partitions.entries in
    let put = subst (λ (m : BTreeMap ℕ (Shelf g.row.P.Denot)). c.insert.new.self.entries ≡ insert_entry nat_cmp m.entries n c.reserve-2.new.self) c.get_mut.follows.holds-at-none c.in_ok-insert.ensures.entries in
    empty_filed n es c.insert.new.self.entries c.args.self.now c.self.invariant c.self.view_is c.in_default.ensures.value c.reserve-2.new.self put c.in_ok-insert.ensures.ordered (c.in_ok-reserve.ensures.parts ∙ c.new-parts.ensures)

pub returns-clause-parts : goal.returns-clause-parts
returns-clause-parts g c =
    let n = c.partition_rank-place.result in
    let es = c.self.inside.partitions.entries in
    let put = subst (λ (m : BTreeMap ℕ (Shelf g.row.P.Denot)). c.insert.new.self.entries ≡ insert_entry nat_cmp m.entries n c.reserve-2.new.self) c.get_mut.follows.holds-at-none c.in_ok-insert.ensures.entries in
    empty_same n es c.insert.new.self.entries c.args.self.now c.self.invariant c.self.view_is c.in_default.ensures.value c.reserve-2.new.self put (c.in_ok-reserve.ensures.parts ∙ c.new-parts.ensures)
