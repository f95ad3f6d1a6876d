use Rattle.std.proofs.Common.{false, ◌≡◌, ℕ, refl, subst}
use Rattle.std.proofs.lemmas.Result.{on_err_weaker, on_ok_weaker}
use Rattle.std.specs.BTreeMap.{BTreeMap, insert_entry}
use Rattle.std.specs.Ordering.{nat_cmp}
use Rattle.part_set.specs.Shelf.{Shelf}
use Rattle.part_set.proofs.Shelving.{added_then, filed_ordered, first_added, first_filed, grown_then, none_there, same_parts}
use Rattle.part_set.proofs.tables.TableParts.add.Goals as goal

pub add-requires : goal.add-requires
add-requires g c =
    none_there c.args.name.partition c.partition_rank-place.result c.self.inside.partitions.entries c.args.self.now c.self.invariant c.self.view_is c.partition_rank-place.ensures c.in-Some.parts.now c.in-Some.ensures.value c.args.name c.requires

pub invariant_of-self : goal.invariant_of-self
invariant_of-self g c =
    let n = c.partition_rank-place.result in
    let es = c.self.inside.partitions.entries in
    let written = c.get_mut.follows.holds c.add.new.self in
    grown_then c.args.name.partition n es c.args.self.now c.self.invariant c.self.view_is c.partition_rank-place.ensures c.in-Some.parts.now c.in-Some.ensures.value c.add.new.self (c.get_mut.follows.lender c.add.new.self).entries written.0
    (record { name = c.args.name; part = c.args.part; busy = false }) refl c.add.result c.add.ensures.ok written.4 c.add.ensures.ordered c.add.ensures.err

pub returns-in-Some-clause-ok : goal.returns-in-Some-clause-ok
returns-in-Some-clause-ok g c =
    let n = c.partition_rank-place.result in
    let es = c.self.inside.partitions.entries in
    let written = c.get_mut.follows.holds c.add.new.self in
    added_then c.args.name.partition n es c.args.self.now c.self.invariant c.self.view_is c.partition_rank-place.ensures c.in-Some.parts.now c.in-Some.ensures.value c.add.new.self (c.get_mut.follows.lender c.add.new.self).entries written.0
    (record { name = c.args.name; part = c.args.part; busy = false }) refl c.add.result c.add.ensures.ok

pub returns-in-Some-clause-ordered : goal.returns-in-Some-clause-ordered
returns-in-Some-clause-ordered g c =
    let n = c.partition_rank-place.result in
    let es = c.self.inside.partitions.entries in
    let written = c.get_mut.follows.holds c.add.new.self in
    let filed = grown_then c.args.name.partition n es c.args.self.now c.self.invariant c.self.view_is c.partition_rank-place.ensures c.in-Some.parts.now c.in-Some.ensures.value c.add.new.self (c.get_mut.follows.lender c.add.new.self).entries written.0
    (record { name = c.args.name; part = c.args.part; busy = false }) refl c.add.result c.add.ensures.ok written.4 c.add.ensures.ordered c.add.ensures.err in
    on_ok_weaker c.add.result (λ added. filed_ordered (c.get_mut.follows.lender c.add.new.self).entries filed) c.add.ensures.ok

pub returns-in-Some-clause-err : goal.returns-in-Some-clause-err
returns-in-Some-clause-err g c =
    let n = c.partition_rank-place.result in
    let es = c.self.inside.partitions.entries in
    let written = c.get_mut.follows.holds c.add.new.self in
    on_err_weaker c.add.result
    (λ same. same_parts c.args.name.partition n es c.args.self.now c.self.invariant c.self.view_is c.partition_rank-place.ensures c.in-Some.parts.now c.in-Some.ensures.value c.add.new.self (c.get_mut.follows.lender c.add.new.self).entries written.0 same)
    c.add.ensures.err

pub invariant_of-self-2 : goal.invariant_of-self-2
invariant_of-self-2 g c =
    let n = c.partition_rank-place.result in
    let es = c.self.inside.partitions.entries in
    let put = subst (λ (m : BTreeMap ℕ (Shelf g.row.P.Denot)). c.insert.new.self.entries ≡ insert_entry nat_cmp m.entries n c.add-2.new.self) c.get_mut.follows.holds-at-none c.in_ok-insert.ensures.entries in
    first_filed n es c.insert.new.self.entries c.args.self.now c.self.invariant c.self.view_is c.in_default.ensures.value c.add-2.new.self put c.new-parts.result c.new-parts.ensures
    (record { name = c.args.name; part = c.args.part; busy = false }) c.in_ok-add.ensures.ok c.in_ok-insert.ensures.ordered c.partition_rank-place.ensures c.in_ok-add.ensures.ordered

pub returns-clause-ok : goal.returns-clause-ok
returns-clause-ok g c =
    let n = c.partition_rank-place.result in
    let es = c.self.inside.partitions.entries in
    let put = subst (λ (m : BTreeMap ℕ (Shelf g.row.P.Denot)). c.insert.new.self.entries ≡ insert_entry nat_cmp m.entries n c.add-2.new.self) c.get_mut.follows.holds-at-none c.in_ok-insert.ensures.entries in
    first_added n es c.insert.new.self.entries c.args.self.now c.self.invariant c.self.view_is c.in_default.ensures.value c.add-2.new.self put c.new-parts.result c.new-parts.ensures
    (record { name = c.args.name; part = c.args.part; busy = false }) c.in_ok-add.ensures.ok

pub returns-clause-ordered : goal.returns-clause-ordered
returns-clause-ordered g c =
    let n = c.partition_rank-place.result in
    let es = c.self.inside.partitions.entries in
    let put = subst (λ (m : BTreeMap ℕ (Shelf g.row.P.Denot)). c.insert.new.self.entries ≡ insert_entry nat_cmp m.entries n c.add-2.new.self) c.get_mut.follows.holds-at-none c.in_ok-insert.ensures.entries in
    filed_ordered c.insert.new.self.entries
    (first_filed n es c.insert.new.self.entries c.args.self.now c.self.invariant c.self.view_is c.in_default.ensures.value c.add-2.new.self put c.new-parts.result c.new-parts.ensures
    (record { name = c.args.name; part = c.args.part; busy = false }) c.in_ok-add.ensures.ok c.in_ok-insert.ensures.ordered c.partition_rank-place.ensures c.in_ok-add.ensures.ordered)
