use Rattle.mt_outside.proofs.Changes.{names_after_last}
use Rattle.disk_mem.proofs.Names.{same_name}
use Rattle.disk_mem.proofs.root.Root.cut.Goals as goal

pub returns-clause-changes : goal.returns-clause-changes
returns-clause-changes c = rw (same_name c.args.name.now c.in-Some.name c.in-Some.ensures.same_key) c.push_reserved.ensures.items

pub invariant_of-self-clause-replayed : goal.invariant_of-self-clause-replayed
invariant_of-self-clause-replayed c =
    let same = same_name c.args.name.now c.in-Some.name c.in-Some.ensures.same_key in
    rw (c.push_reserved.ensures.items, names_after_last, ← same, ← c.args.self.now.replayed) c.in-Some.ensures.entries
