use Rattle.std.proofs.Common.{◌≡◌, Some, refl, subst}
use Rattle.root_commits.specs.Turns.{storage}
use Rattle.root_commits.specs.root_store.Stores.{table_at}
use Rattle.shared_store.specs.Engines.{Opened}
use Rattle.shared_store.proofs.Marked.{added_done, added_goes, added_ready, added_refused}
use Rattle.shared_store.proofs.engine.Engine.insert.Goals as goal

pub commit_part-requires-clause-rows : goal.commit_part-requires-clause-rows
commit_part-requires-clause-rows g c κs within = λ t there.
    c.requires.rows t (subst (λ (o : Opened _). table_at o.store c.args.table.now ≡ Some t) c.self.view_is there)

-- it was refused
pub invariant_of-self : goal.invariant_of-self
invariant_of-self g c =
    let part = c.args.part in
    let new = c.commit_part.new in
    let now : Opened g.row.F.Denot = record { store = new.store; policy = c.self.inside.policy; storage = storage (g.D.Disk.told new.disk) (g.D.Disk.clock new.disk) (g.D.Disk.failed new.disk) (g.A.Annals.told new.annals); started = g.D.Disk.started new.disk } in
    added_ready g.F.Dir.files c.args.session c.args.table.now c.args.block part.sealed part.loaded _ _ now c.self.view_is part c.commit_part.result c.requires.there c.commit_part.ensures.commits

pub returns-in-Err-clause-commits : goal.returns-in-Err-clause-commits
returns-in-Err-clause-commits g c =
    let part = c.args.part in
    let new = c.commit_part.new in
    let now : Opened g.row.F.Denot = record { store = new.store; policy = c.self.inside.policy; storage = storage (g.D.Disk.told new.disk) (g.D.Disk.clock new.disk) (g.D.Disk.failed new.disk) (g.A.Annals.told new.annals); started = g.D.Disk.started new.disk } in
    added_refused g.F.Dir.files c.args.session c.args.table.now c.args.block part.sealed part.loaded _ _ now c.self.view_is part _ _ c.in-Err.returned c.in-Err.ensures.commits

pub returns-in-Err-clause-goes_on : goal.returns-in-Err-clause-goes_on
returns-in-Err-clause-goes_on g c =
    let part = c.args.part in
    let new = c.commit_part.new in
    let now : Opened g.row.F.Denot = record { store = new.store; policy = c.self.inside.policy; storage = storage (g.D.Disk.told new.disk) (g.D.Disk.clock new.disk) (g.D.Disk.failed new.disk) (g.A.Annals.told new.annals); started = g.D.Disk.started new.disk } in
    added_goes g.F.Dir.files c.args.session c.args.table.now c.args.block part.sealed part.loaded _ _ now c.self.view_is part c.commit_part.result c.requires.there c.commit_part.ensures.commits c.self.invariant refl c.commit_part.ensures.started

-- it was committed
pub invariant_of-self-2 : goal.invariant_of-self-2
invariant_of-self-2 g c =
    let part = c.args.part in
    let new = c.commit_part.new in
    let now : Opened g.row.F.Denot = record { store = new.store; policy = c.self.inside.policy; storage = storage (g.D.Disk.told new.disk) (g.D.Disk.clock new.disk) (g.D.Disk.failed new.disk) (g.A.Annals.told new.annals); started = g.D.Disk.started new.disk } in
    added_ready g.F.Dir.files c.args.session c.args.table.now c.args.block part.sealed part.loaded _ _ now c.self.view_is part c.commit_part.result c.requires.there c.commit_part.ensures.commits

pub returns-clause-commits : goal.returns-clause-commits
returns-clause-commits g c =
    let part = c.args.part in
    let new = c.commit_part.new in
    let now : Opened g.row.F.Denot = record { store = new.store; policy = c.self.inside.policy; storage = storage (g.D.Disk.told new.disk) (g.D.Disk.clock new.disk) (g.D.Disk.failed new.disk) (g.A.Annals.told new.annals); started = g.D.Disk.started new.disk } in
    added_done g.F.Dir.files c.args.session c.args.table.now c.args.block part.sealed part.loaded _ _ now c.self.view_is part _ new.store.length c.in-Ok.ensures.commits

pub returns-clause-goes_on : goal.returns-clause-goes_on
returns-clause-goes_on g c =
    let part = c.args.part in
    let new = c.commit_part.new in
    let now : Opened g.row.F.Denot = record { store = new.store; policy = c.self.inside.policy; storage = storage (g.D.Disk.told new.disk) (g.D.Disk.clock new.disk) (g.D.Disk.failed new.disk) (g.A.Annals.told new.annals); started = g.D.Disk.started new.disk } in
    added_goes g.F.Dir.files c.args.session c.args.table.now c.args.block part.sealed part.loaded _ _ now c.self.view_is part c.commit_part.result c.requires.there c.commit_part.ensures.commits c.self.invariant refl c.commit_part.ensures.started
