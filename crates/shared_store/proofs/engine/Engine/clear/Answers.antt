use Rattle.std.proofs.Common.{refl, subst}
use Rattle.root_commits.specs.Turns.{storage}
use Rattle.shared_store.specs.Engines.{IsOpen, Opened}
use Rattle.shared_store.specs.Works.{Frees}
use Rattle.shared_store.proofs.AllFreed.{freed_alike, frees_none, frees_set}
use Rattle.shared_store.proofs.Marked.{goes_itself, goes_seen, with_set}
use Rattle.shared_store.proofs.Marking.{ready_alike}
use Rattle.shared_store.proofs.engine.Engine.clear.Goals as goal

-- no work is out
pub invariant_of-self : goal.invariant_of-self
invariant_of-self g c =
    let inside = c.self.inside in
    let set = c.clear_all_marks.new.self in
    let seen : Opened g.row.F.Denot = record { store = inside.store; policy = inside.policy; storage = storage (g.D.Disk.told inside.disk) (g.D.Disk.clock inside.disk) (g.D.Disk.failed inside.disk) (g.A.Annals.told inside.annals); started = g.D.Disk.started inside.disk } in
    let now : Opened g.row.F.Denot = record { store = with_set inside.store set; policy = seen.policy; storage = seen.storage; started = seen.started } in
    ready_alike inside.store now.store (freed_alike c.args.out seen now (frees_set c.args.out c.if-out-eq0.true seen now c.clear_all_marks.ensures.cleared refl refl)) _ _ c.self.invariant

pub returns-then-out-eq0-clause-frees : goal.returns-then-out-eq0-clause-frees
returns-then-out-eq0-clause-frees g c =
    let inside = c.self.inside in
    let set = c.clear_all_marks.new.self in
    let seen : Opened g.row.F.Denot = record { store = inside.store; policy = inside.policy; storage = storage (g.D.Disk.told inside.disk) (g.D.Disk.clock inside.disk) (g.D.Disk.failed inside.disk) (g.A.Annals.told inside.annals); started = g.D.Disk.started inside.disk } in
    let now : Opened g.row.F.Denot = record { store = with_set inside.store set; policy = seen.policy; storage = seen.storage; started = seen.started } in
    subst (λ (o : Opened g.row.F.Denot). Frees c.args.out o now) c.self.view_is (frees_set c.args.out c.if-out-eq0.true seen now c.clear_all_marks.ensures.cleared refl refl)

pub returns-then-out-eq0-clause-goes_on : goal.returns-then-out-eq0-clause-goes_on
returns-then-out-eq0-clause-goes_on g c =
    let inside = c.self.inside in
    let set = c.clear_all_marks.new.self in
    let seen : Opened g.row.F.Denot = record { store = inside.store; policy = inside.policy; storage = storage (g.D.Disk.told inside.disk) (g.D.Disk.clock inside.disk) (g.D.Disk.failed inside.disk) (g.A.Annals.told inside.annals); started = g.D.Disk.started inside.disk } in
    let now : Opened g.row.F.Denot = record { store = with_set inside.store set; policy = seen.policy; storage = seen.storage; started = seen.started } in
    goes_seen g.F.Dir.files seen _ now c.self.view_is c.self.invariant (freed_alike c.args.out seen now (frees_set c.args.out c.if-out-eq0.true seen now c.clear_all_marks.ensures.cleared refl refl)) refl refl refl

-- some are
pub returns-else-out-eq0-clause-frees : goal.returns-else-out-eq0-clause-frees
returns-else-out-eq0-clause-frees g c = frees_none c.args.out c.if-out-eq0.false c.args.self.now

pub returns-else-out-eq0-clause-goes_on : goal.returns-else-out-eq0-clause-goes_on
returns-else-out-eq0-clause-goes_on g c = goes_itself c.args.self.now (subst (λ (o : Opened g.row.F.Denot). IsOpen o) c.self.view_is c.self.invariant)
