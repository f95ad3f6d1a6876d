use Rattle.std.proofs.Common.{ap, refl, subst}
use Rattle.root_commits.specs.part_set.Runs.{names_of_parts}
use Rattle.root_commits.specs.Turns.{storage}
use Rattle.shared_store.specs.Engines.{Opened, root_in}
use Rattle.shared_store.specs.Works.{DropsWork}
use Rattle.shared_store.proofs.Marked.{clears_set, goes_seen, with_set}
use Rattle.shared_store.proofs.Marking.{cleared_alike, ready_alike}
use Rattle.shared_store.proofs.engine.Engine.drop_work.Goals as goal

pub invariant_of-self : goal.invariant_of-self
invariant_of-self g c =
    let was = c.self.inside.store in
    let set = c.clear_marks.new.self in
    let inside = c.self.inside in
    let now : Opened g.row.F.Denot = record { store = with_set was set; policy = inside.policy; storage = storage (g.D.Disk.told inside.disk) (g.D.Disk.clock inside.disk) (g.D.Disk.failed inside.disk) (g.A.Annals.told inside.annals); started = g.D.Disk.started inside.disk } in
    let clears = clears_set c.args.work (names_of_parts c.as_slice.result.now) (ap names_of_parts c.as_slice.ensures.value) was set now.storage c.clear_marks.ensures.cleared c.clear_marks.ensures.others in
    ready_alike was (with_set was set) (cleared_alike c.args.work (record { store = was; storage = now.storage }) (root_in now) clears) _ _ c.self.invariant

-- its sources lose their marks
pub returns-clause-drops : goal.returns-clause-drops
returns-clause-drops g c =
    let was = c.self.inside.store in
    let set = c.clear_marks.new.self in
    let inside = c.self.inside in
    let now : Opened g.row.F.Denot = record { store = with_set was set; policy = inside.policy; storage = storage (g.D.Disk.told inside.disk) (g.D.Disk.clock inside.disk) (g.D.Disk.failed inside.disk) (g.A.Annals.told inside.annals); started = g.D.Disk.started inside.disk } in
    let clears = clears_set c.args.work (names_of_parts c.as_slice.result.now) (ap names_of_parts c.as_slice.ensures.value) was set now.storage c.clear_marks.ensures.cleared c.clear_marks.ensures.others in
    subst (λ (o : Opened g.row.F.Denot). DropsWork c.args.work o now) c.self.view_is clears

pub returns-clause-goes_on : goal.returns-clause-goes_on
returns-clause-goes_on g c =
    let was = c.self.inside.store in
    let set = c.clear_marks.new.self in
    let inside = c.self.inside in
    let now : Opened g.row.F.Denot = record { store = with_set was set; policy = inside.policy; storage = storage (g.D.Disk.told inside.disk) (g.D.Disk.clock inside.disk) (g.D.Disk.failed inside.disk) (g.A.Annals.told inside.annals); started = g.D.Disk.started inside.disk } in
    let clears = clears_set c.args.work (names_of_parts c.as_slice.result.now) (ap names_of_parts c.as_slice.ensures.value) was set now.storage c.clear_marks.ensures.cleared c.clear_marks.ensures.others in
    goes_seen g.F.Dir.files _ _ _ c.self.view_is c.self.invariant (cleared_alike c.args.work (record { store = was; storage = now.storage }) (root_in now) clears) refl refl refl
