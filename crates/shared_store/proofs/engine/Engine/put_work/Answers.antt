use Rattle.std.proofs.Common.{List, ap, refl, subst}
use Rattle.root_commits.specs.part_reader.declared.reading.Part.{Part}
use Rattle.root_commits.specs.part_set.declared.kept.Kept.{Kept}
use Rattle.root_commits.specs.part_set.Runs.{IsBusyRun, IsMissing, names_of_parts}
use Rattle.root_commits.specs.Turns.{root_of, storage}
use Rattle.shared_store.specs.declared.work.Put.TheVariants as put
use Rattle.shared_store.specs.Engines.{Opened, root_in}
use Rattle.shared_store.specs.Works.{merging_of, parts_beside}
use Rattle.shared_store.proofs.Marked.{clears_set, goes_by, goes_seen, with_set}
use Rattle.shared_store.proofs.Marking.{cleared_alike, ready_alike}
use Rattle.shared_store.proofs.Merging.{merges_go}
use Rattle.shared_store.proofs.Puts.{put_done, put_gone, put_refused}
use Rattle.shared_store.proofs.engine.Engine.put_work.Goals as goal

-- its sources don't stand in a run: they lose their marks
pub invariant_of-self : goal.invariant_of-self
invariant_of-self g c =
    let was = c.self.inside.store in
    let set = c.clear_marks.new.self in
    let inside = c.self.inside in
    let now : Opened g.row.F.Denot = record { store = with_set was set; policy = inside.policy; storage = storage (g.D.Disk.told inside.disk) (g.D.Disk.clock inside.disk) (g.D.Disk.failed inside.disk) (g.A.Annals.told inside.annals); started = g.D.Disk.started inside.disk } in
    let clears = clears_set c.args.work (names_of_parts c.as_slice-in-Err.result.now) (ap names_of_parts c.as_slice-in-Err.ensures.value) was set now.storage c.clear_marks.ensures.cleared c.clear_marks.ensures.others in
    ready_alike was (with_set was set) (cleared_alike c.args.work (record { store = was; storage = now.storage }) (root_in now) clears) _ _ c.self.invariant

pub returns-in-Err-clause-puts : goal.returns-in-Err-clause-puts
returns-in-Err-clause-puts g c =
    let was = c.self.inside.store in
    let set = c.clear_marks.new.self in
    let inside = c.self.inside in
    let now : Opened g.row.F.Denot = record { store = with_set was set; policy = inside.policy; storage = storage (g.D.Disk.told inside.disk) (g.D.Disk.clock inside.disk) (g.D.Disk.failed inside.disk) (g.A.Annals.told inside.annals); started = g.D.Disk.started inside.disk } in
    let clears = clears_set c.args.work (names_of_parts c.as_slice-in-Err.result.now) (ap names_of_parts c.as_slice-in-Err.ensures.value) was set now.storage c.clear_marks.ensures.cleared c.clear_marks.ensures.others in
    let missing = subst (λ (ks : List (Kept (Part g.row.F.Denot))). IsMissing (names_of_parts ks) (parts_beside was c.args.work) c.in-Err.name) c.as_slice.ensures.value c.in-Err.ensures.missing in
    put_gone c.args.work _ _ now c.self.view_is c.args.part c.in-Err.name missing clears

pub returns-in-Err-clause-goes_on : goal.returns-in-Err-clause-goes_on
returns-in-Err-clause-goes_on g c =
    let was = c.self.inside.store in
    let set = c.clear_marks.new.self in
    let inside = c.self.inside in
    let now : Opened g.row.F.Denot = record { store = with_set was set; policy = inside.policy; storage = storage (g.D.Disk.told inside.disk) (g.D.Disk.clock inside.disk) (g.D.Disk.failed inside.disk) (g.A.Annals.told inside.annals); started = g.D.Disk.started inside.disk } in
    let clears = clears_set c.args.work (names_of_parts c.as_slice-in-Err.result.now) (ap names_of_parts c.as_slice-in-Err.ensures.value) was set now.storage c.clear_marks.ensures.cleared c.clear_marks.ensures.others in
    goes_seen g.F.Dir.files _ _ _ c.self.view_is c.self.invariant (cleared_alike c.args.work (record { store = was; storage = now.storage }) (root_in now) clears) refl refl refl

-- the merge was put
pub returns-in-Ok-merge_run-clause-puts : goal.returns-in-Ok-merge_run-clause-puts
returns-in-Ok-merge_run-clause-puts g c =
    let work = c.args.work in
    let part = c.args.part in
    let inside = c.self.inside in
    let new = c.merge_run.new in
    let run = c.in-Ok.run' in
    let now : Opened g.row.F.Denot = record { store = new.store; policy = inside.policy; storage = storage (g.D.Disk.told new.disk) (g.D.Disk.clock new.disk) (g.D.Disk.failed new.disk) (g.A.Annals.told inside.annals); started = g.D.Disk.started new.disk } in
    let there = subst (λ (ks : List (Kept (Part g.row.F.Denot))). IsBusyRun run (names_of_parts ks) (parts_beside inside.store work)) c.as_slice.ensures.value c.in-Ok.ensures.found in
    put_done g.F.Dir.files work part.sealed part.loaded _ _ now c.self.view_is part run there _ put.Done (c.in-Ok-merge_run.ensures.merges (g.A.Annals.told inside.annals))

pub returns-in-Ok-merge_run-clause-goes_on : goal.returns-in-Ok-merge_run-clause-goes_on
returns-in-Ok-merge_run-clause-goes_on g c =
    let part = c.args.part in
    let inside = c.self.inside in
    let new = c.merge_run.new in
    let annals = g.A.Annals.told inside.annals in
    let before = root_of inside.store (g.D.Disk.told inside.disk) (g.D.Disk.clock inside.disk) (g.D.Disk.failed inside.disk) annals in
    let after = root_of new.store (g.D.Disk.told new.disk) (g.D.Disk.clock new.disk) (g.D.Disk.failed new.disk) annals in
    let goes = merges_go g.F.Dir.files (merging_of c.args.work c.in-Ok.run' part.sealed part.loaded) before after part c.merge_run.result (c.merge_run.ensures.merges annals) in
    goes_by _ _ _ c.self.view_is c.self.invariant c.merge_run.ensures.ready goes.0 refl c.merge_run.ensures.started goes.1

-- it was refused: the sources lose their marks
pub invariant_of-self-in-Err-merge_run : goal.invariant_of-self-in-Err-merge_run
invariant_of-self-in-Err-merge_run g c =
    let new = c.merge_run.new in
    let set = c.clear_marks-in-Err-merge_run.new.self in
    let mid = root_of new.store (g.D.Disk.told new.disk) (g.D.Disk.clock new.disk) (g.D.Disk.failed new.disk) (g.A.Annals.told c.self.inside.annals) in
    let clears = clears_set c.args.work (names_of_parts c.as_slice-in-Err-merge_run.result.now) (ap names_of_parts c.as_slice-in-Err-merge_run.ensures.value) new.store set mid.storage c.clear_marks-in-Err-merge_run.ensures.cleared c.clear_marks-in-Err-merge_run.ensures.others in
    ready_alike new.store (with_set new.store set) (cleared_alike c.args.work mid (record { store = with_set new.store set; storage = mid.storage }) clears) _ _ c.merge_run.ensures.ready

pub returns-clause-puts : goal.returns-clause-puts
returns-clause-puts g c =
    let work = c.args.work in
    let part = c.args.part in
    let inside = c.self.inside in
    let new = c.merge_run.new in
    let set = c.clear_marks-in-Err-merge_run.new.self in
    let run = c.in-Ok.run' in
    let annals = g.A.Annals.told inside.annals in
    let mid = root_of new.store (g.D.Disk.told new.disk) (g.D.Disk.clock new.disk) (g.D.Disk.failed new.disk) annals in
    let now : Opened g.row.F.Denot = record { store = with_set new.store set; policy = inside.policy; storage = storage (g.D.Disk.told new.disk) (g.D.Disk.clock new.disk) (g.D.Disk.failed new.disk) annals; started = g.D.Disk.started new.disk } in
    let there = subst (λ (ks : List (Kept (Part g.row.F.Denot))). IsBusyRun run (names_of_parts ks) (parts_beside inside.store work)) c.as_slice.ensures.value c.in-Ok.ensures.found in
    let clears = clears_set work (names_of_parts c.as_slice-in-Err-merge_run.result.now) (ap names_of_parts c.as_slice-in-Err-merge_run.ensures.value) new.store set mid.storage c.clear_marks-in-Err-merge_run.ensures.cleared c.clear_marks-in-Err-merge_run.ensures.others in
    put_refused g.F.Dir.files work part.sealed part.loaded _ _ now c.self.view_is part run there _ _ mid c.in-Err-merge_run.returned (c.in-Err-merge_run.ensures.merges annals) clears

pub returns-clause-goes_on : goal.returns-clause-goes_on
returns-clause-goes_on g c =
    let work = c.args.work in
    let part = c.args.part in
    let inside = c.self.inside in
    let new = c.merge_run.new in
    let set = c.clear_marks-in-Err-merge_run.new.self in
    let run = c.in-Ok.run' in
    let annals = g.A.Annals.told inside.annals in
    let before = root_of inside.store (g.D.Disk.told inside.disk) (g.D.Disk.clock inside.disk) (g.D.Disk.failed inside.disk) annals in
    let after = root_of new.store (g.D.Disk.told new.disk) (g.D.Disk.clock new.disk) (g.D.Disk.failed new.disk) annals in
    let goes = merges_go g.F.Dir.files (merging_of work run part.sealed part.loaded) before after part c.merge_run.result (c.merge_run.ensures.merges annals) in
    let clears = clears_set work (names_of_parts c.as_slice-in-Err-merge_run.result.now) (ap names_of_parts c.as_slice-in-Err-merge_run.ensures.value) new.store set after.storage c.clear_marks-in-Err-merge_run.ensures.cleared c.clear_marks-in-Err-merge_run.ensures.others in
    let alike = cleared_alike work after (record { store = with_set new.store set; storage = after.storage }) clears in
    goes_by _ _ _ c.self.view_is c.self.invariant (ready_alike new.store (with_set new.store set) alike _ _ c.merge_run.ensures.ready) goes.0 refl c.merge_run.ensures.started goes.1
