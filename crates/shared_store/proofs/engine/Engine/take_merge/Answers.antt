use Rattle.std.proofs.Common.{◌≡◌, ℕ, Some, Ok, List, false, refl, sym, subst, ◌∙◌}
use Rattle.std.specs.List.{All}
use Rattle.merge_select.specs.Picks.{NoneIn}
use Rattle.root_commits.specs.part_reader.declared.reading.Part.{Part}
use Rattle.root_commits.specs.part_set.declared.kept.Kept.{Kept}
use Rattle.root_commits.specs.part_set.Parts.{kept_in}
use Rattle.root_commits.specs.part_set.Runs.{IsRun, parts_of_run}
use Rattle.root_commits.specs.part_set.Sets.{parts_of}
use Rattle.root_commits.specs.Turns.{storage}
use Rattle.shared_store.specs.Engines.{Opened, choice_of}
use Rattle.shared_store.specs.Works.{TakesPair}
use Rattle.shared_store.proofs.Marked.{goes_seen, taking_alike}
use Rattle.shared_store.proofs.Marking.{ready_alike}
use Rattle.shared_store.proofs.Picked.{picked_idle, picked_run}
use Rattle.shared_store.proofs.engine.Engine.take_merge.Goals as goal

-- no pair may be taken
pub returns-in_default-clause-takes : goal.returns-in_default-clause-takes
returns-in_default-clause-takes g c = (subst (λ (o : Opened g.row.F.Denot). NoneIn (choice_of o) c.args.scope) c.self.view_is c.in_default.ensures.none, refl)

-- the pair that is taken
pub take_up-requires-clause-run : goal.take_up-requires-clause-run
take_up-requires-clause-run g c κs within =
    let p = c.in-Some.picked in
    subst (λ (t : List ℕ). IsRun p.run (kept_in p.partition (parts_of c.self.inside.store.set t))) (sym c.in_ok-table.ensures) (picked_run _ _ p c.in-Some.ensures.some)

pub take_up-requires-clause-idle : goal.take_up-requires-clause-idle
take_up-requires-clause-idle g c κs within =
    let p = c.in-Some.picked in
    subst (λ (t : List ℕ). All (λ (k : Kept (Part g.row.F.Denot)). k.busy ≡ false) (parts_of_run p.run (kept_in p.partition (parts_of c.self.inside.store.set t)))) (sym c.in_ok-table.ensures) (picked_idle _ _ p c.in-Some.ensures.some)

pub returns-clause-takes : goal.returns-clause-takes
returns-clause-takes g c =
    let inside = c.self.inside in
    let p = c.in-Some.picked in
    let work = c.in_ok-work.work in
    let done = c.in_ok-work.ensures in
    let now : Opened g.row.F.Denot = record { store = c.take_up.new.store; policy = inside.policy; storage = storage (g.D.Disk.told inside.disk) (g.D.Disk.clock inside.disk) (g.D.Disk.failed inside.disk) (g.A.Annals.told inside.annals); started = g.D.Disk.started inside.disk } in
    subst (λ (o : Opened g.row.F.Denot). TakesPair c.args.scope o now (Ok (Some work))) c.self.view_is (
      p.run,
      record { pick = p; is = c.in-Some.ensures.some; table_is = done.of.0 ∙ c.in_ok-table.ensures; partition_is = done.of.1; run_is = refl },
      record { takes = done.takes; storage_is = refl },
    )

pub invariant_of-self : goal.invariant_of-self
invariant_of-self g c =
    let was = c.self.inside.store in
    let new = c.take_up.new.store in
    ready_alike was new (taking_alike c.in-Some.picked.run was new c.take_up.result c.take_up.ensures.takes c.take_up.ensures.err) _ _ c.self.invariant

pub invariant_of-self-2 : goal.invariant_of-self-2
invariant_of-self-2 g c =
    let was = c.self.inside.store in
    let new = c.take_up.new.store in
    ready_alike was new (taking_alike c.in-Some.picked.run was new c.take_up.result c.take_up.ensures.takes c.take_up.ensures.err) _ _ c.self.invariant

pub returns-in_err-work-clause-goes_on : goal.returns-in_err-work-clause-goes_on
returns-in_err-work-clause-goes_on g c =
    let was = c.self.inside.store in
    let new = c.take_up.new.store in
    goes_seen g.F.Dir.files _ _ _ c.self.view_is c.self.invariant (taking_alike c.in-Some.picked.run was new c.take_up.result c.take_up.ensures.takes c.take_up.ensures.err) refl refl refl

pub returns-clause-goes_on : goal.returns-clause-goes_on
returns-clause-goes_on g c =
    let was = c.self.inside.store in
    let new = c.take_up.new.store in
    goes_seen g.F.Dir.files _ _ _ c.self.view_is c.self.invariant (taking_alike c.in-Some.picked.run was new c.take_up.result c.take_up.ensures.takes c.take_up.ensures.err) refl refl refl
