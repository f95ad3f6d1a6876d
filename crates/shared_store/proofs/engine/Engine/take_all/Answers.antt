use Rattle.std.proofs.Common.{◌≡◌, ℕ, Option, Some, Result, Ok, List, IsSome, false, ap, refl, sym, subst, ◌∙◌}
use Rattle.std.specs.List.{All}
use Rattle.root_commits.specs.part_reader.declared.reading.Part.{Part}
use Rattle.root_commits.specs.part_set.declared.kept.Kept.{Kept}
use Rattle.root_commits.specs.part_set.Parts.{kept_in}
use Rattle.root_commits.specs.part_set.Runs.{parts_of_run}
use Rattle.root_commits.specs.part_set.Sets.{parts_of}
use Rattle.root_commits.specs.root_store.declared.store.CoreStore.{CoreStore}
use Rattle.root_commits.specs.root_store.Stores.{table_at}
use Rattle.root_commits.specs.Turns.{storage}
use Rattle.shared_store.specs.declared.work.TakeFault.{TakeFault}
use Rattle.shared_store.specs.declared.work.Work.{Work}
use Rattle.shared_store.specs.Engines.{Opened}
use Rattle.shared_store.specs.Works.{TakesWhole}
use Rattle.shared_store.proofs.Marked.{goes_seen, taking_alike}
use Rattle.shared_store.proofs.Marking.{ready_alike}
use Rattle.shared_store.proofs.Picked.{run_there, whole_idle, whole_run}
use Rattle.shared_store.proofs.engine.Engine.take_all.Goals.{in-Ok-take_up, in-Err-take_up}
use Rattle.shared_store.proofs.engine.Engine.take_all.Goals as goal

-- all parts are taken
pub take_up-requires-clause-there : goal.take_up-requires-clause-there
take_up-requires-clause-there g c κs within =
    let picks = rw c.in-Ok-Some.field-0-is at c.in-Ok-Some.ensures in
    subst (λ (t : List ℕ). IsSome (table_at c.self.inside.store t)) (sym c.in-Ok.ensures)
    (run_there c.self.inside.store c.self.invariant.sound c.args.table.now c.args.partition c.in-Ok-Some.run' (whole_run (kept_in c.args.partition (parts_of c.self.inside.store.set c.args.table.now)) c.in-Ok-Some.run' picks.0.some picks.2 picks.3))

pub take_up-requires-clause-idle : goal.take_up-requires-clause-idle
take_up-requires-clause-idle g c κs within =
    let picks = rw c.in-Ok-Some.field-0-is at c.in-Ok-Some.ensures in
    subst (λ (t : List ℕ). All (λ (k : Kept (Part g.row.F.Denot)). k.busy ≡ false) (parts_of_run c.in-Ok-Some.run' (kept_in c.args.partition (parts_of c.self.inside.store.set t)))) (sym c.in-Ok.ensures)
    (whole_idle (kept_in c.args.partition (parts_of c.self.inside.store.set c.args.table.now)) c.in-Ok-Some.run' picks.0.some picks.2 picks.3 picks.1)

pub invariant_of-self : goal.invariant_of-self
invariant_of-self g c =
    let was = c.self.inside.store in
    let new = c.take_up.new.store in
    ready_alike was new (taking_alike c.in-Ok-Some.run' was new c.take_up.result c.take_up.ensures.takes c.take_up.ensures.err) _ _ c.self.invariant

pub returns-clause-takes : goal.returns-clause-takes
returns-clause-takes g c =
    let inside = c.self.inside in
    let table = c.args.table.now in
    let partition = c.args.partition in
    let picks = rw c.in-Ok-Some.field-0-is at c.in-Ok-Some.ensures in
    let with = λ (s : CoreStore g.row.F.Denot). let o : Opened g.row.F.Denot = record { store = s; policy = inside.policy; storage = storage (g.D.Disk.told inside.disk) (g.D.Disk.clock inside.disk) (g.D.Disk.failed inside.disk) (g.A.Annals.told inside.annals); started = g.D.Disk.started inside.disk } in o in
    let now : Opened g.row.F.Denot = with c.take_up.new.store in
    elim c.match-take_up.branch [
      | in-Ok-take_up w ↦ (
          let done = w.in-Ok-take_up.ensures in
          subst (λ (r : Result (Option (Work g.row.F.Denot)) TakeFault). TakesWhole table partition c.args.self.now now r) (sym w.result-is)
          (subst (λ (o : Opened g.row.F.Denot). TakesWhole table partition o now (Ok (Some w.in-Ok-take_up.work))) c.self.view_is
          (c.in-Ok-Some.run', picks, done.of.0 ∙ c.in-Ok.ensures, done.of.1, record { takes = done.takes; storage_is = refl }))
          )
      | in-Err-take_up w ↦
          subst (λ (r : Result (Option (Work g.row.F.Denot)) TakeFault). TakesWhole table partition c.args.self.now now r) (sym w.result-is) (ap with w.in-Err-take_up.ensures.err ∙ c.self.view_is)
    ]

pub returns-clause-goes_on : goal.returns-clause-goes_on
returns-clause-goes_on g c =
    let was = c.self.inside.store in
    let new = c.take_up.new.store in
    goes_seen g.F.Dir.files _ _ _ c.self.view_is c.self.invariant (taking_alike c.in-Ok-Some.run' was new c.take_up.result c.take_up.ensures.takes c.take_up.ensures.err) refl refl refl
