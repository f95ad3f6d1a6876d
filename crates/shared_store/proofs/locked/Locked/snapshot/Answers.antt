use Rattle.std.proofs.Common.{List, IfOk, sym, subst, Option, ap₂}
use Rattle.std.proofs.lemmas.Result.{IfOk-weaker}
use Rattle.mt_values.specs.declared.command.Entry.{Entry}
use Rattle.shared_store.specs.Engines.{Opened}
use Rattle.shared_store.specs.Handed.{Pins}
use Rattle.shared_store.specs.Sharing.{IsShared, Shown, shown}
use Rattle.shared_store.proofs.Handing.{pins}
use Rattle.shared_store.proofs.locked.Locked.snapshot.Goals as goal

pub invariant_of-self : goal.invariant_of-self
invariant_of-self g c =
    let i = c.self.inside in
    let x = c.self.invariant in (
      x.0,
      c.look.ensures.lock,
      subst (λ (r : Opened g.row.F.Denot). IsShared g.F.Dir.files g.B.Names.given g.B.Room.before g.B.Names.opening (shown r c.look.new.lock.list c.look.new.lock.begun i.out i.stops.total i.levels.total i.faults.total)) (sym c.snapshot.ensures.stays)
          (subst (λ (s : Shown g.row.F.Denot). IsShared g.F.Dir.files g.B.Names.given g.B.Room.before g.B.Names.opening s)
          (ap₂ (λ (l : List Entry) (b : Option Entry). shown i.engine l b i.out i.stops.total i.levels.total i.faults.total) (sym c.look.ensures.list) (sym c.look.ensures.begun)) x.2),
    )

pub returns-clause-snap : goal.returns-clause-snap
returns-clause-snap g c =
    let i = c.self.inside in
    let was : Shown g.row.F.Denot = shown i.engine i.seat.list i.seat.begun i.out i.stops.total i.levels.total i.faults.total in
    subst (λ (s : Shown g.row.F.Denot). IfOk c.snapshot.result (Pins g.F.Dir.files g.B.Names.given g.B.Room.before g.B.Names.opening s.list c.args.table.now)) c.self.view_is
    (IfOk-weaker c.snapshot.result _ _ (λ found is. pins g.F.Dir.files g.B.Names.given g.B.Room.before g.B.Names.opening was c.self.invariant.2 c.snapshot.ensures.open c.args.table.now found is) c.snapshot.ensures.snap)
