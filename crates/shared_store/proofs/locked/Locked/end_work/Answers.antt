use Rattle.std.proofs.Common.{◌-◌, ap, refl, arith}
use Rattle.shared_store.specs.Sharing.{Shown, shown}
use Rattle.shared_store.specs.Tallies.{Tally}
use Rattle.shared_store.proofs.Keeping.{shared_freed}
use Rattle.shared_store.proofs.locked.Locked.end_work.Goals as goal

pub invariant_of-self : goal.invariant_of-self
invariant_of-self g c =
    let i = c.self.inside in
    let x = c.self.invariant in
    let was : Shown g.row.F.Denot = shown i.engine i.seat.list i.seat.begun i.out i.stops.total i.levels.total i.faults.total in
    let now : Shown g.row.F.Denot = shown c.clear.new.self i.seat.list i.seat.begun (i.out - 1) i.stops.total i.levels.total i.faults.total in
    let has = ap (λ (t : Tally). t.out) c.share.view_is in (
      omega (arith, x.0, c.audit.ensures.total, c.sub.ensures.total, c.audit.ensures.bound, c.requires, has),
      x.1,
      shared_freed g.F.Dir.files g.B.Names.given g.B.Room.before g.B.Names.opening was now x.2 c.clear.ensures.goes_on refl refl c.clear.ensures.frees refl refl refl (λ none. omega (arith, none)),
    )
