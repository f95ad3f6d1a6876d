use Rattle.std.proofs.Common.{List, sym, subst, Option, ap₂, ap, ◌∙◌}
use Rattle.mt_values.specs.declared.command.Entry.{Entry}
use Rattle.shared_store.specs.Sharing.{IsShared, Shown, shown}
use Rattle.shared_store.proofs.locked.Locked.look.Goals as goal

pub invariant_of-self : goal.invariant_of-self
invariant_of-self g c =
    let i = c.self.inside in
    let x = c.self.invariant in (
      x.0,
      c.look.ensures.lock,
      subst (λ (s : Shown g.row.F.Denot). IsShared g.F.Dir.files g.B.Names.given g.B.Room.before g.B.Names.opening s)
          (ap₂ (λ (l : List Entry) (b : Option Entry). shown i.engine l b i.out i.stops.total i.levels.total i.faults.total) (sym c.look.ensures.list) (sym c.look.ensures.begun)) x.2,
    )

-- what is begun, as the lock's seat knows it
pub returns-clause-found : goal.returns-clause-found
returns-clause-found g c = c.look.ensures.found ∙ ap (λ (s : Shown g.row.F.Denot). s.tried) c.self.view_is
