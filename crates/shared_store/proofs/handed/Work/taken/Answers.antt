use Rattle.std.proofs.Common.{subst}
use Rattle.shared_store.specs.Handed.{Handing, IsHanded}
use Rattle.shared_store.proofs.handed.Work.taken.Goals as goal

pub returns-clause-facts : goal.returns-clause-facts
returns-clause-facts g c =
    subst (λ (h : Handing g.row.F.Denot). IsHanded g.F.Dir.files g.B.Names.given g.B.Room.before g.B.Names.opening h.note.list h.taken) c.self.view_is c.self.invariant
