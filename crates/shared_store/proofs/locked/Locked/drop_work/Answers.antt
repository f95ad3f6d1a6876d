use Rattle.std.proofs.Common.{ap, refl, sym, ◌∙◌, subst, arith}
use Rattle.history_seat.specs.Views.{Begins}
use Rattle.shared_store.specs.Handed.{Handing}
use Rattle.shared_store.specs.Sharing.{Shown, shown}
use Rattle.shared_store.specs.Tallies.{Tally}
use Rattle.shared_store.specs.Works.{DropsWork}
use Rattle.shared_store.proofs.Keeping.{shared_dropped}
use Rattle.shared_store.proofs.locked.Locked.drop_work.Goals as goal

-- as it is where the works that are left are counted
pub invariant_of-self : goal.invariant_of-self
invariant_of-self g c =
    let i = c.self.inside in
    let x = c.self.invariant in
    let was : Shown g.row.F.Denot = shown i.engine i.seat.list i.seat.begun i.out i.stops.total i.levels.total i.faults.total in
    let now : Shown g.row.F.Denot = shown c.drop_work.new.self c.take_in.new.lock.list c.take_in.new.lock.begun i.out i.stops.total i.levels.total i.faults.total in
    let has = ap (λ (t : Tally). t.out) c.share.view_is in (
      x.0 ∙ sym c.audit.ensures.total,
      c.take_in.ensures.lock,
      shared_dropped g.F.Dir.files g.B.Names.given g.B.Room.before g.B.Names.opening was now x.2 c.drop_work.ensures.goes_on c.take_in.ensures.list c.take_in.ensures.begun c.work.inside.taken c.drop_work.ensures.drops
          (omega (arith, x.0, c.audit.ensures.bound, c.requires, has)) refl refl refl,
    )

-- what it did to the root: the work was let go, and then marks may have been taken away
pub returns-clause-drops : goal.returns-clause-drops
returns-clause-drops g c = (
  c.drop_work.new.self,
  subst (λ (s : Shown g.row.F.Denot). DropsWork c.args.work.taken s.root c.drop_work.new.self) c.self.view_is
      (subst (λ (h : Handing g.row.F.Denot). DropsWork h.taken c.self.inside.engine c.drop_work.new.self) c.work.view_is c.drop_work.ensures.drops),
  c.end_work.ensures.frees,
)

pub returns-clause-begins : goal.returns-clause-begins
returns-clause-begins g c = subst (λ (s : Shown g.row.F.Denot). Begins c.args.work.note.list s.list) c.self.view_is
    (subst (λ (h : Handing g.row.F.Denot). Begins h.note.list c.self.inside.seat.list) c.work.view_is c.take_in.ensures.begins)
