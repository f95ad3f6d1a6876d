use Rattle.std.proofs.Common.{sym, ap, ◌∙◌, subst}
use Rattle.shared_store.specs.Engines.{IsOpen}
use Rattle.shared_store.specs.Sharing.{IsShared, Shown}
use Rattle.shared_store.specs.Tallies.{Tally}
use Rattle.shared_store.proofs.locked.Locked.end.Goals as goal

pub returns-clause-open : goal.returns-clause-open
returns-clause-open g c = subst (λ (s : Shown g.row.F.Denot). IsOpen s.root) c.self.view_is c.into_outside.ensures.open

pub returns-clause-shared : goal.returns-clause-shared
returns-clause-shared g c = subst (λ (s : Shown g.row.F.Denot). IsShared g.F.Dir.files g.B.Names.given g.B.Room.before g.B.Names.opening s) c.self.view_is c.self.invariant.2

-- a share with every part has counted all
pub returns-clause-counted : goal.returns-clause-counted
returns-clause-counted g c = λ whole.
    let v = c.share.view_is in
    let all = ap (λ (t : Tally). t.parts) v ∙ whole in (
      sym (ap (λ (s : Shown g.row.F.Denot). s.out) c.self.view_is) ∙ (c.self.invariant.0 ∙ (sym (c.audit.ensures.whole all) ∙ ap (λ (t : Tally). t.out) v)),
      sym (ap (λ (s : Shown g.row.F.Denot). s.stops) c.self.view_is) ∙ (sym (c.audit-2.ensures.whole (c.share.invariant.0 ∙ all)) ∙ ap (λ (t : Tally). t.stops) v),
      sym (ap (λ (s : Shown g.row.F.Denot). s.levels) c.self.view_is) ∙ (sym (c.audit-3.ensures.whole (c.share.invariant.1 ∙ all)) ∙ ap (λ (t : Tally). t.levels) v),
      sym (ap (λ (s : Shown g.row.F.Denot). s.faults) c.self.view_is) ∙ (sym (c.audit-4.ensures.whole (c.share.invariant.2 ∙ all)) ∙ ap (λ (t : Tally). t.faults) v),
    )
