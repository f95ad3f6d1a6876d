use Rattle.std.proofs.Common.{◌≡◌, Option, sym, subst}
use Rattle.history_seat.specs.Turns.{AddsNone}
use Rattle.shared_store.specs.Turns.{left_of}
use Rattle.shared_store.proofs.locked.end_refused.Goals as goal

-- what was sealed comes back
pub returns-in-Some-clause-seat : goal.returns-in-Some-clause-seat
returns-in-Some-clause-seat g c =
    subst (λ (b : Option _). AddsNone c.args.seat.now c.args.lock.now.list (left_of b g.T.Entered.entry c.args.seat.now.tried) c.look.new.seat) (sym c.in-Some.is) c.look.ensures.looked

pub returns-in-Some-clause-begun : goal.returns-in-Some-clause-begun
returns-in-Some-clause-begun g c = subst (λ (b : Option _). c.look.new.lock.begun ≡ left_of b g.T.Entered.entry c.args.lock.now.begun) (sym c.in-Some.is) c.look.ensures.begun

-- it was given to the disk
pub returns-in-None-clause-seat : goal.returns-in-None-clause-seat
returns-in-None-clause-seat g c =
    subst (λ (b : Option _). AddsNone c.args.seat.now c.args.lock.now.list (left_of b g.T.Entered.entry c.args.seat.now.tried) c.record_try.new.seat) (sym c.in-None.is) c.record_try.ensures.tried

pub returns-in-None-clause-begun : goal.returns-in-None-clause-begun
returns-in-None-clause-begun g c = subst (λ (b : Option _). c.record_try.new.lock.begun ≡ left_of b g.T.Entered.entry c.args.lock.now.begun) (sym c.in-None.is) c.record_try.ensures.begun
