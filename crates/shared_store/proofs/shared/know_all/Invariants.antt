-- the seats gone over know all, and the root is as it was
use Rattle.std.proofs.Common.{◌≡◌, ◌++◌, All}
use Rattle.history_seat.specs.Turns.{IsSession}
use Rattle.shared_store.specs.Sharing.{KnowsAll}
use Rattle.shared_store.proofs.shared.know_all.Given as goal

abbrev pub invariant-loop-seat : goal.invariant-loop-seat
invariant-loop-seat g l = (l.locked ≡ l.initial.locked) × All (KnowsAll l.locked.list l.locked.tried) l.yielded × All IsSession l.seat-iterator.rest.items × (l.yielded ++ l.seat-iterator.rest.items ≡ l.fn.seats.items)
