use Rattle.history_seat.specs.Turns.{IsSession}
use Rattle.history_seat.proofs.tests.take_turns.Given as goal

abbrev pub invariant-loop : goal.invariant-loop
invariant-loop g l = IsSession l.seat
