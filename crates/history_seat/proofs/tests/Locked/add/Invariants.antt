use Rattle.history_seat.specs.Views.{no_entry}
use Rattle.history_seat.proofs.tests.Locked.add.Given as goal

abbrev pub ghosts-add : goal.ghosts-add
ghosts-add g a = record { entry = record { session = a.seat.now.number; command = no_entry.command } }
