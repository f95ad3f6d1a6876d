use Rattle.history_seat.specs.Views.{no_entry}
use Rattle.history_seat.proofs.tests.add_by_steps.Given as goal

abbrev pub ghosts-append : goal.ghosts-append
ghosts-append g a = record { entry = record { session = a.seat.now.number; command = no_entry.command } }
