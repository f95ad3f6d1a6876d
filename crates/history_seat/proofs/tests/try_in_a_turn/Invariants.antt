use Rattle.history_seat.specs.Views.{no_entry}
use Rattle.history_seat.proofs.tests.try_in_a_turn.Given as goal

abbrev pub ghosts-record_try : goal.ghosts-record_try
ghosts-record_try g a = record { entry = record { session = a.seat.now.number; command = no_entry.command } }
