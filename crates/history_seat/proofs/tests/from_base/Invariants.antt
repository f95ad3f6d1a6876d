use Rattle.std.proofs.Common.{replicate}
use Rattle.history_seat.specs.Views.{no_entry}
use Rattle.history_seat.proofs.tests.from_base.Given as goal

abbrev pub ghosts-in_order : goal.ghosts-in_order
ghosts-in_order a = record { table = a.blank.table; before = replicate a.blank.base no_entry }
