use Rattle.std.proofs.Common.{replicate}
use Rattle.history_seat.specs.Views.{no_entry}
use Rattle.history_seat.proofs.tests.threads_from_base.Given as goal

abbrev pub ghosts-four_at_once : goal.ghosts-four_at_once
ghosts-four_at_once g a = record { table = a.blank.table; before = replicate a.blank.base no_entry }
