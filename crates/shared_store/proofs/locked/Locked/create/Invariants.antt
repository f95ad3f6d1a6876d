use Rattle.mt_values.specs.declared.command.Command.TheVariants as command
use Rattle.root_commits.specs.durable_commit.Commits.{entry_of}
use Rattle.shared_store.proofs.locked.Locked.create.Given as goal

abbrev pub ghosts-create_named : goal.ghosts-create_named
ghosts-create_named g a = record { entry = entry_of a.seat.now.number (command.Create a.create) }
