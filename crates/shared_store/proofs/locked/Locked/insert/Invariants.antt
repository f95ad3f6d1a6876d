use Rattle.root_commits.specs.durable_commit.Commits.{entry_of}
use Rattle.shared_store.specs.Handed.{insert_there}
use Rattle.shared_store.proofs.locked.Locked.insert.Given as goal

abbrev pub ghosts-insert_named : goal.ghosts-insert_named
ghosts-insert_named g a = record { entry = entry_of a.seat.now.number (insert_there g.B.Names.opening.tables a.seat.now.list a.table.now a.block) }
