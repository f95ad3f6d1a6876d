-- the tables gone over have what is shown of them
use Rattle.part_set.proofs.Showings.{Showing}
use Rattle.part_set.proofs.roots.shown_set.Given as goal

abbrev pub invariant-loop-name : goal.invariant-loop-name
invariant-loop-name l = Showing l.names l.name-index l.set
