-- the tables gone over have no part that may be rewritten
use Rattle.mutation_queue.proofs.Gone.{GoneOver}
use Rattle.mutation_queue.proofs.Tables.{NoneOf}
use Rattle.mutation_queue.proofs.Waiting.{Waits}
use Rattle.mutation_queue.proofs.rewriting.rewrite_of_all.Given as goal

abbrev pub invariant-loop-table : goal.invariant-loop-table
invariant-loop-table g l = GoneOver (NoneOf (Waits l.queue)) l.set.tables.entries l.table-iterator
