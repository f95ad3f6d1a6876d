-- the shelves gone over have no part that may be rewritten
use Rattle.mutation_queue.specs.Queue.{mutations_of}
use Rattle.mutation_queue.specs.Rewrites.{MayRewrite}
use Rattle.mutation_queue.proofs.Gone.{GoneOver}
use Rattle.mutation_queue.proofs.Shelves.{NoneOn}
use Rattle.mutation_queue.proofs.rewriting.rewrite_in_table.Given as goal

abbrev pub invariant-loop-shelf : goal.invariant-loop-shelf
invariant-loop-shelf g l = GoneOver (NoneOn (MayRewrite (mutations_of l.queue l.table))) l.parts l.shelf-iterator
