-- none is parted exactly where none of the last one and those after it is
use Rattle.std.proofs.Common.{drop}
use Rattle.mutation_queue.specs.Queue.{mutations_of}
use Rattle.table_core.proofs.Neighbours.{AsRest}
use Rattle.table_core.proofs.steps.none_parted.Given as goal

abbrev pub invariant-loop-part : goal.invariant-loop-part
invariant-loop-part l = AsRest (mutations_of l.queue l.table) l.sources l.last (drop l.part-index l.rest)
