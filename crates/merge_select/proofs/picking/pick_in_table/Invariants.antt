-- the shelves gone over have no pair that may be taken
use Rattle.mutation_queue.proofs.Gone.{GoneOver}
use Rattle.mutation_queue.proofs.Shelves.{NoneOn}
use Rattle.merge_select.specs.Picks.{MayTake}
use Rattle.merge_select.specs.Wishes.{wished_of}
use Rattle.merge_select.proofs.picking.pick_in_table.Given as goal

abbrev pub invariant-loop-shelf : goal.invariant-loop-shelf
invariant-loop-shelf g l = GoneOver (NoneOn (MayTake g.P.Rows.row_count (wished_of l.wish) l.wish.policy)) l.table l.shelf-iterator
