-- the tables gone over have no pair that may be taken
use Rattle.mutation_queue.proofs.Gone.{GoneOver}
use Rattle.mutation_queue.proofs.Tables.{NoneOf}
use Rattle.merge_select.specs.Wishes.{choice_of}
use Rattle.merge_select.proofs.Tables.{Takes}
use Rattle.merge_select.proofs.picking.pick_of_all.Given as goal

abbrev pub invariant-loop-table : goal.invariant-loop-table
invariant-loop-table g l = GoneOver (NoneOf (Takes (choice_of g.P.Rows.row_count l.choosing))) l.choosing.set.now.tables.entries l.table-iterator
