use Rattle.std.proofs.Common.{arith, subst, sym}
use Rattle.mt_values.specs.Grid.{AreRowsOf}
use Rattle.row_merge.specs.TestTables.{letters}
use Rattle.row_merge.proofs.TestTables.{typed_at}
use Rattle.row_merge.proofs.stream_tests.parts_of.Goals as goal

pub part_of-requires-clause-typed : goal.part_of-requires-clause-typed
part_of-requires-clause-typed c =
    subst (AreRowsOf letters) (sym c.deref.ensures.value) (typed_at c.args.inputs.now c.loop-rows.rows-index c.rows-item.result (omega arith) c.rows-item.is c.requires.typed)
