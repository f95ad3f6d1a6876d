use Rattle.std.proofs.Common.{◌≡◌, subst, sym}
use Rattle.std.proofs.lemmas.List.Elements.{All-push}
use Rattle.mt_values.specs.Grid.{AreRowsOf}
use Rattle.mt_values.specs.Values.{types_of}
use Rattle.row_merge.specs.TestTables.{letters}
use Rattle.row_merge.proofs.stream_tests.rows_of.Goals as goal

pub loop-place-preserved : goal.loop-place-preserved
loop-place-preserved c =
    subst (AreRowsOf letters) (sym c.in_ok-push.ensures.items) (All-push (λ r. types_of r ≡ letters) c.loop-place.rows.items c.in_ok-row.field-0 c.loop-place.invariant c.in_ok-row.ensures)
