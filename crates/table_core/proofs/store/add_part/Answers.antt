use Rattle.std.proofs.Common.{List, ap, ◌∙◌}
use Rattle.part_history.specs.declared.part.CorePart.{CorePart}
use Rattle.table_core.specs.declared.store.Table.{Table}
use Rattle.table_core.proofs.Ends.{part_inserted}
use Rattle.table_core.proofs.store.add_part.Goals as goal

pub returns-clause-ok : goal.returns-clause-ok
returns-clause-ok c =
    let placed : List CorePart → Table = λ parts. record { schema = c.args.table.now.schema; parts = parts; last = c.args.number } in
    let end = c.end_of-place.ensures in
    ap placed (c.in_ok-insert.ensures.ok ∙ part_inserted c.args.table.now.parts c.as_slice.result.now c.end_of-place.result c.args.part c.as_slice.ensures end.front end.back)
