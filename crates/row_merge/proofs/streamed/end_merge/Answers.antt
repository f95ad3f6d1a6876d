use Rattle.std.proofs.Common.{◌++◌, List, subst, sym}
use Rattle.std.proofs.lemmas.Result.{on_ok_weaker}
use Rattle.mt_values.specs.Grid.{AreRowsOf}
use Rattle.mt_values.specs.Schemas.{column_types}
use Rattle.mt_values.specs.Values.{Row}
use Rattle.part_reader.specs.part_writer.Growing.{HasRows}
use Rattle.row_merge.proofs.streamed.end_merge.Goals as goal

pub append-requires-clause-typed : goal.append-requires-clause-typed
append-requires-clause-typed g c = λ κs within.
    let types = column_types c.args.out.now.grown.schema in
    let p = c.requires.current in
    subst (AreRowsOf types) (sym c.deref.ensures.value) (c.in_ok-kept.ensures.typed p.pending types p.is.held p.is.taken p.is.typed)

pub returns-clause-leaves : goal.returns-clause-leaves
returns-clause-leaves g c = λ done pending has is.
    on_ok_weaker c.append.result
    (λ h. record {
      kept = c.in_ok-kept.kept.items;
      has = subst (λ (zs : List Row). HasRows c.append.new.out (done ++ zs)) c.deref.ensures.value h;
      leaves = c.in_ok-kept.ensures.leaves pending is.held is.taken;
    })
    (c.append.ensures.rows done has)
