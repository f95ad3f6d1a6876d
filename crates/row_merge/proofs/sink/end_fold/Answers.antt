use Rattle.std.proofs.Common.{List, subst, sym}
use Rattle.std.proofs.lemmas.Result.{on_ok_weaker}
use Rattle.mt_values.specs.Grid.{AreRowsOf}
use Rattle.mt_values.specs.Values.{Row}
use Rattle.row_merge.proofs.sink.end_fold.Goals as goal

pub give-requires-clause-typed : goal.give-requires-clause-typed
give-requires-clause-typed g c =
    let types = g.T.RowSink.types c.args.out.now in
    let p = c.requires.current in
    subst (AreRowsOf types) (sym c.deref.ensures.value) (c.in_ok-kept.ensures.typed p.pending types p.is.held p.is.taken p.is.typed)

pub returns-clause-leaves : goal.returns-clause-leaves
returns-clause-leaves g c = λ pending is.
    on_ok_weaker c.give.result
    (λ got. record {
      rows = c.in_ok-kept.kept.items;
      got = subst (λ (zs : List Row). g.T.RowSink.gets c.args.out.now zs c.give.new.out) c.deref.ensures.value got;
      leaves = c.in_ok-kept.ensures.leaves pending is.held is.taken;
    })
    c.give.ensures.gets

pub returns-clause-gets : goal.returns-clause-gets
returns-clause-gets g c = on_ok_weaker c.give.result (λ got. record { rows = c.deref.result.now; got = got }) c.give.ensures.gets
