use Rattle.std.proofs.Common.{arith, subst, sym}
use Rattle.std.proofs.lemmas.Bool.Decides.{nat_tests}
use Rattle.mt_program.specs.session.mt_model.History.{IsTableSchema}
use Rattle.run_works.proofs.Taken.{snap_schema, some_there}
use Rattle.run_works.proofs.Root.middle.Goals as goal

pub returns : goal.returns
returns c =
    let seen = c.in_ok-found.ensures in
    let there = some_there c.in_ok-found.found _ c.ok_or.result c.in_ok-snap.snap c.ok_or.ensures.value c.in_ok-snap.was in
    let empty = c.if-is_empty.ensures in
    record {
      some = grind (arith, empty, nat_tests);
      schema = subst IsTableSchema (sym c.in_ok-schema.ensures)
          (snap_schema c.args.self.now.engine c.in_ok-table.table c.in_ok-found.found c.in_ok-snap.snap seen.open seen.snap there);
    }
