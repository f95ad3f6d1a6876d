use Rattle.mt_program.specs.session.shared_store.mutation_queue.declared.scope.Scope.TheVariants as scope
use Rattle.run_works.proofs.Taken.{may_be_merged, ok_there}
use Rattle.run_works.specs.Works.{MayBeMerged}
use Rattle.run_works.proofs.Root.take.Goals as goal

pub returns : goal.returns
returns c =
    let done = c.in_ok-found.ensures in
    ok_there MayBeMerged c.in_ok-found.found _ c.ok_or.result c.ok_or.ensures.value
    (may_be_merged scope.All c.args.self.now.engine c.take_merge.new.self c.in_ok-found.found done.goes_on done.takes)
