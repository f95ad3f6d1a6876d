use Rattle.run_memory.proofs.Putting.{left_of}
use Rattle.run_memory.proofs.courses.left_of_run.Goals as goal

pub returns : goal.returns
returns c =
    left_of c.args.schema.now c.args.own.now c.run_of.result.now c.args.first c.args.count c.of.result c.in_ok-rows.rows.items c.run_of.ensures c.of.ensures c.in_ok-rows.ensures.merged
