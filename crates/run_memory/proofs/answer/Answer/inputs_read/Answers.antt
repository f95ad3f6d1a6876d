use Rattle.mt_values.specs.Schemas.{column_types}
use Rattle.run_memory.proofs.answer.Answer.inputs_read.Goals as goal

pub loop-input-preserved : goal.loop-input-preserved
loop-input-preserved c = c.in-Ok.ensures (column_types c.args.schema.now) c.in_ok-block.ensures c.loop-input.invariant
