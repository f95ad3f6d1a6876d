use Rattle.run_shared.proofs.Written.{is_statement_text}
use Rattle.run_shared.proofs.say.Goals as goal

pub run_statement-requires-clause-written : goal.run_statement-requires-clause-written
run_statement-requires-clause-written g c κs within = is_statement_text c.args.text.now c.in-Found.statement _ c.in-Found.ensures.found.0
