use Rattle.run_shared.proofs.Written.{is_statement_text}
use Rattle.run_shared.proofs.read_text.Goals as goal

pub returns-in-Found : goal.returns-in-Found
returns-in-Found c = is_statement_text c.args.text.now c.in-Found.statement _ c.in-Found.ensures.found.0
