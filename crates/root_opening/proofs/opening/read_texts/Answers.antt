use Rattle.std.proofs.Common.{subst}
use Rattle.root_opening.specs.Names.{TellsBad}
use Rattle.root_opening.proofs.Opened.{bad_told}
use Rattle.root_opening.proofs.opening.read_texts.Goals as goal

pub returns-in-Err-Bad-clause-damaged : goal.returns-in-Err-Bad-clause-damaged
returns-in-Err-Bad-clause-damaged c = λ told rise are.
    bad_told told c.args.texts.now c.in-Err-Bad.place c.bad_name-in-Err-Bad.result are (subst (TellsBad c.args.texts.now) c.in-Err-Bad.field-0-is c.in-Err-Bad.ensures.bad) c.bad_name-in-Err-Bad.ensures
