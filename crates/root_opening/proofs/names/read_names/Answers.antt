use Rattle.root_opening.proofs.FirstNames.{told_exact, told_rise}
use Rattle.root_opening.proofs.names.read_names.Goals as goal

pub returns-clause-rise : goal.returns-clause-rise
returns-clause-rise c = told_rise c.read_each.result (λ v. v.items) c.args.texts.now c.read_each.ensures.read

pub returns-clause-exact : goal.returns-clause-exact
returns-clause-exact c = told_exact c.read_each.result (λ v. v.items) c.args.texts.now c.read_each.ensures.read c.read_each.ensures.few c.read_each.ensures.bad
