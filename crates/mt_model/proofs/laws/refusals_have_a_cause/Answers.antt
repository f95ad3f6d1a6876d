use Rattle.mt_model.proofs.Causes.{refused_by_cause}
use Rattle.mt_model.proofs.Unrefused.{none_refused}
use Rattle.mt_model.proofs.laws.refusals_have_a_cause.Goals as goal

pub returns-clause-one : goal.returns-clause-one
returns-clause-one c = refused_by_cause

pub returns-clause-script : goal.returns-clause-script
returns-clause-script c = none_refused
