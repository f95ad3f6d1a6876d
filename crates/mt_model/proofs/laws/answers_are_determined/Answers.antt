use Rattle.mt_model.proofs.Determined.{answers_once}
use Rattle.mt_model.proofs.laws.answers_are_determined.Goals as goal

pub returns : goal.returns
returns c = answers_once
