use Rattle.std.proofs.Common.{refl}
use Rattle.mt_model.proofs.Refused.{code_of_line}
use Rattle.mt_model.proofs.laws.refusals_have_numbers.Goals as goal

pub returns : goal.returns
returns c = record { refusals = code_of_line; accepted = λ h. refl; answers = λ lines h. refl; explained = λ n h. refl }
