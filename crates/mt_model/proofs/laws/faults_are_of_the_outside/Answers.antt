use Rattle.mt_model.proofs.Causes.{outside_rose, still_calm, told_of_script, never_damaged}
use Rattle.mt_model.proofs.laws.faults_are_of_the_outside.Goals as goal

pub returns : goal.returns
returns c = record { risen = outside_rose; still = still_calm; calm = told_of_script; undamaged = never_damaged }
