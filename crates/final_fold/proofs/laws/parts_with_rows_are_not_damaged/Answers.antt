use Rattle.final_fold.proofs.Sound.{fold_sound, matches_sound}
use Rattle.final_fold.proofs.laws.parts_with_rows_are_not_damaged.Goals as goal

pub returns-clause-matches : goal.returns-clause-matches
returns-clause-matches g c = λ files_of w parts chosen rows e hold said why. matches_sound files_of w parts chosen rows hold said e why

pub returns-clause-fold : goal.returns-clause-fold
returns-clause-fold g c = λ files_of w parts chosen rows e hold said why. fold_sound files_of w parts chosen rows hold said e why
