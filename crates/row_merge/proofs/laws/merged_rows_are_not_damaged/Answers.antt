use Rattle.row_merge.proofs.Sound.{merge_sound}
use Rattle.row_merge.proofs.laws.merged_rows_are_not_damaged.Goals as goal

pub returns : goal.returns
returns g c = λ files_of schema parts rows e hold why. merge_sound files_of schema parts rows hold e why
