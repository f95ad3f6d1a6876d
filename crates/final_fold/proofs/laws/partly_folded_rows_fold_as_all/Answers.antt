use Rattle.final_fold.proofs.FoldedAll.{partly_folds}
use Rattle.final_fold.proofs.laws.partly_folded_rows_fold_as_all.Goals as goal

pub returns : goal.returns
returns c = partly_folds
