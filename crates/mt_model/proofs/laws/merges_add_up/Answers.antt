use Rattle.mt_model.proofs.Merged.{partly_append, partly_folded, partly_itself, partly_on, partly_plain, partly_then_folded}
use Rattle.mt_model.proofs.laws.merges_add_up.Goals as goal

pub returns : goal.returns
returns c = record { none = partly_itself; again = partly_on; beside = partly_append; all = partly_folded; later = partly_then_folded; plain = partly_plain }
