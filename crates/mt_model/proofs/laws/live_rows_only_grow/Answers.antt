use Rattle.mt_model.proofs.Histories.{live_grows}
use Rattle.mt_model.proofs.laws.live_rows_only_grow.Goals as goal

pub returns : goal.returns
returns c = λ table schema h more plain none. live_grows table schema h more none
