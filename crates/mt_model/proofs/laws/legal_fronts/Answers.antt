use Rattle.mt_model.proofs.Histories.{legal_front, legal_push}
use Rattle.mt_model.proofs.laws.legal_fronts.Goals as goal

pub returns : goal.returns
returns c = record { front = legal_front; next = legal_push }
