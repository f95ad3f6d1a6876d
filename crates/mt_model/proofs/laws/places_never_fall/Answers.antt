use Rattle.mt_model.proofs.Places.{run_places}
use Rattle.mt_model.proofs.laws.places_never_fall.Goals as goal

pub returns : goal.returns
returns c = run_places
