use Rattle.fault_plan.proofs.Images.{started_again}
use Rattle.fault_plan.proofs.laws.images_are_started_again.Goals as goal

pub returns : goal.returns
returns c = started_again
