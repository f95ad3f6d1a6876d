use Rattle.fault_plan.proofs.Choices.{image_reached}
use Rattle.fault_plan.proofs.laws.images_are_reached_by_choices.Goals as goal

pub returns : goal.returns
returns c = image_reached
