use Rattle.fault_plan.proofs.Images.{image_again}
use Rattle.fault_plan.proofs.laws.images_of_an_image_are_images.Goals as goal

pub returns : goal.returns
returns c = image_again
