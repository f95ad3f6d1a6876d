use Rattle.mt_outside.proofs.Crashes.{image_published}
use Rattle.mt_outside.proofs.laws.publishes_add_one_name.Goals as goal

pub returns : goal.returns
returns c = image_published
