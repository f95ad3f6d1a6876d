use Rattle.mt_outside.proofs.Changes.{image_more}
use Rattle.mt_outside.proofs.laws.images_only_grow.Goals as goal

pub returns : goal.returns
returns c = image_more
