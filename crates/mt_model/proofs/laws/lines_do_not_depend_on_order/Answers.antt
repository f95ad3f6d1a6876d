use Rattle.mt_model.proofs.Determined.{prints_once}
use Rattle.mt_model.proofs.laws.lines_do_not_depend_on_order.Goals as goal

pub returns : goal.returns
returns c = prints_once
