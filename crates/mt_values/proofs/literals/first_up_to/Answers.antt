use Rattle.std.proofs.Common.{◌∙◌}
use Rattle.mt_values.specs.Cells.{value_of}
use Rattle.mt_values.proofs.Searches.{first_is}
use Rattle.mt_values.proofs.literals.first_up_to.Goals as goal

pub returns : goal.returns
returns c = c.is_up_to.ensures ∙ first_is c.args.ascending.now (value_of c.args.greatest) c.requires
