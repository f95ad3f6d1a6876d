use Rattle.std.proofs.Common.{◌∙◌}
use Rattle.mt_values.specs.Cells.{value_of}
use Rattle.mt_values.proofs.Searches.{among_is}
use Rattle.mt_values.proofs.literals.Literals.has.Goals as goal

pub returns : goal.returns
returns c = c.any_within.ensures ∙ among_is c.args.self.now (value_of c.args.cell)
