use Rattle.std.proofs.Common.{◌∙◌}
use Rattle.mt_values.specs.Cells.{value_of}
use Rattle.mt_values.proofs.Searches.{found_is}
use Rattle.mt_values.proofs.literals.found_within.Goals as goal

pub returns : goal.returns
returns c =
    c.is_up_to.ensures
    ∙ found_is c.args.ascending.now (value_of c.args.least) (value_of c.args.greatest) c.count_below.result c.requires c.count_below.ensures.front c.count_below.ensures.back
