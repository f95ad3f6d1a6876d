use Rattle.mt_values.proofs.Searches.{searched_none}
use Rattle.mt_values.proofs.literals.ascending.Goals as goal

pub returns : goal.returns
returns c = searched_none c.args.listed.now c.new.result.items c.new.ensures.items
