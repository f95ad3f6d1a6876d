use Rattle.std.proofs.Common.{◌∙◌, ap}
use Rattle.std.specs.List.{range_with_len}
use Rattle.row_merge.proofs.chosen.columns_of.Goals as goal

pub returns-clause-columns : goal.returns-clause-columns
returns-clause-columns c = c.in_ok-columns.ensures ∙ ap (range_with_len 0) c.len.ensures
