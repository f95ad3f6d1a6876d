use Rattle.std.proofs.Common.{◌∙◌, ap₂}
use Rattle.mt_values.specs.Order.{value_cmp}
use Rattle.mt_values.proofs.order.cmp_value.Goals as goal

pub returns : goal.returns
returns c = c.cmp_cells.ensures ∙ ap₂ value_cmp c.of.ensures c.of-2.ensures
