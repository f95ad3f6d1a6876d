use Rattle.std.specs.FinMap.{slice_cmp-IsAntisymmetric}
use Rattle.mt_values.proofs.Orders.{value_exact}
use Rattle.mt_values.proofs.order.orders_are_exact.Goals as goal

pub returns : goal.returns
returns c = record { values = value_exact; rows = slice_cmp-IsAntisymmetric value_exact }
