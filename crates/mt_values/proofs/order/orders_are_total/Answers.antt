use Rattle.std.proofs.lemmas.Cmp.{on_total, lists_total}
use Rattle.mt_values.specs.Order.{key_of}
use Rattle.mt_values.specs.Tables.{sorting_columns}
use Rattle.mt_values.proofs.Orders.{value_total}
use Rattle.mt_values.proofs.order.orders_are_total.Goals as goal

pub returns : goal.returns
returns c = record {
  values = value_total;
  keys = λ places. on_total (key_of places) (lists_total value_total);
  tables = λ schema. on_total (key_of (sorting_columns schema)) (lists_total value_total);
  rows = lists_total value_total;
}
