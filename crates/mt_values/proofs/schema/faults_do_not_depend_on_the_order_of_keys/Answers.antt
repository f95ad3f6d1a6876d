use Rattle.mt_values.proofs.KeyOrders.{sound_in_any_order}
use Rattle.mt_values.proofs.schema.faults_do_not_depend_on_the_order_of_keys.Goals as goal

pub returns : goal.returns
returns c = sound_in_any_order
