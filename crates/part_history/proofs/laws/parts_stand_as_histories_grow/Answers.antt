use Rattle.mt_values.specs.declared.command.Command.TheVariants as command
use Rattle.part_history.proofs.Growing.{table_altered, table_entered, table_kept}
use Rattle.part_history.proofs.Ordered.{order_grown, parts_parted}
use Rattle.std.proofs.Common.{refl}
use Rattle.part_history.proofs.laws.parts_stand_as_histories_grow.Goals as goal

pub returns : goal.returns
returns c = record {
  other = λ h more table parts none stands. table_kept table parts h more none stands;
  mutation = λ h session a parts stands. table_altered h (record { session = session; command = command.Alter a }) a parts refl stands;
  insert = λ h session i schema front back there stands. table_entered h (record { session = session; command = command.Insert i }) i schema refl there front back stands;
  order = λ h i schema parts legal may stands order. order_grown h i schema parts stands order;
  others = parts_parted;
}
