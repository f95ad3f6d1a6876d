use Rattle.mt_model.proofs.Ranges.{inserted_few, inserted_signed, inserted_typed, inserted_values}
use Rattle.mt_model.proofs.laws.rows_are_of_their_table.Goals as goal

pub returns : goal.returns
returns c = record { types = inserted_typed; values = inserted_values; signs = inserted_signed; few = inserted_few }
