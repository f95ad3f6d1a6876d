use Rattle.mt_model.proofs.OwnColumns.{partition_own, primary_own, sorting_own}
use Rattle.mt_model.proofs.laws.columns_of_tables_are_their_own.Goals as goal

pub returns : goal.returns
returns c = record { sorting = sorting_own; primary = primary_own; indexes = λ schema table. table.indexed; partition = partition_own }
