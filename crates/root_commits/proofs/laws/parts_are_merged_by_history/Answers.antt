use Rattle.root_commits.proofs.MergedStores.{sealed_by_parts}
use Rattle.root_commits.proofs.laws.parts_are_merged_by_history.Goals as goal

pub returns : goal.returns
returns g c = λ files_of store m t at run is h stands. sealed_by_parts files_of store m t at run is h stands
