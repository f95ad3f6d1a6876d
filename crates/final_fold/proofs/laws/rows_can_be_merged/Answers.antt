use Rattle.final_fold.proofs.KeyTests.{merged_sources}
use Rattle.final_fold.proofs.MergedRows.{merges_exist}
use Rattle.final_fold.proofs.laws.rows_can_be_merged.Goals as goal

pub returns-clause-merged : goal.returns-clause-merged
returns-clause-merged c = λ schema rows table own. merges_exist schema table rows own

pub returns-clause-sources : goal.returns-clause-sources
returns-clause-sources c = merged_sources
