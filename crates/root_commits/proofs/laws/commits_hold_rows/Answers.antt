use Rattle.root_commits.proofs.CreateCommits.{create_held}
use Rattle.root_commits.proofs.MergeCommits.{merge_held}
use Rattle.root_commits.proofs.PartCommits.{part_held}
use Rattle.root_commits.proofs.laws.commits_hold_rows.Goals as goal

pub returns-clause-create : goal.returns-clause-create
returns-clause-create g c = λ files_of session create entry was now sealed result d held. create_held files_of session create entry was now sealed result d held

pub returns-clause-part : goal.returns-clause-part
returns-clause-part g c = λ files_of a was now sealed result d is held. part_held files_of a was now is sealed result d held

pub returns-clause-merge : goal.returns-clause-merge
returns-clause-merge g c = λ files_of m name was now sealed result d t at is held. merge_held files_of m name was now sealed t at is result d held
