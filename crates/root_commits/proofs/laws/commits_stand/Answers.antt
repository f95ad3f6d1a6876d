use Rattle.root_commits.proofs.CreateCommits.{create_stands}
use Rattle.root_commits.proofs.MergeCommits.{merge_stands}
use Rattle.root_commits.proofs.PartCommits.{part_stands}
use Rattle.root_commits.proofs.laws.commits_stand.Goals as goal

pub returns-clause-create : goal.returns-clause-create
returns-clause-create g c = λ files_of session create entry was now sealed result d h stands. create_stands files_of session create entry was now sealed result d h stands

pub returns-clause-part : goal.returns-clause-part
returns-clause-part g c = λ files_of a was now sealed result d is h stands. part_stands files_of a was now is sealed result d h stands

pub returns-clause-merge : goal.returns-clause-merge
returns-clause-merge g c = λ files_of m name was now sealed result d t at h stands is. merge_stands files_of m name was now t at sealed result d h is stands
