use Rattle.root_commits.proofs.CreateCommits.{create_crashes}
use Rattle.root_commits.proofs.MergeCommits.{merge_crashes}
use Rattle.root_commits.proofs.PartCommits.{part_crashes}
use Rattle.root_commits.proofs.laws.commits_keep_through_crashes.Goals as goal

pub returns-clause-create : goal.returns-clause-create
returns-clause-create g c = λ files_of session create entry was now sealed result d is first start keeps. create_crashes files_of session create entry was now sealed result d is first start keeps

pub returns-clause-part : goal.returns-clause-part
returns-clause-part g c = λ files_of a was now sealed result d is first start keeps. part_crashes files_of a was now is sealed result d first start keeps

pub returns-clause-merge : goal.returns-clause-merge
returns-clause-merge g c = λ files_of m name was now sealed result d t at is first start keeps. merge_crashes files_of m name was now t at sealed result d is first start keeps
