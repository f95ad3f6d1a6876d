use Rattle.root_commits.proofs.CreateCommits.{create_images}
use Rattle.root_commits.proofs.MergeCommits.{merge_images}
use Rattle.root_commits.proofs.PartCommits.{part_images}
use Rattle.root_commits.proofs.laws.commits_leave_images.Goals as goal

pub returns-clause-create : goal.returns-clause-create
returns-clause-create g c = λ files_of session create entry was now sealed result d is h stands one. create_images files_of session create entry was now sealed result d is h stands one

pub returns-clause-part : goal.returns-clause-part
returns-clause-part g c = λ files_of a was now sealed result d is h stands one. part_images files_of a was now is sealed result d h stands one

pub returns-clause-merge : goal.returns-clause-merge
returns-clause-merge g c = λ files_of m name was now sealed result d t at h stands is one. merge_images files_of m name was now t at sealed result d h is stands one
