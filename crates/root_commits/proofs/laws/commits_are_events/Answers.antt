use Rattle.root_commits.proofs.Accepted.{shows_same}
use Rattle.root_commits.proofs.CreateCommits.{create_event}
use Rattle.root_commits.proofs.MergeCommits.{merge_event}
use Rattle.root_commits.proofs.PartCommits.{part_event}
use Rattle.root_commits.proofs.laws.commits_are_events.Goals as goal

pub returns-clause-create : goal.returns-clause-create
returns-clause-create g c = λ files_of session create entry was now sealed result d core shows. create_event files_of session create entry was now sealed result d core shows

pub returns-clause-part : goal.returns-clause-part
returns-clause-part g c = λ files_of a was now sealed result d is core shows. part_event files_of a was now is sealed result d core shows

pub returns-clause-merge : goal.returns-clause-merge
returns-clause-merge g c = λ files_of m name was now sealed result d t at core shows is. merge_event files_of m name was now t at sealed result d core is shows

pub returns-clause-refused : goal.returns-clause-refused
returns-clause-refused g c = λ files_of core old new same shows. shows_same files_of core old new same shows
