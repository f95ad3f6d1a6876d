use Rattle.root_commits.proofs.CreateCommits.{create_idle}
use Rattle.root_commits.proofs.PartCommits.{part_idle}
use Rattle.root_commits.proofs.laws.commits_mark_nothing.Goals as goal

pub returns-clause-create : goal.returns-clause-create
returns-clause-create g c = λ session create entry was now sealed result d idle. create_idle session create entry was now sealed result d idle

pub returns-clause-part : goal.returns-clause-part
returns-clause-part g c = λ files_of a was now sealed result d idle. part_idle files_of a was now sealed result d idle
