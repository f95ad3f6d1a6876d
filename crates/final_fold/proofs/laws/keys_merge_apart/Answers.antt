use Rattle.final_fold.proofs.KeyTests.{merged_apart, merged_within}
use Rattle.final_fold.proofs.laws.keys_merge_apart.Goals as goal

pub returns-clause-joined : goal.returns-clause-joined
returns-clause-joined c = λ schema test rows one two says first second. merged_apart schema test says rows one two first second

pub returns-clause-within : goal.returns-clause-within
returns-clause-within c = λ schema test rows out says merges. merged_within schema test says rows out merges
