use Rattle.final_fold.proofs.FreeChoices.{key_alternating, key_collapsing, key_signs, key_sums, key_versions}
use Rattle.final_fold.proofs.laws.final_answers_differ_in_free_choices.Goals as goal

pub returns-clause-sums : goal.returns-clause-sums
returns-clause-sums c = λ schema places live a b partition row. key_sums schema live partition row places a b

pub returns-clause-signs : goal.returns-clause-signs
returns-clause-signs c = λ schema sign version live a b partition row. key_signs schema live partition row sign version a b

pub returns-clause-versioned : goal.returns-clause-versioned
returns-clause-versioned c = λ schema sign version live out partition row. key_versions schema live partition row sign version out

pub returns-clause-collapsing : goal.returns-clause-collapsing
returns-clause-collapsing c = λ schema sign live out partition row. key_collapsing schema live partition row sign out

pub returns-clause-alternating : goal.returns-clause-alternating
returns-clause-alternating c = λ schema sign live out partition row. key_alternating schema live partition row sign out
