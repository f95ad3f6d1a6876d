use Rattle.std.proofs.Common.{◌∙◌, sym}
use Rattle.std.proofs.lemmas.Bool.{false≢true}
use Rattle.mt_values.proofs.testing.is_sought.Goals as goal

pub returns-then-is_equal : goal.returns-then-is_equal
returns-then-is_equal c = λ _. sym c.is_equal.ensures ∙ c.if-is_equal.true

pub returns : goal.returns
returns c = λ no. absurd (false≢true no)
