use Rattle.std.proofs.Common.{subst}
use Rattle.primary_marks.specs.Rising.{RiseByFirst}
use Rattle.primary_marks.proofs.marks.Marks.rise.Goals as goal

pub returns : goal.returns
returns c = λ h. subst RiseByFirst c.self.view_is (c.self.invariant.1 h)
