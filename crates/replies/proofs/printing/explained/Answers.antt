use Rattle.std.proofs.Common.{ap}
use Rattle.mt_model.specs.Refusals.{code_of}
use Rattle.replies.proofs.printing.explained.Goals as goal

-- what an EXPLAIN counts is no refusal
pub answer-requires : goal.answer-requires
answer-requires c = ap code_of c.in_ok-explain_line.ensures
