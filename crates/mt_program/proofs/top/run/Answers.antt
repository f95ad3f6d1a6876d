use Rattle.std.proofs.Common.{◌∙◌, inl, inr, sym}
use Rattle.command_line.specs.Words.{said}
use Rattle.mt_program.proofs.Promising.{not_some, promised, unread}
use Rattle.mt_program.proofs.top.run.Goals as goal

-- the run ended at its words
pub returns-in-Err-clause-promises : goal.returns-in-Err-clause-promises
returns-in-Err-clause-promises g c = unread c.args.words.now c.in-Err.early c.in-Err.ensures.status _ c.number-status.result c.number-status.ensures

-- what was run is all that is promised
pub returns-clause-promises : goal.returns-clause-promises
returns-clause-promises g c =
    promised c.args.words.now (said c.in-Ok.line) c.in-Ok.ensures.line _ _ c.run_opened-end.result.end c.run_opened-end.ensures.run c.number-status-2.result c.number-status-2.ensures

pub returns-clause-untouched : goal.returns-clause-untouched
returns-clause-untouched g c = λ cause. elim cause [
  | inl none ↦ absurd (not_some (said c.in-Ok.line) (sym c.in-Ok.ensures.line ∙ none))
  | inr full ↦ c.run_opened-end.ensures.full full
]
