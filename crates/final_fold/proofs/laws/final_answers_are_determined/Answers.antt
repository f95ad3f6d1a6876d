use Rattle.final_fold.proofs.FoldedOnce.{key_once, lines_once, rows_once}
use Rattle.final_fold.proofs.laws.final_answers_are_determined.Goals as goal

pub returns-clause-key : goal.returns-clause-key
returns-clause-key c = key_once

pub returns-clause-rows : goal.returns-clause-rows
returns-clause-rows c = rows_once

pub returns-clause-lines : goal.returns-clause-lines
returns-clause-lines c = lines_once
