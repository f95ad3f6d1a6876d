use Rattle.std.proofs.lemmas.Result.{on_ok_weaker}
use Rattle.row_merge.proofs.Written.{arm_only}
use Rattle.final_fold.proofs.ChosenParts.{chosen_parts}
use Rattle.final_fold.proofs.FoldedRuns.{fold_added}
use Rattle.final_fold.proofs.folding.fold_partition.Goals as goal

pub returns-clause-values : goal.returns-clause-values
returns-clause-values g c = λ partition rows holds parts skips.
    let old = c.args.found.now in
    let schema = old.wanted.schema.now in
    let chosen = c.args.chosen.now in
    on_ok_weaker c.merge_chosen.result (λ m. fold_added old c.merge_chosen.new.out c.requires.found c.requires.marks.granularity c.requires.table partition chosen rows parts skips m)
    (c.merge_chosen.ensures.merged partition rows holds (chosen_parts schema partition schema.granularity chosen rows parts))

pub returns-clause-arm : goal.returns-clause-arm
returns-clause-arm g c = arm_only c.merge_chosen.ensures.fails.leaves

pub returns-clause-damaged : goal.returns-clause-damaged
returns-clause-damaged g c = c.merge_chosen.ensures.fails.damaged
