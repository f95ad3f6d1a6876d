use Rattle.std.proofs.Common.{IfOk, subst}
use Rattle.mt_program.proofs.RootStoreTableIndexes.{has_indexes}
use Rattle.mt_program.proofs.RootStoreTableMarks.{has_marks}
use Rattle.run_works.specs.Works.{MayBeMerged}
use Rattle.run_works.proofs.Root.put.Goals as goal

pub merge_parts-requires-clause-marks : goal.merge_parts-requires-clause-marks
merge_parts-requires-clause-marks c κs =
    let held = subst (λ r. IfOk r MayBeMerged) c.in_ok-work.was c.requires in
    has_marks c.in_ok-work.work.schema held.schema

pub merge_parts-requires-clause-indexes : goal.merge_parts-requires-clause-indexes
merge_parts-requires-clause-indexes c κs =
    let held = subst (λ r. IfOk r MayBeMerged) c.in_ok-work.was c.requires in
    has_indexes c.in_ok-work.work.schema held.schema
