use Rattle.std.proofs.Common.{◌∙◌, List, None, ap, sym}
use Rattle.root_commits.specs.part_reader.declared.reading.Part.{Part}
use Rattle.root_commits.specs.part_set.declared.kept.Kept.{Kept}
use Rattle.root_commits.specs.part_set.Runs.{parts_of_run}
use Rattle.root_commits.specs.Merges.{merging, name_of_merge, within_levels}
use Rattle.root_commits.specs.Turns.{root_of}
use Rattle.shared_store.proofs.Merging.{merges_by}
use Rattle.shared_store.proofs.work.merge_run.Goals as goal

-- it is committed under its name
pub returns-in-Some-clause-merges : goal.returns-in-Some-clause-merges
returns-in-Some-clause-merges g c = λ annals.
    let was = root_of c.args.store.now (g.D.Disk.told c.args.disk.now) (g.D.Disk.clock c.args.disk.now) (g.D.Disk.failed c.args.disk.now) annals in
    let new = c.commit_merge.new in
    let now = root_of new.store (g.D.Disk.told new.disk) (g.D.Disk.clock new.disk) (g.D.Disk.failed new.disk) annals in
    let part = c.args.part in
    merges_by g.D.Arm.Dir.Dir.files (merging c.args.table.now c.args.partition c.args.run part.sealed part.loaded) was now part c.commit_merge.result c.in-Some.name
    (ap (λ (ks : List (Kept (Part g.row.D-Arm-Dir.Denot))). within_levels (name_of_merge (parts_of_run c.args.run ks))) (sym c.parts_in-parts.ensures.parts) ∙ (sym c.merged_name.ensures ∙ c.in-Some.is)) (c.commit_merge.ensures.commits annals)

pub returns-in-Some-clause-ready : goal.returns-in-Some-clause-ready
returns-in-Some-clause-ready g c = (c.commit_merge.ensures.commits None).ready
