use Rattle.std.proofs.Common.{◌∙◌, List, length, sym, ap, arith}
use Rattle.row_merge.specs.MergedParts.{ExplainsMerge}
use Rattle.row_merge.proofs.Sound.{merge_sound}
use Rattle.shared_store.specs.part_reader.declared.reading.Part.{Part}
use Rattle.shared_store.specs.part_set.declared.kept.Kept.{Kept}
use Rattle.shared_store.proofs.RootStoreTableIndexes.{has_indexes}
use Rattle.shared_store.proofs.RootStoreTableMarks.{has_marks}
use Rattle.merge_workers.proofs.Returning.{arm_then, no_fault, rows_of}
use Rattle.merge_workers.proofs.Sealing.{may_put}
use Rattle.merge_workers.proofs.carrying.carry_out.Goals as goal

pub merge_parts-requires-clause-some : goal.merge_parts-requires-clause-some
merge_parts-requires-clause-some g c κs within =
    let some = c.taken-taken.ensures.facts.some in
    let same = ap (λ (ks : List (Kept (Part _))). length ks) (c.as_slice.ensures.value ∙ ap (λ w. w.sources.items) c.taken-taken.ensures.value) in
    omega (arith, some, same)

pub merge_parts-requires-clause-schema : goal.merge_parts-requires-clause-schema
merge_parts-requires-clause-schema g c κs within = rw (c.taken-taken.ensures.value) c.taken-taken.ensures.facts.schema

pub merge_parts-requires-clause-marks : goal.merge_parts-requires-clause-marks
merge_parts-requires-clause-marks g c κs within = rw (c.taken-taken.ensures.value) (has_marks _ c.taken-taken.ensures.facts.schema)

pub merge_parts-requires-clause-indexes : goal.merge_parts-requires-clause-indexes
merge_parts-requires-clause-indexes g c κs within = rw (c.taken-taken.ensures.value) (has_indexes _ c.taken-taken.ensures.facts.schema)

-- what was sealed is of the work's parts
pub put_part-requires-clause-may : goal.put_part-requires-clause-may
put_part-requires-clause-may g c κs within =
    let work = c.args.work.taken in
    let same = c.as_slice.ensures.value ∙ ap (λ w. w.sources.items) c.taken-taken.ensures.value in
    let schema = ap (λ w. w.schema) c.taken-taken.ensures.value in
    may_put g.F.Dir.files g.B.Names.given g.B.Room.before g.B.Names.opening c.args.work.note.list work c.taken-taken.ensures.facts c.in-Ok.part.sealed c.in-Ok.part.loaded
    (λ told.
    let known = c.requires.tells told in
    record {
      holds = rw (sym schema) (c.in-Ok.ensures.holds known);
      merged = λ inputs held rows. rw (sym schema) (c.in-Ok.ensures.sealed known work.partition inputs (rw (same, schema) held) (rw (schema) rows));
    })

pub returns-in-Ok-clause-arm : goal.returns-in-Ok-clause-arm
returns-in-Ok-clause-arm g c = arm_then g.R.Arm c.args.arm.now c.merge_parts.new.arm c.put_part.new.arm _ _ c.in-Ok.ensures.fails.leaves (λ no. absurd no) c.put_part.ensures.arm (no_fault c.put_part.result c.put_part.ensures.read)

-- its parts were not read, or nothing was sealed
pub returns-in-Err-clause-explained : goal.returns-in-Err-clause-explained
returns-in-Err-clause-explained g c =
    let same = c.as_slice.ensures.value ∙ ap (λ w. w.sources.items) c.taken-taken.ensures.value in
    let schema = ap (λ w. w.schema) c.taken-taken.ensures.value in
    rw (sym same, sym schema) c.in-Err.ensures.fails.damaged

pub returns-in-Err-clause-sound : goal.returns-in-Err-clause-sound
returns-in-Err-clause-sound g c = λ told held.
    let work = c.args.work.taken in
    let rows = rows_of g.F.Dir.files work.schema work.sources.items (c.taken-taken.ensures.facts.held told held) in
    let same = c.as_slice.ensures.value ∙ ap (λ w. w.sources.items) c.taken-taken.ensures.value in
    let schema = ap (λ w. w.schema) c.taken-taken.ensures.value in
    let explained : ExplainsMerge g.F.Dir.files work.schema work.sources.items (c.in-Err.part, c.in-Err.fault) = rw (sym same, sym schema) c.in-Err.ensures.fails.damaged in
    merge_sound g.F.Dir.files work.schema work.sources.items rows.0 rows.1 (c.in-Err.part, c.in-Err.fault) explained

pub returns-in-Err-clause-arm : goal.returns-in-Err-clause-arm
returns-in-Err-clause-arm g c = c.in-Err.ensures.fails.leaves
