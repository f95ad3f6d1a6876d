use Rattle.std.proofs.Common.{◌≡◌, ◌∙◌, ◌+◌, ◌<◌, List, All, ap, ap₂, arith, length, map, subst, sym}
use Rattle.std.specs.List.{range_with_len}
use Rattle.std.proofs.lemmas.List.FromFn.{length-range_with_len}
use Rattle.mt_outside.proofs.LeftArms.{arm_calm, arm_same}
use Rattle.mt_values.specs.Grid.{Cells}
use Rattle.mt_values.specs.Values.{Row}
use Rattle.row_merge.specs.part_reader.Parts.{with_columns}
use Rattle.row_merge.specs.part_reader.Sieves.{AddsNextMet, asking_of}
use Rattle.row_merge.proofs.PartReaderGaining.{handed_on}
use Rattle.row_merge.proofs.PartReaderHolding.{holds_at}
use Rattle.row_merge.proofs.PartReaderMetLeft.{added_fewer}
use Rattle.final_fold.specs.Asked.{sifting_of_task}
use Rattle.final_fold.specs.Matches.{ExplainsAsked}
use Rattle.final_fold.proofs.Added.{added_all, added_explained, added_more, added_none, chosen_few, places_typed}
use Rattle.final_fold.proofs.Explained.{part_said}
use Rattle.final_fold.proofs.Passing.{met_whole}
use Rattle.final_fold.proofs.Scanning.{have_many}
use Rattle.final_fold.proofs.adding.add_part.Goals as goal

pub new-requires-clause-asked : goal.new-requires-clause-asked
new-requires-clause-asked g c κs within =
    let schema = c.args.task.now.wanted.schema.now in
    subst (λ ps. All (λ place. place < length schema.columns) ps) (sym c.as_slice.ensures.value) c.requires.task.plan.within

pub new-requires-clause-wanted : goal.new-requires-clause-wanted
new-requires-clause-wanted g c κs within = c.requires.task.wanted.places

pub granules-init : goal.granules-init
granules-init g c =
    let task = c.args.task.now in
    let whole = sifting_of_task task in
    let is : c.in-Ok.reader ≡ whole =
    c.in-Ok.ensures ∙ ap₂ (λ ps ss. record whole { asked = ps; asking = asking_of ss }) c.as_slice.ensures.value c.as_slice-2.ensures.value in
    record {
      added = added_none g.R.Dir.Dir.files whole c.args.columns.now c.in-Ok.reader is (have_many task.wanted.schema.now task.wanted.places.now c.args.columns.now c.requires.task.wanted.places c.requires.columns);
      arm = arm_same c.args.arm.now;
    }

pub add_next-requires-clause-columns : goal.add_next-requires-clause-columns
add_next-requires-clause-columns g c κs within =
    places_typed g.R.Dir.Dir.files (sifting_of_task c.args.task.now) c.args.columns.now c.granules.reader c.granules.columns c.granules.count c.granules.invariant.added c.requires.columns

-- what a fault says
pub returns-in_err-added-clause-damaged : goal.returns-in_err-added-clause-damaged
returns-in_err-added-clause-damaged g c =
    let task = c.args.task.now in
    let part = task.part.now in
    let chosen = task.chosen.now in
    let wanted = task.wanted in
    let fault = c.in_err-added.field-0.0 in
    let files = g.R.Dir.Dir.files in
    handed_on (ExplainsAsked files part chosen wanted) c.from_residual.result fault c.from_residual.ensures.1
    (part_said files part chosen wanted task.plan.now.asked.items fault c.requires.task.plan.asked
    (added_explained files (sifting_of_task task) c.args.columns.now c.granules.reader c.granules.columns c.granules.count c.granules.invariant.added fault c.in_err-added.ensures.damaged))

-- a granule more
pub granules-smaller : goal.granules-smaller
granules-smaller g c =
    let files = g.R.Dir.Dir.files in
    let adds = subst (AddsNextMet files c.granules.reader c.add_next.new.self c.granules.columns c.add_next.new.columns) c.in-Some.is c.in_ok-added.ensures.adds in
    added_fewer files c.granules.reader c.add_next.new.self c.granules.columns c.add_next.new.columns c.in-Some.added adds

pub granules-preserved : goal.granules-preserved
granules-preserved g c =
    let files = g.R.Dir.Dir.files in
    let adds = subst (AddsNextMet files c.granules.reader c.add_next.new.self c.granules.columns c.add_next.new.columns) c.in-Some.is c.in_ok-added.ensures.adds in
    record {
      added = added_more files (sifting_of_task c.args.task.now) c.args.columns.now c.granules.reader c.granules.columns c.granules.count c.granules.invariant.added c.add_next.new.self c.add_next.new.columns c.in-Some.added c.in-Some-join_counts.sum adds
          c.in-Some-join_counts.ensures.sum;
      arm = arm_calm c.granules.invariant.arm (λ none. none) c.in_ok-added.ensures.arm (λ fault. cc);
    }

-- all are added
pub returns-clause-values : goal.returns-clause-values
returns-clause-values g c = λ rows holds sure.
    let files = g.R.Dir.Dir.files in
    let task = c.args.task.now in
    let w = task.wanted in
    let whole = sifting_of_task task in
    let left = subst (AddsNextMet files c.granules.reader c.add_next.new.self c.granules.columns c.add_next.new.columns) c.in_default-2.is c.in_ok-added.ensures.adds in
    let asked = holds_at files w.schema.now task.part.now rows task.plan.now.asked.items holds c.requires.task.plan.within in
    let wanted = holds_at files w.schema.now task.part.now rows w.places.now holds c.requires.task.wanted.places in
    let all = added_all files whole c.args.columns.now c.granules.reader c.granules.columns c.granules.count c.granules.invariant.added left.2 rows asked wanted in
    left.1 ∙ all.0 ∙ ap (λ (rs : List Row). with_columns rs w.places.now c.args.columns.now) (met_whole files task c.requires.task rows holds sure)

pub returns-clause-counted : goal.returns-clause-counted
returns-clause-counted g c = λ rows holds sure.
    let files = g.R.Dir.Dir.files in
    let task = c.args.task.now in
    let w = task.wanted in
    let whole = sifting_of_task task in
    let left = subst (AddsNextMet files c.granules.reader c.add_next.new.self c.granules.columns c.add_next.new.columns) c.in_default-2.is c.in_ok-added.ensures.adds in
    let asked = holds_at files w.schema.now task.part.now rows task.plan.now.asked.items holds c.requires.task.plan.within in
    let wanted = holds_at files w.schema.now task.part.now rows w.places.now holds c.requires.task.wanted.places in
    let all = added_all files whole c.args.columns.now c.granules.reader c.granules.columns c.granules.count c.granules.invariant.added left.2 rows asked wanted in
    all.1 ∙ ap length (met_whole files task c.requires.task rows holds sure)

pub returns-clause-even : goal.returns-clause-even
returns-clause-even g c = λ n even.
    let files = g.R.Dir.Dir.files in
    let left = subst (AddsNextMet files c.granules.reader c.add_next.new.self c.granules.columns c.add_next.new.columns) c.in_default-2.is c.in_ok-added.ensures.adds in
    subst (λ (cs : List Cells). All (λ (x : Cells). length x.values ≡ n + c.granules.count) cs) (sym left.1) (c.granules.invariant.added.even n even)

pub returns-clause-types : goal.returns-clause-types
returns-clause-types g c =
    let files = g.R.Dir.Dir.files in
    let left = subst (AddsNextMet files c.granules.reader c.add_next.new.self c.granules.columns c.add_next.new.columns) c.in_default-2.is c.in_ok-added.ensures.adds in
    ap (map (λ (x : Cells). x.col_type)) left.1 ∙ c.granules.invariant.added.types

pub returns-clause-few : goal.returns-clause-few
returns-clause-few g c =
    let loaded = c.args.task.now.part.now.loaded in
    omega (arith, c.granules.invariant.added.within, chosen_few loaded.schema.granularity c.args.task.now.chosen.now (range_with_len 0 loaded.manifest.rows), length-range_with_len 0 loaded.manifest.rows)
