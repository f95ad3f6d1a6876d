use Rattle.std.proofs.Common.{◌≡◌, ◌+◌, ◌-◌, ◌∙◌, [], All, List, ap, ap₂, arith, drop, length, length-drop, subst, sym, take}
use Rattle.std.proofs.lemmas.List.{take_all}
use Rattle.mt_base.specs.declared.partition.Partition.{Partition}
use Rattle.mt_outside.proofs.LeftArms.{arm_calm, arm_same}
use Rattle.mt_values.specs.Values.{Row}
use Rattle.row_merge.specs.mt_model.History.{IsTableSchema}
use Rattle.row_merge.specs.part_reader.declared.reading.Part.{Part}
use Rattle.row_merge.specs.part_reader.Parts.{PartHolds}
use Rattle.row_merge.proofs.PartReaderGaining.{handed_on}
use Rattle.row_merge.specs.part_set.declared.kept.Kept.{Kept}
use Rattle.row_merge.specs.primary_marks.Keys.{HasMarks}
use Rattle.row_merge.specs.Merged.{ArePartRows}
use Rattle.row_merge.specs.MergedParts.{PartsHold}
use Rattle.final_fold.specs.declared.asking.Wanted.{Wanted}
use Rattle.final_fold.specs.Folded.{ExplainsFold, IsFolded, SkipNoFold, SkipsNoFold, count_in}
use Rattle.final_fold.specs.Founds.{AddsFold}
use Rattle.final_fold.specs.Scans.{joined_rows}
use Rattle.final_fold.proofs.FoldedRuns.{fold_none, run_added, run_explained, run_new, run_parts, run_some, run_within}
use Rattle.final_fold.proofs.FoundRows.{gets_no_match, gets_then}
use Rattle.final_fold.proofs.PartitionRuns.{IsNew, zip_drop, zip_many, zip_take}
use Rattle.final_fold.proofs.folding.fold_partitions.Goals as goal
use Rattle.final_fold.proofs.folding.fold_partitions.Goals.{After-count_in}
use Rattle.final_fold.proofs.folding.fold_partitions.Given.{Over}

-- how many parts are of the partition
counted : (g : Over) (c : After-count_in g) → c.count_in.result ≡ count_in c.index-parts-at.result.name.partition (drop c.loop-at.at c.args.parts.now)
counted g c =
    let parts = c.args.parts.now in
    let at = c.loop-at.at in
    let first = c.index-parts-at.result in
    c.count_in.ensures
    ∙ ap₂ (count_in {F = g.row.R-Dir.Denot}) (ap (λ (k : Kept (Part g.row.R-Dir.Denot)). k.name.partition) (sym c.index-parts-at.is)) (take_all (length parts - at) (drop at parts) (omega (arith, length-drop at parts)))

pub loop-at-init : goal.loop-at-init
loop-at-init g c =
    let found = c.args.found.now in
    let w = found.wanted in
    record {
      values = λ rows order holds own skips none. subst (IsFolded w [] found.columns.items) (sym none.counted) (fold_none w found.columns.items none.values);
      gets = gets_no_match found c.requires.found;
      new = λ order i d before inside. absurd (omega (arith, before));
      within = omega arith;
      arm = arm_same c.args.arm.now;
    }

-- what is wanted stays
pub fold_partition-requires-clause-table : goal.fold_partition-requires-clause-table
fold_partition-requires-clause-table g c = λ κs within. subst (λ (v : Wanted). IsTableSchema v.schema.now) (sym c.loop-at.invariant.gets.got.wanted_is) c.requires.table

pub fold_partition-requires-clause-marks : goal.fold_partition-requires-clause-marks
fold_partition-requires-clause-marks g c = λ κs within. subst (λ (v : Wanted). HasMarks v.schema.now) (sym c.loop-at.invariant.gets.got.wanted_is) c.requires.marks

pub fold_partition-requires-clause-found : goal.fold_partition-requires-clause-found
fold_partition-requires-clause-found g c = λ κs within. c.loop-at.invariant.gets.got.found

pub returns-in_err-fold_partition-clause-damaged : goal.returns-in_err-fold_partition-clause-damaged
returns-in_err-fold_partition-clause-damaged g c =
    let files = g.R.Dir.Dir.files in
    let parts = c.args.parts.now in
    let chosen = c.args.chosen.now in
    let w = c.args.found.now.wanted in
    let at = c.loop-at.at in
    let n = at + c.count_in.result - at in
    let e = c.in_err-fold_partition.field-0.0 in
    handed_on (ExplainsFold files parts chosen w) c.from_residual.result e c.from_residual.ensures.1
    (run_explained files parts chosen w at n e
    (subst (λ (v : Wanted). ExplainsFold files (take n (drop at parts)) (take n (drop at chosen)) v e) c.loop-at.invariant.gets.got.wanted_is c.in_err-fold_partition.ensures.damaged))

pub loop-at-smaller : goal.loop-at-smaller
loop-at-smaller g c =
    let d = (goal.at.loop-at-smaller g c).After-count_in in
    let some = run_some c.args.parts.now c.loop-at.at c.index-parts-at.result c.index-parts-at.is c.loop-at-test.true in
    let within = run_within c.args.parts.now c.loop-at.at c.index-parts-at.result c.index-parts-at.is c.loop-at-test.true in
    omega (arith, some, within, counted g d, c.loop-at-test.true)

pub loop-at-preserved : goal.loop-at-preserved
loop-at-preserved g c =
    let files = g.R.Dir.Dir.files in
    let w = c.args.found.now.wanted in
    let parts = c.args.parts.now in
    let chosen = c.args.chosen.now in
    let at = c.loop-at.at in
    let first = c.index-parts-at.result in
    let below = c.loop-at-test.true in
    let old = c.loop-at.found in
    let new = c.fold_partition.new.found in
    let before = c.loop-at.invariant in
    let d = (goal.at.loop-at-preserved g c).After-count_in in
    let many = counted g d in
    let n = at + c.count_in.result - at in
    let size : n ≡ count_in first.name.partition (drop at parts) = omega (arith, many) in
    let e = c.in_ok-fold_partition.ensures in
    let Says : Wanted → Type 0 = λ (v : Wanted). (partition : Partition) (rows : List (List Row)) → PartsHold files v.schema.now (take n (drop at parts)) rows → All (ArePartRows v.schema.now partition) rows
    → SkipNoFold v (take n (drop at chosen)) rows → AddsFold v (joined_rows rows) old new in
    let says : (partition : Partition) (rows : List (List Row)) → PartsHold files w.schema.now (take n (drop at parts)) rows → All (ArePartRows w.schema.now partition) rows
    → SkipNoFold w (take n (drop at chosen)) rows → AddsFold w (joined_rows rows) old new = subst Says before.gets.got.wanted_is e.values in
    record {
      values = λ rows order holds own skips none.
          let group = take n (drop at rows) in
          let these = subst (λ k. All (ArePartRows w.schema.now first.name.partition) (take k (drop at rows))) (sym size) (run_parts parts at first c.index-parts-at.is below w rows own) in
          let this : AddsFold w (joined_rows group) old new =
          says first.name.partition group
          (zip_take (λ k r. PartHolds files w.schema.now k.part r) n (drop at parts) (drop at rows) (zip_drop (λ k r. PartHolds files w.schema.now k.part r) at parts rows holds)) these
          (zip_take (SkipsNoFold w) n (drop at chosen) (drop at rows) (zip_drop (SkipsNoFold w) at chosen rows skips)) in
          let all = run_added parts at first c.index-parts-at.is below w rows own old new (before.new order) (before.values rows order holds own skips none)
          (subst (λ k. AddsFold w (joined_rows (take k (drop at rows))) old new) size this) in
          subst (λ k. IsFolded w (joined_rows (take (at + k) rows)) new.columns.items new.count) (sym many) all;
      gets = gets_then c.args.found.now old new before.gets e.gets;
      new = λ order. subst (λ k. IsNew parts (at + k)) (sym many) (run_new parts at first c.index-parts-at.is below order (before.new order));
      within = omega (arith, many, run_within parts at first c.index-parts-at.is below);
      arm = arm_calm before.arm (λ none. none) e.arm (λ fault. fault);
    }

pub returns-clause-values : goal.returns-clause-values
returns-clause-values g c = λ rows order holds own skips none.
    let w = c.args.found.now.wanted in
    let many = zip_many (λ k r. PartHolds g.R.Dir.Dir.files w.schema.now k.part r) c.args.parts.now rows holds in
    subst (λ rs. IsFolded w (joined_rows rs) c.loop-at.found.columns.items c.loop-at.found.count) (take_all c.loop-at.at rows (omega (arith, many, c.loop-at-test.false)))
    (c.loop-at.invariant.values rows order holds own skips none)
