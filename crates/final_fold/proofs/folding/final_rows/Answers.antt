use Rattle.std.proofs.Common.{◌∙◌, [], List, ap, arith, get_or, length, refl, subst, sym}
use Rattle.std.proofs.lemmas.List.{nil_from_length}
use Rattle.std.proofs.lemmas.Option.{slice_get-get_or}
use Rattle.mt_values.specs.Values.{Row}
use Rattle.row_merge.specs.mt_model.History.{IsTableSchema}
use Rattle.row_merge.specs.part_reader.Parts.{PartHolds}
use Rattle.row_merge.specs.primary_marks.Keys.{HasMarks}
use Rattle.row_merge.specs.MergedParts.{PartsHold}
use Rattle.row_merge.proofs.PartReaderGaining.{handed_on}
use Rattle.final_fold.specs.declared.asking.Wanted.{Wanted}
use Rattle.final_fold.specs.Folded.{AreOfPartitions, ExplainsFold, IsFolded, SkipNoFold}
use Rattle.final_fold.specs.Scans.{HaveTypes, joined_rows}
use Rattle.final_fold.proofs.FoldedRuns.{fold_none}
use Rattle.final_fold.proofs.FoundRows.{all_added, none_there, put_back, some_there, taken_found, taken_none}
use Rattle.final_fold.proofs.PartitionRuns.{zip_many}
use Rattle.final_fold.proofs.Scanning.{have_many}
use Rattle.final_fold.proofs.folding.final_rows.Goals as goal

-- there is no part
pub returns-then-is_empty-clause-values : goal.returns-then-is_empty-clause-values
returns-then-is_empty-clause-values g c = λ rows order holds own skips empty.
    let w = c.args.wanted.now in
    let none = none_there c.args.parts.now c.is_empty.result c.is_empty.ensures c.if-is_empty.true in
    let many = zip_many (λ k r. PartHolds g.R.Dir.Dir.files w.schema.now k.part r) c.args.parts.now rows holds in
    subst (λ (rs : List (List Row)). IsFolded w (joined_rows rs) c.args.columns.now 0) (sym (nil_from_length rows (many ∙ none))) (fold_none w c.args.columns.now empty)

pub returns-then-is_empty-clause-added : goal.returns-then-is_empty-clause-added
returns-then-is_empty-clause-added g c = record { even = λ none. none; types = refl; few = omega arith }

-- an allocation failed
pub bounds-parts-0 : goal.bounds-parts-0
bounds-parts-0 g c = some_there c.args.parts.now c.is_empty.result c.is_empty.ensures c.if-is_empty.false

pub returns-in_default-clause-damaged : goal.returns-in_default-clause-damaged
returns-in_default-clause-damaged g c =
    let parts = c.args.parts.now in
    let chosen = c.args.chosen.now in
    let many = c.requires.chosen in
    let some = some_there parts c.is_empty.result c.is_empty.ensures c.if-is_empty.false in
    record {
      at = 0;
      kept = get_or parts 0 c.index-parts-0.result;
      own = get_or chosen 0 [];
      kept_is = slice_get-get_or parts 0 c.index-parts-0.result some;
      own_is = slice_get-get_or chosen 0 [] (omega (arith, many, some));
      name_is = refl;
      explained = tt;
    }

-- the columns are those of what is found meanwhile
pub swap_columns-requires : goal.swap_columns-requires
swap_columns-requires g c =
    let w = c.args.wanted.now in
    let found = c.in-Ok.found in
    let own = subst (λ (v : Wanted). HaveTypes v.schema.now v.places.now found.columns.items) c.in-Ok.ensures.wanted c.in-Ok.ensures.found.columns in
    record { many = have_many w.schema.now w.places.now found.columns.items c.requires.wanted.places own ∙ sym (have_many w.schema.now w.places.now c.args.columns.now c.requires.wanted.places c.requires.columns) }

pub fold_partitions-requires-clause-table : goal.fold_partitions-requires-clause-table
fold_partitions-requires-clause-table g c = λ κs within. subst (λ (v : Wanted). IsTableSchema v.schema.now) (sym (c.swap_columns.ensures.wanted ∙ c.in-Ok.ensures.wanted)) c.requires.table

pub fold_partitions-requires-clause-marks : goal.fold_partitions-requires-clause-marks
fold_partitions-requires-clause-marks g c = λ κs within. subst (λ (v : Wanted). HasMarks v.schema.now) (sym (c.swap_columns.ensures.wanted ∙ c.in-Ok.ensures.wanted)) c.requires.marks

pub fold_partitions-requires-clause-found : goal.fold_partitions-requires-clause-found
fold_partitions-requires-clause-found g c = λ κs within.
    let e = c.swap_columns.ensures in
    taken_found c.args.wanted.now c.in-Ok.found c.swap_columns.new.found c.args.columns.now c.in-Ok.ensures.wanted e.items e.wanted e.count c.in-Ok.ensures.found c.requires.columns

pub returns-in_err-fold_partitions-clause-damaged : goal.returns-in_err-fold_partitions-clause-damaged
returns-in_err-fold_partitions-clause-damaged g c =
    let files = g.R.Dir.Dir.files in
    let parts = c.args.parts.now in
    let chosen = c.args.chosen.now in
    let e = c.in_err-fold_partitions.field-0.0 in
    handed_on (ExplainsFold files parts chosen c.args.wanted.now) c.from_residual.result e c.from_residual.ensures.1
    (subst (λ (v : Wanted). ExplainsFold files parts chosen v e) (c.swap_columns.ensures.wanted ∙ c.in-Ok.ensures.wanted) c.in_err-fold_partitions.ensures.damaged)

-- there are as many of them as before
pub swap_columns-requires-2 : goal.swap_columns-requires-2
swap_columns-requires-2 g c =
    let w = c.args.wanted.now in
    let e = c.swap_columns.ensures in
    let first = c.in-Ok.found in
    let end = c.fold_partitions.new.found in
    let got = c.in_ok-fold_partitions.ensures.gets.got in
    let same = got.wanted_is ∙ e.wanted ∙ c.in-Ok.ensures.wanted in
    let own = subst (λ (v : Wanted). HaveTypes v.schema.now v.places.now end.columns.items) same got.found.columns in
    let start = subst (λ (v : Wanted). HaveTypes v.schema.now v.places.now first.columns.items) c.in-Ok.ensures.wanted c.in-Ok.ensures.found.columns in
    record { many = have_many w.schema.now w.places.now end.columns.items c.requires.wanted.places own ∙ sym (have_many w.schema.now w.places.now first.columns.items c.requires.wanted.places start) ∙ sym (ap length e.columns) }

pub returns-clause-values : goal.returns-clause-values
returns-clause-values g c = λ rows order holds own skips empty.
    let files = g.R.Dir.Dir.files in
    let w = c.args.wanted.now in
    let parts = c.args.parts.now in
    let chosen = c.args.chosen.now in
    let e = c.swap_columns.ensures in
    let back = c.swap_columns-2.ensures in
    let start = c.swap_columns.new.found in
    let end = c.fold_partitions.new.found in
    let same = e.wanted ∙ c.in-Ok.ensures.wanted in
    let none = taken_none w c.in-Ok.found start c.args.columns.now c.in-Ok.ensures.wanted e.items e.wanted e.count c.in-Ok.ensures.none empty in
    let folded = c.in_ok-fold_partitions.ensures.values rows order (subst (λ (v : Wanted). PartsHold files v.schema.now parts rows) (sym same) holds) (subst (λ (v : Wanted). AreOfPartitions v.schema.now parts rows) (sym same) own)
    (subst (λ (v : Wanted). SkipNoFold v chosen rows) (sym same) skips) none in
    put_back w c.in-Ok.found start c.args.columns.now c.in-Ok.ensures.wanted e.items e.wanted e.count end c.swap_columns-2.new.columns c.swap_columns-2.new.found.count back.columns back.count (joined_rows rows) folded

pub returns-clause-added : goal.returns-clause-added
returns-clause-added g c =
    let w = c.args.wanted.now in
    let e = c.swap_columns.ensures in
    let back = c.swap_columns-2.ensures in
    all_added w c.in-Ok.found c.swap_columns.new.found c.args.columns.now c.in-Ok.ensures.wanted e.items e.wanted e.count c.fold_partitions.new.found c.swap_columns-2.new.columns c.swap_columns-2.new.found.count back.columns back.count
    c.in-Ok.ensures.none c.requires.columns c.in_ok-fold_partitions.ensures.gets
