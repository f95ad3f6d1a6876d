use Rattle.std.proofs.Common.{◌≡◌, ◌<◌, ◌≤◌, List, ap, arith, get_or, is_some, length, refl, subst, ◌∙◌}
use Rattle.std.proofs.lemmas.List.{length-map}
use Rattle.std.proofs.lemmas.Option.{slice_get-get_or}
use Rattle.mt_base.specs.declared.name.FileId.TheVariants as file
use Rattle.mt_outside.specs.Files.{appended}
use Rattle.mt_values.specs.declared.schema.Column.{Column}
use Rattle.mt_values.specs.declared.value.ColType.{ColType}
use Rattle.mt_values.specs.ColumnBytes.{column_bytes}
use Rattle.mt_values.specs.Grid.{AreRowsOf, column_of, picked}
use Rattle.mt_values.specs.Values.{Row}
use Rattle.mt_values.proofs.Grids.{AreRowsOf_picked_within, length-column_of, length_picked_within}
use Rattle.mt_values.proofs.OrderBy.{all_reach}
use Rattle.stage_dir.specs.Stages.{has_file}
use Rattle.part_writer.specs.declared.column_out.ColumnOut.{ColumnOut}
use Rattle.part_writer.specs.Growing.{Grows}
use Rattle.part_writer.proofs.ColumnFiles.{all_grown, files_begun, files_grown, files_more, none_grown, one_grown, told_same}
use Rattle.part_writer.proofs.Filling.{fits_below, picked_typed, rows_fit}
use Rattle.part_writer.proofs.Growth.{has_content}
use Rattle.part_writer.proofs.column_out.write_columns.Goals as goal

pub loop-number-init : goal.loop-number-init
loop-number-init g c = record {
  names = c.requires.names;
  intact = c.requires.intact;
  files = λ rows has. files_begun c.args.schema.now rows (picked c.args.block.now.rows c.args.order.now) c.args.stage.now has;
  grown = none_grown c.args.schema.now.granularity (picked c.args.block.now.rows c.args.order.now) c.args.columns.now;
  encodable = λ k below. absurd (omega arith);
  told = refl;
  count = refl;
}

pub add-requires-clause-there : goal.add-requires-clause-there
add-requires-clause-there g c κs within =
    let n = c.loop-number.number in
    let below : n < length c.args.schema.now.columns = omega (arith, c.requires.columns, c.loop-number.auto.columns, c.loop-number-test.true) in
    ap (has_file (file.Column n)) c.loop-number.invariant.names ∙ has_content c.args.schema.now (file.Column n) below

pub loop-number-preserved : goal.loop-number-preserved
loop-number-preserved g c =
    let schema = c.args.schema.now in
    let block = c.args.block.now in
    let order = c.args.order.now in
    let more : List Row = picked block.rows order in
    let n = c.loop-number.number in
    let any : ColumnOut = c.index-columns-number.result in
    let old : ColumnOut = get_or c.loop-number.columns n any in
    let before = c.loop-number.invariant in
    let now = c.in_ok-add.ensures in
    let below : n < length schema.columns = omega (arith, c.requires.columns, c.loop-number.auto.columns, c.loop-number-test.true) in
    let wide : n < length block.types = omega (arith, below, ap length c.requires.types, length-map schema.columns (λ (x : Column). x.col_type)) in
    let many : length more ≡ length order = length_picked_within block.rows order c.requires.places in
    let long : length (column_of n more) ≡ length more = length-column_of n more (all_reach block.types more n (AreRowsOf_picked_within block.types block.rows order c.requires.places c.len.ensures.typed) wide) in
    let bytes : c.as_slice.result.now ≡ column_bytes (column_of n more) = c.as_slice.ensures ∙ c.in_ok-column.ensures.bytes in
    let grows : Grows schema.granularity (column_of n more) old c.add.new.self =
    now.grown schema.granularity (column_of n more) (omega (arith, long, many, c.requires.some)) (omega (arith, long, many, c.requires.few)) bytes in
    record {
      names = now.names ∙ before.names;
      intact = now.intact;
      files = λ rows has. files_more schema rows more n c.loop-number.stage c.add.new.stage c.as_slice.result.now (before.files rows has) below now.names now.files now.intact bytes;
      grown = one_grown schema.granularity n more c.args.columns.now c.loop-number.columns _ old c.add.new.self before.grown
          (slice_get-get_or c.loop-number.columns n any (omega (arith, c.loop-number.auto.columns, c.loop-number-test.true))) refl grows;
      encodable = fits_below more n before.encodable c.in_ok-column.ensures.encodable;
      told = ap is_some now.files ∙ told_same (appended (file.Column n) c.as_slice.result.now) c.loop-number.stage.files ∙ before.told;
      count = now.cause.ok ∙ before.count;
    }

pub returns-clause-files : goal.returns-clause-files
returns-clause-files g c = λ rows has.
    files_grown c.args.schema.now rows (picked c.args.block.now.rows c.args.order.now) c.loop-number.number c.loop-number.stage
    (omega (arith, c.requires.columns, c.loop-number.auto.columns, c.loop-number-test.false)) (c.loop-number.invariant.files rows has)

pub returns-clause-kept : goal.returns-clause-kept
returns-clause-kept g c = λ rows typed whole keeps.
    all_grown c.args.schema.now rows (picked c.args.block.now.rows c.args.order.now) c.loop-number.number c.args.columns.now c.loop-number.columns typed whole c.loop-number.invariant.grown
    (omega (arith, c.requires.columns, c.loop-number.auto.columns, c.loop-number-test.false)) keeps

pub returns-clause-encodable : goal.returns-clause-encodable
returns-clause-encodable g c =
    let block = c.args.block.now in
    let more : List Row = picked block.rows c.args.order.now in
    let width : length block.types ≡ length c.args.schema.now.columns = ap length c.requires.types ∙ length-map c.args.schema.now.columns (λ (x : Column). x.col_type) in
    let past : length c.args.schema.now.columns ≤ c.loop-number.number = omega (arith, c.requires.columns, c.loop-number.auto.columns, c.loop-number-test.false) in
    rows_fit block.types more (picked_typed block.types block.rows c.args.order.now c.len.ensures.typed c.requires.places) (λ k below. c.loop-number.invariant.encodable k (omega (arith, width, past, below)))

pub returns-clause-typed : goal.returns-clause-typed
returns-clause-typed g c =
    let block = c.args.block.now in
    subst (λ (ts : List ColType). AreRowsOf ts (picked block.rows c.args.order.now)) c.requires.types (picked_typed block.types block.rows c.args.order.now c.len.ensures.typed c.requires.places)
