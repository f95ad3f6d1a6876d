use Rattle.std.proofs.Common.{◌≡◌, ◌∷◌, ◌∙◌, [], ap, arith, get_or, length, refl, rules, sym}
use Rattle.std.proofs.lemmas.List.{get_or_default, length_push}
use Rattle.std.proofs.lemmas.Option.{slice_get-get_or}
use Rattle.row_merge.specs.column_file.Spellings.{with_values}
use Rattle.mt_values.specs.Grid.{Cells, column_of}
use Rattle.mt_values.specs.Values.{type_of}
use Rattle.row_merge.proofs.PartReaderGaining.{read_all, read_more, rest_more}
use Rattle.final_fold.proofs.Gains.{GainsRows, gained_rows}
use Rattle.final_fold.proofs.RowValues.{one_value, row_many, row_type}
use Rattle.final_fold.proofs.found.add_row.Goals as goal

pub bounds-columns-number : goal.bounds-columns-number
bounds-columns-number c =
    omega (arith, row_many c.args.row.now c.args.places.now c.args.columns.now c.requires.within c.requires.columns, c.loop-number.auto.columns, c.loop-number-test.true)

pub offset_bounds-columns-number : goal.offset_bounds-columns-number
offset_bounds-columns-number c =
    let long : length c.args.columns.now ≡ length c.args.places.now = row_many c.args.row.now c.args.places.now c.args.columns.now c.requires.within c.requires.columns in
    search rules

pub push_cell-requires : goal.push_cell-requires
push_cell-requires c =
    let row = c.args.row.now in
    let places = c.args.places.now in
    let olds = c.args.columns.now in
    let i = c.loop-number.number in
    let any : Cells = c.index-columns-number.result in
    let long = row_many row places olds c.requires.within c.requires.columns in
    ap type_of c.of.ensures
    ∙ row_type row places olds c.requires.within c.requires.columns i (get_or olds i any) c.at.result.now c.loop-number-test.true (slice_get-get_or olds i any (omega (arith, long, c.loop-number-test.true))) c.at.ensures
    ∙ ap (λ (x : Cells). x.col_type) (sym (c.loop-number.invariant.rest i any (omega arith)))

pub loop-number-preserved : goal.loop-number-preserved
loop-number-preserved c =
    let row = c.args.row.now in
    let olds = c.args.columns.now in
    let places = c.args.places.now in
    let i = c.loop-number.number in
    let any : Cells = c.index-columns-number.result in
    let old : Cells = get_or c.loop-number.columns i any in
    let long = row_many row places olds c.requires.within c.requires.columns in
    let wide : length c.loop-number.columns ≡ length places = omega (arith, long, c.loop-number.auto.columns) in
    let old_is : old ≡ get_or olds i old = c.loop-number.invariant.rest i any (omega arith) ∙ get_or_default olds i any old (omega (arith, long, c.loop-number-test.true)) in
    let e = c.in_ok-push_cell.ensures.ok in
    record {
      gained = read_more (GainsRows (λ rows. rows ≡ row ∷ []) 1) places olds c.loop-number.columns _ i old c.push_cell.new.self c.loop-number-test.true wide long old_is refl c.loop-number.invariant.gained
          (record {
            col_type = ap (λ (x : Cells). x.col_type) e;
            even = ap (λ (x : Cells). length x.values) e ∙ length_push old.values _;
            values = λ rows are. e ∙ ap (with_values old) (ap (λ v. v ∷ []) c.of.ensures ∙ sym (one_value row (get_or places i 0) c.at.result.now c.at.ensures) ∙ ap (column_of (get_or places i 0)) (sym are));
          });
      rest = rest_more olds c.loop-number.columns _ i c.push_cell.new.self c.loop-number.invariant.rest refl;
    }

pub returns : goal.returns
returns c =
    let row = c.args.row.now in
    let olds = c.args.columns.now in
    let places = c.args.places.now in
    let long = row_many row places olds c.requires.within c.requires.columns in
    gained_rows (λ rows. rows ≡ row ∷ []) 1 (row ∷ []) places olds c.loop-number.columns refl
    (read_all (GainsRows (λ rows. rows ≡ row ∷ []) 1) places olds c.loop-number.columns c.loop-number.number c.loop-number-test.false (omega (arith, long, c.loop-number.auto.columns)) long c.loop-number.invariant.gained)
